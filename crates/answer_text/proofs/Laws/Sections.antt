-- Laws of `Sections`.
use mathlib.Core.Path.{◌≡◌, sym, ap, ap₂, ◌∙◌}
use mathlib.Core.List.{List, [], ◌∷◌, ◌++◌, append_assoc}
use mathlib.Core.Option.{Option}
use Prim.Native.Nat.{ℕ, suc, ◌+◌, ◌≤◌}
use Prim.Native.String.{String}
use native.Mathlib.Omega.{arith}
use native.Mathlib.Numerals.{add-one}
use Rattle.base.specs.Limits as limits
use Rattle.base.specs.Lists.{range, concat_map}
use Rattle.sheet.specs.Text.{newline, bytes}
use Rattle.answer.specs.Text.{row_line, query_rows, place_rows, set_rows, all_rows, section, answer_text}
use Rattle.definition.specs.States.{QuerySchedule, schedule_of}
use Rattle.names_width.specs.declared.Width.{Width}
use Rattle.base.proofs.Laws.ListLaws.{concat_map-nested}
use Rattle.answer_text.specs.Inner.Stored.{StoredAt, Stored}
use Rattle.answer_text.specs.Inner.Ranges.{texts, section_of}
use Rattle.answer_text.proofs.Laws.Ranges.{texts-same}
use Rattle.answer_write.specs.declared.Text.{Text}
use Rattle.answer_write.specs.Inner.Texts.{Extends}
use Rattle.answer_write.proofs.Laws.Texts.{extends_as}
use Rattle.answer_text.specs.Inner.Sections.{PutsSection, PutsAnswer}
use Rattle.answer_text.specs.Inner.Texts.{query_text, places_text, sets_text}
use Rattle.answer_text.proofs.Laws.Agrees.{query-stored, places-stored, sets-stored}

-- ---- a section

module _ (rows : ℕ → Option QuerySchedule → List (List ℕ)) (f : ℕ → List ℕ) (heading : String) (n : ℕ) (schedules : List QuerySchedule) where
  section-same : ((q : ℕ) → 1 ≤ q → q ≤ n → concat_map row_line (rows q (schedule_of schedules q)) ≡ f q)
      → (bytes heading ++ (newline ∷ [])) ++ (texts f 1 (n + 1) ++ (newline ∷ [])) ≡ section heading (all_rows rows n schedules)
  unfolding section all_rows texts
  section-same same =
      append_assoc (bytes heading) (newline ∷ []) (texts f 1 (n + 1) ++ (newline ∷ []))
      ∙ ap (λ (l : List ℕ). bytes heading ++ (newline ∷ (l ++ (newline ∷ []))))
      (sym (concat_map-nested row_line _ (range 1 (suc n)) ∙ ap (texts _ 1) (sym (add-one n)) ∙ texts-same _ f 1 (n + 1) (λ q l u. same q l (omega arith))))

-- A heading, as a line.
abbrev pub heading : String → List ℕ
heading line = bytes line ++ (newline ∷ [])

module _ (v : Width) (w : List ℕ) (n : ℕ) (few : n ≤ limits.most_queries) where
  -- The text of the three sections, read off the words.
  abbrev words_text : List ℕ
  words_text =
      section_of (heading "query placed input") (query_text v w) n
      ++ (section_of (heading "query place index reached") (places_text v w) n ++ section_of (heading "query set name line col") (sets_text v w) n)

  module _ (schedules : List QuerySchedule) (stored : Stored v w schedules) where
    -- What the words give of the queries is a section of the schedules that they store.
    pub stored_section : (rows : ℕ → Option QuerySchedule → List (List ℕ)) (f : ℕ → List ℕ) (line : String)
        → ((q : ℕ) (o : Option QuerySchedule) → StoredAt v w q o → concat_map row_line (rows q o) ≡ f q)
        → section_of (heading line) f n ≡ section line (all_rows rows n schedules)
    stored_section rows f line same = section-same rows f line n schedules (λ q l u. same q (schedule_of schedules q) (stored q l (omega arith)))

    stored_text : words_text ≡ answer_text n schedules
    unfolding answer_text
    stored_text =
        ap₂ (λ (k l : List ℕ). k ++ l) (stored_section query_rows (query_text v w) "query placed input" (query-stored v w))
        (ap₂ (λ (k l : List ℕ). k ++ l) (stored_section place_rows (places_text v w) "query place index reached" (places-stored v w))
        (stored_section set_rows (sets_text v w) "query set name line col" (sets-stored v w)))

  -- A text that has it at its end has the section, whatever schedules the words store.
  pub put_section : (rows : ℕ → Option QuerySchedule → List (List ℕ)) (f : ℕ → List ℕ) (line : String)
      → ((q : ℕ) (o : Option QuerySchedule) → StoredAt v w q o → concat_map row_line (rows q o) ≡ f q)
      → (t u : Text) → Extends t (section_of (heading line) f n) u → PutsSection rows line v w n t u
  put_section rows f line same t u a schedules stored = (extends_as t _ _ u (stored_section schedules stored rows f line same) a).puts

  pub put_queries : (t u : Text) → Extends t (section_of (heading "query placed input") (query_text v w) n) u
      → PutsSection query_rows "query placed input" v w n t u
  put_queries = put_section query_rows (query_text v w) "query placed input" (query-stored v w)

  pub put_places : (t u : Text) → Extends t (section_of (heading "query place index reached") (places_text v w) n) u
      → PutsSection place_rows "query place index reached" v w n t u
  put_places = put_section place_rows (places_text v w) "query place index reached" (places-stored v w)

  pub put_sets : (t u : Text) → Extends t (section_of (heading "query set name line col") (sets_text v w) n) u
      → PutsSection set_rows "query set name line col" v w n t u
  put_sets = put_section set_rows (sets_text v w) "query set name line col" (sets-stored v w)

  -- The three are the answer, whatever schedules the words store.
  pub put_all : (t u : Text) → Extends t words_text u → PutsAnswer v w n t u
  put_all t u a = record {
    same = a.same;
    puts = λ schedules stored. (extends_as t _ _ u (stored_text schedules stored) a).puts;
  }
