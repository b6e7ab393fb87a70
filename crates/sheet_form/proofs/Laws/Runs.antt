-- Sections read one behind the other.
use mathlib.Core.Path.{◌≡◌, refl, sym, ap, ap₂, ◌∙◌}
use mathlib.Core.Bool.{Bool, true, false, cond}
use mathlib.Core.List.{List, [], ◌∷◌, map}
use Prim.Native.Nat.{ℕ, ◌+◌, ◌<◌}
use native.Mathlib.Omega.{arith}
use lib.Dec.{eqb}
use lib.ListN.{length, get_or, drop}
use lib.Seq.{drop-length}
use Rattle.std.specs.Prelude.{Result, IsErrAnd}
use Rattle.std.proofs.lemmas.Result.{err_from_is_err_and}
use Rattle.sheet.specs.Text.{newline, Text, rest, line, push, lines}
use Rattle.sheet.proofs.Laws.LineLaws.{drop-next}
use Rattle.sheet.specs.Form.{Section, sections, Whole, faulty, formed, also, whole_from, form, fault_of, rows_in}
use Rattle.sheet.proofs.Laws.FormLaws.{also-fault}
use Rattle.sheet.specs.Questions.{form_fault, section_rows}
use Rattle.sheet.specs.Faults.{listed}
use Rattle.sheet.specs.declared.Area.{Area}
use Rattle.sheet.specs.declared.Counts.{Counts}
use Rattle.sheet.specs.Tables.{areas, put_sections, tables}
use Rattle.sheet_sections.specs.declared.Progress.{Progress}
use Rattle.sheet_sections.specs.Inner.Sections.{SoundProgress, remaining, SectionIs, SectionFault}
use Rattle.sheet_form.specs.Inner.Reads.{SheetIs, SheetRead}

-- ---- a line at fault

-- The first fault of sections that are still to come is a line.
pub record FaultIn (ss : List Section) (s : List ℕ) (p : Progress) (line : ℕ) : Type 0 where
  pub some : 0 < line
  pub is : fault_of (remaining ss s p) ≡ line

-- It is in the next section, or behind it.
module _ {s : List ℕ} {p : Progress} {c : Section} {a : Area} {ss : List Section} {line : ℕ} where
  pub fault_here : SectionFault s p c.heading a line → c.width ≡ a.width → FaultIn (c ∷ ss) s p line
  unfolding fault_of
  fault_here f w = record { some = f.some; is = ap fault_of (f.says c ss refl w) }

  pub fault_behind : {d e : List ℕ} {r : Progress} → SectionIs s p c.heading a d r e → c.width ≡ a.width → FaultIn ss s r line
      → FaultIn (c ∷ ss) s p line
  fault_behind {r = r} x w f = record {
    some = f.some;
    is = ap fault_of (x.says c ss refl w) ∙ also-fault x.rows (remaining ss s r) ∙ f.is;
  }

-- ---- behind the last section

sheet-more : (n b : ℕ) (s : List ℕ) → whole_from [] n (lines (b ∷ s)) ≡ faulty n
unfolding whole_from lines
sheet-more n b s = go (eqb b newline) (lines s)
  where
    go : (e : Bool) (t : Text) → whole_from [] n (cond e (line [] t) (push b t)) ≡ faulty n
    go true t = refl
    go false (rest r) = refl
    go false (line l t) = refl

module _ (s : List ℕ) (p : Progress) where
  remaining-end : p.next ≡ length s → remaining [] s p ≡ formed []
  unfolding remaining whole_from lines
  remaining-end h = rw h (ap (λ (l : List ℕ). whole_from [] p.line (lines l)) (drop-length s))

  -- Something stands there.
  pub fault_end : SoundProgress s p → (p.next ≡ length s → ⊥) → FaultIn [] s p p.line
  unfolding remaining fault_of
  fault_end o n =
      let h : p.next < length s = omega (arith, o.inside) in
      let b = get_or s p.next 0 in
      let behind = drop (p.next + 1) s in
      record {
        some = o.some;
        is = ap (λ (l : List ℕ). fault_of (whole_from [] p.line (lines l))) (drop-next s p.next h) ∙ ap fault_of (sheet-more p.line b behind);
      }

-- ---- no line at fault

-- Sections with their areas are read from p on, with the table d, up to q, with the table e; they have so many rows.
pub data SectionsRun (s : List ℕ) (q : Progress) (e : List ℕ) : List Section → List Area → Progress → List ℕ → List ℕ → Type 0 where
  none : SectionsRun s q e [] [] q e []
  next : {p r : Progress} {d m : List ℕ} {c : Section} {a : Area} {ss : List Section} {as' : List Area} {ks : List ℕ}
      → SectionIs s p c.heading a d r m → c.width ≡ a.width → SectionsRun s q e ss as' r m ks
      → SectionsRun s q e (c ∷ ss) (a ∷ as') p d (r.rows ∷ ks)

module _ {s : List ℕ} {q : Progress} {e : List ℕ} where
  rows : {ss : List Section} {as' : List Area} {p : Progress} {d ks : List ℕ} → SectionsRun s q e ss as' p d ks → List (List (List ℕ))
  rows none = []
  rows (next x w run) = x.rows ∷ rows run

  counted : {ss : List Section} {as' : List Area} {p : Progress} {d ks : List ℕ} (run : SectionsRun s q e ss as' p d ks)
      → ks ≡ map length (rows run)
  unfolding rows
  counted none = refl
  counted (next x w run) = ap₂ (λ (k : ℕ) (ks : List ℕ). k ∷ ks) x.count (counted run)

  stored : {ss : List Section} {as' : List Area} {p : Progress} {d ks : List ℕ} (run : SectionsRun s q e ss as' p d ks)
      → e ≡ put_sections as' (rows run) d
  unfolding rows put_sections
  stored none = refl
  stored (next {as' = as'} x w run) = stored run ∙ ap (put_sections as' (rows run)) x.table

  -- Nothing stands behind the last.
  says : q.next ≡ length s → {ss : List Section} {as' : List Area} {p : Progress} {d ks : List ℕ} (run : SectionsRun s q e ss as' p d ks)
      → remaining ss s p ≡ formed (rows run)
  unfolding rows
  says h none = remaining-end s q h
  says h (next {c = c} {ss = ss} x w run) = x.says c ss refl w ∙ ap (also x.rows) (says h run)

-- ---- the five sections

-- Where reading begins.
abbrev pub start_of_run : Progress
start_of_run = record { next = 0; line = 1; rows = 0 }

module _ {s : List ℕ} where
  pub sheet-fault : {line : ℕ} → FaultIn sections s start_of_run line → (0 < line) × (form_fault s ≡ line)
  unfolding form_fault form remaining
  sheet-fault f = (f.some, f.is)

  -- What a `?` hands out.
  pub fault_out : (d e : List ℕ) {line : ℕ} (r : Result Counts ℕ) → IsErrAnd r (λ y. y ≡ line) → FaultIn sections s start_of_run line
      → SheetRead s d r e
  fault_out d e r h f = let p = err_from_is_err_and r h in rw (p.1, p.2) (sheet-fault f)

  pub sheet_read_lem : {d e : List ℕ} {q : Progress} (c : Counts) → SectionsRun s q e sections areas start_of_run d (listed c) → q.next ≡ length s
      → SheetIs s d c e
  unfolding form_fault section_rows form remaining rows_in tables fault_of
  sheet_read_lem {d} {e} {q} c run h =
      let all : form sections s ≡ formed (rows run) = says h run in
      record {
        formed = ap fault_of all;
        count = counted run ∙ sym (ap (λ (t : Whole). map length (rows_in t)) all);
        table = stored run ∙ sym (ap (λ (t : Whole). put_sections areas (rows_in t) d) all);
      }
