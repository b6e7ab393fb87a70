-- Laws of `Least`.
use mathlib.Core.Path.{◌≡◌, refl, sym, ap, ◌∙◌, subst}
use mathlib.Core.Bool.{Bool, true, false}
use mathlib.Core.List.Memᴰ
use mathlib.Core.List.{List, [], ◌∷◌, Memᴰ}
use mathlib.Core.Logic.{◌⊎◌, inl, inr}
use Prim.Native.Nat.{ℕ, ◌+◌, ◌*◌, ◌≤◌, ◌<◌}
use native.Mathlib.Omega.{arith}
use lib.Dec.{eqb}
use lib.ListN.{get_or}
use borrow.Author.Tests.{eq-eqb, ne_eqb}
use Rattle.base.proofs.Laws.Truth.{lt_cases, not-both}
use Rattle.base.specs.Lists.{filter}
use Rattle.base.proofs.Laws.Members.{mem_filter}
use Rattle.names.specs.Inner.Sets.{Empty}
use Rattle.names.specs.Inner.Names.{Names}
use Rattle.names_width.specs.declared.Width.{Width}
use Rattle.names_width.specs.Inner.Widths.{row_words}
use Rattle.order_rows.specs.Inner.Rows.{held_row}
use Rattle.order.specs.Definitions.{Definition, of_statement}
use Rattle.definition.specs.States as state
use Rattle.definition.specs.States.{State, sound, if_sound}
use Rattle.definition.specs.Using.{record_one, unless_some, at_least_one}
use Rattle.definition_state.specs.declared.Progress.{Progress}
use Rattle.definition_state.specs.Inner.Faults.{meaning}
use Rattle.definition_state.specs.Inner.Held.{Held}
use Rattle.definition_state.specs.Inner.Frames.{guarded, Agree, Runs}
use Rattle.definition_state.proofs.Laws.Frames.{runs_none}
use Rattle.definition_record.proofs.Laws.Guards.{guard_cases, if_same}
use Rattle.definition_record.specs.Inner.Records.{OneRecorded}
use Rattle.definition_record.specs.Inner.Least.{Looked, NoRow, LeastOne}

-- ---- the rows of a statement

module _ (v : ℕ) (i : ℕ) (w : List ℕ) where
  pub look_found : (a e j : ℕ) → a ≤ j → j < e → get_or w (v * j) 0 ≡ i → Looked v i w a e true
  look_found a e j low high is = record { found = λ z. (j, low, high, is); missed = λ z. absurd (not-both refl z) }

  pub look_missed : (a e j : ℕ) → e ≤ j → NoRow v i w a j → Looked v i w a e false
  look_missed a e j high none = record { found = λ z. absurd (not-both z refl); missed = λ z k low l. none k low (omega arith) }

  pub no_next : (a j : ℕ) → NoRow v i w a j → (get_or w (v * j) 0 ≡ i → ⊥) → NoRow v i w a (j + 1)
  no_next a j none other k low l = go (lt_cases k j)
    where
      go : (k < j) ⊎ (j ≤ k) → get_or w (v * k) 0 ≡ i → ⊥
      go (inl h) = none k low h
      go (inr h) = λ e. let same : k ≡ j = omega arith in other (ap (λ (n : ℕ). get_or w (v * n) 0) (sym same) ∙ e)

-- ---- what the definitions ask

none_left : (f : Definition → Bool) (l : List Definition) → ((d : Definition) → Memᴰ d l → f d ≡ false) → filter f l ≡ []
none_left f [] h = refl
none_left f (d ∷ l) h = rw (h d (Memᴰ.head refl), none_left f l (λ e m. h e (Memᴰ.tail m)))

module _ (i : ℕ) (s : State) where
  one-there : {d : Definition} (l : List Definition) → Memᴰ d l → unless_some l i s ≡ s
  one-there [] m = absurd (Memᴰ.not-nil m)
  one-there (e ∷ l) m = refl

  module _ (x : Width) (w : List ℕ) (c : ℕ) (h : Held x w c s.definitions) where
    there-stays : (j : ℕ) → j < c → get_or w (row_words x * j) 0 ≡ i → at_least_one i s ≡ s
    unfolding at_least_one held_row
    there-stays j l e =
        let f = h.each j l in
        one-there (of_statement i s.definitions) (mem_filter (λ (d : Definition). eqb d.statement i) s.definitions f.1 (eq-eqb f.0.statement i (sym (ap (λ (d : Definition). d.statement) f.2) ∙ e)))

    none_records : NoRow (row_words x) i w 0 c → record_one i 0 [] s ≡ at_least_one i s
    unfolding at_least_one held_row
    none_records none = sym (ap (λ (l : List Definition). unless_some l i s) (none_left (λ (d : Definition). eqb d.statement i) s.definitions (λ d m.
        let f = h.all d m in
        ne_eqb d.statement i (λ e. none f.0 (omega arith) f.1 (ap (λ (x : Definition). x.statement) f.2 ∙ e)))))

module _ (i first : ℕ) (p : Progress) (w : List ℕ) (r : Bool) (look : Looked (row_words p.width) i w first p.count r) where
  pub least_there : r ≡ true → LeastOne i first p w p w
  least_there there front t fs = record {
    grown = (runs_none t (λ s. s) (λ s. refl) p fs w).grown;
    agrees = λ spans s h. subst (Agree t spans p fs w) (sym (stays spans s h (guard_cases s.run.fault))) h;
  }
    where
      stays : (spans : List ℕ) (s : State) → Agree t spans p fs w s → (s.run.fault ≡ sound) ⊎ ((f : State → State) (u : State) → if_sound s.run.fault f u ≡ u)
          → guarded (at_least_one i) s ≡ s
      stays spans s h (inl e) =
          let f = look.found there in
          subst (λ (q : state.Fault). if_sound q (at_least_one i) s ≡ s) (sym e) (there-stays i s p.width w p.count (h.whole e).rows f.0 f.2 f.3)
      stays spans s h (inr stop) = stop (at_least_one i) s

  pub least_recorded : r ≡ false → (none : Names) → Empty none.words → (q : Progress) (v : List ℕ) → OneRecorded i none p w q v → LeastOne i first p w q v
  least_recorded missing none clear q v one front t fs = record {
    grown = runs.grown;
    agrees = λ spans s h. subst (Agree t spans q fs v) (same spans s h (guard_cases s.run.fault)) (runs.agrees spans s h);
  }
    where
      runs : Runs t (guarded (record_one i 0 [])) p fs w q fs v
      runs = one t [] fs (record { has = λ x. sym (clear.has x) })

      all : meaning p.fault ≡ sound → NoRow (row_words p.width) i w 0 p.count
      all fine j low high e = go (lt_cases j first)
        where
          go : (j < first) ⊎ (first ≤ j) → ⊥
          go (inl l) = front fine j l e
          go (inr l) = look.missed missing j l high e

      same : (spans : List ℕ) (s : State) → Agree t spans p fs w s → (s.run.fault ≡ sound) ⊎ ((f : State → State) (u : State) → if_sound s.run.fault f u ≡ u)
          → guarded (record_one i 0 []) s ≡ guarded (at_least_one i) s
      same spans s h (inl e) =
          if_same s.run.fault (record_one i 0 []) (at_least_one i) s (none_records i s p.width w p.count (h.whole e).rows (all (h.fault ∙ e)))
      same spans s h (inr stop) = stop (record_one i 0 []) s ∙ sym (stop (at_least_one i) s)
