-- Laws of `FirstUse`.
use mathlib.Core.Path.{◌≡◌, refl, sym, ap₂, ◌∙◌, subst}
use mathlib.Core.Bool.{true, false, and-false}
use mathlib.Core.List.{List}
use mathlib.Core.Logic.{◌⊎◌, inl, inr}
use mathlib.Core.Option.{Option, none, some}
use Prim.Native.Nat.{ℕ, ◌+◌, ◌-◌, ◌*◌, ◌/◌, ◌%◌, ◌≤◌, ◌<◌}
use native.Mathlib.Omega.{arith}
use lib.Dec.{eqb, ltb}
use lib.ListN.{length, get_or}
use borrow.Author.Tests.{eq-eqb, ne_eqb, lt-ltb, le-ltb}
use Rattle.base.specs.Limits as limits
use Rattle.base.proofs.Laws.Truth.{lt_cases, and_intro, or_left, or_right}
use Rattle.sheet.specs.declared.Row.{Row}
use Rattle.scope.specs.Scopes.{Span, span_in}
use Rattle.definition.specs.Uses.{is_before}
use Rattle.definition.specs.States as spec
use Rattle.definition.specs.States.{State, sound, fail, set_run, fail_or}
use Rattle.definition.specs.Using.{used_before_at, check_first_use}
use Rattle.definition_walk.specs.Inner.Firsts.{first_word, Firsts}
use Rattle.definition_state.specs.declared.Fault.TheVariants.{UsedBefore}
use Rattle.definition_state.specs.declared.Progress.{Progress}
use Rattle.definition_state.specs.Inner.Faults.{is_sound}
use Rattle.definition_state.specs.Inner.Frames.{failed, guarded, WholeState, Agree}
use Rattle.definition_state.proofs.Laws.Steps.{sound-is, runs-stays}
use Rattle.definition_record.proofs.Laws.Guards.{if_same, runs_as, runs-sound}
use Rattle.definition_record.specs.Inner.FirstUse.{UseChecked}

-- ---- positions as numbers

-- A position that stands before another is the lower number.
module _ (q : Span) (w : Row) (left : q.col < 65536) (right : w.col < 65536) where
  lower_before : q.line * 65536 + q.col < w.line * 65536 + w.col → is_before (some q) w ≡ true
  lower_before l = go (lt_cases q.line w.line)
    where
      go : (q.line < w.line) ⊎ (w.line ≤ q.line) → is_before (some q) w ≡ true
      go (inl h) = or_left _ _ (lt-ltb q.line w.line h)
      go (inr h) =
          or_right (ltb q.line w.line) _
          (and_intro _ _ (eq-eqb q.line w.line (omega arith)) (lt-ltb q.col w.col (omega arith)))

  higher_after : w.line * 65536 + w.col ≤ q.line * 65536 + q.col → is_before (some q) w ≡ false
  higher_after l = go (lt_cases w.line q.line)
    where
      go : (w.line < q.line) ⊎ (q.line ≤ w.line) → is_before (some q) w ≡ false
      go (inl h) = rw (le-ltb q.line w.line (omega arith), ne_eqb q.line w.line (λ e. omega arith))
      go (inr h) = rw (le-ltb q.line w.line (omega arith), le-ltb q.col w.col (omega arith)) (and-false (eqb q.line w.line))

-- ---- what the definitions do

-- The question, asked where there is no fault.
abbrev asked : Row → State → State
asked w s = fail_or (used_before_at (span_in s.first_uses w.name) w) (λ t. t) s

asked_is : (w : Row) (s : State) → guarded (asked w) s ≡ check_first_use s w
unfolding check_first_use
asked_is w s = if_same s.run.fault (asked w) (fail_or (used_before_at (span_in s.first_uses w.name) w) (λ t. t)) s refl

-- The first use o of the name is the word n.
module _ (w : Row) (s : State) (n : ℕ) where
  abbrev answer : Option Span → State
  answer o = fail_or (used_before_at o w) (λ t. t) s

  abbrev Low : Option Span → Type 0
  Low o = (q : Span) → o ≡ some q → (q.line < 65536) × (q.col < 65536)

  never-used : (o : Option Span) → first_word o ≡ n → n ≡ 0 → answer o ≡ s
  never-used none e z = refl
  never-used (some q) e z = absurd (omega (arith, e, z))

  module _ (short : w.col < 65536) where
    used-after : (o : Option Span) → first_word o ≡ n → Low o → w.line * 65536 + w.col ≤ n - 1 → answer o ≡ s
    used-after none e low h = refl
    used-after (some q) e low h = rw (higher_after q w (low q refl).1 short (omega (arith, e, h)))

    used-before : (o : Option Span) → first_word o ≡ n → Low o → (n ≡ 0 → ⊥) → n - 1 < w.line * 65536 + w.col
        → answer o ≡ fail (spec.used_before ((n - 1) / 65536) ((n - 1) % 65536)) s
    used-before none e low ne h = absurd (ne (sym e))
    used-before (some q) e low ne h =
        let col = (low q refl).1 in
        let a : q.line ≡ (n - 1) / 65536 = omega (arith, e, col) in
        let b : q.col ≡ (n - 1) % 65536 = omega (arith, e, col) in
        rw (lower_before q w col short (omega (arith, e, h))) (ap₂ (λ (l c : ℕ). fail (spec.used_before l c) s) a b)

module _ (w : Row) (p : Progress) (fs : List ℕ) where
  pub check_fault : is_sound p.fault ≡ false → UseChecked w p fs p
  check_fault bad t work =
      runs_as t (guarded (asked w)) (λ s. check_first_use s w) p fs work p fs work (asked_is w) (runs-stays t (asked w) p fs work bad)

  module _ (fine : is_sound p.fault ≡ true) (low : w.name < limits.per_name) where
    abbrev word : ℕ
    word = get_or fs w.name 0

    asking : (r : Progress) → p.count ≡ r.count → r.width ≡ p.width → ((t spans work : List ℕ) (s : State) → s.run.fault ≡ sound → p.count ≤ length s.definitions
        → WholeState t spans p fs work s → Agree t spans r fs work (asked w s)) → UseChecked w p fs r
    asking r count wide step t work =
        runs_as t (guarded (asked w)) (λ s. check_first_use s w) p fs work r fs work (asked_is w)
        (runs-sound t (asked w) p fine fs work r fs work (record { long = refl; up = omega (arith, count); wide = wide; before = λ j l. refl })
        (λ spans s e c h. step t spans work s e c h))

    stays : ((s : State) → Firsts fs s.first_uses → asked w s ≡ s) → UseChecked w p fs p
    stays same = asking p refl refl (λ t spans work s e c h.
        subst (Agree t spans p fs work) (sym (same s h.used-first)) (record {
          fault = sound-is p.fault fine ∙ sym e;
          count = c;
          whole = λ z. h;
        }))

    pub check_none : word ≡ 0 → UseChecked w p fs p
    check_none z = stays (λ s f. never-used w s word (span_in s.first_uses w.name) (f.has w.name low) z)

    pub check_after : w.col < 65536 → w.line * 65536 + w.col ≤ word - 1 → UseChecked w p fs p
    check_after short l =
        stays (λ s f. used-after w s word short (span_in s.first_uses w.name) (f.has w.name low) (f.low w.name) l)

    pub check_before : w.col < 65536 → (word ≡ 0 → ⊥) → word - 1 < w.line * 65536 + w.col
        → (r : Progress) → r ≡ failed p (UsedBefore ((word - 1) / 65536) ((word - 1) % 65536)) → UseChecked w p fs r
    unfolding fail set_run
    check_before short ne l r is = rw is (asking _ refl refl (λ t spans work s e c h.
        subst (Agree t spans (failed p (UsedBefore ((word - 1) / 65536) ((word - 1) % 65536))) fs work)
        (sym (used-before w s word short (span_in s.first_uses w.name) (h.used-first.has w.name low) (h.used-first.low w.name) ne l)) (record {
          fault = refl;
          count = c;
          whole = λ z. absurd (not_sound z);
        })))
      where
        not_sound : {l c : ℕ} → spec.used_before l c ≡ sound → ⊥
        not_sound e = let z : ◌≡◌ {A = ℕ} 0 1 = cc in omega arith
