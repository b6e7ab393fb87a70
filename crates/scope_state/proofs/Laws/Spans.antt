-- Laws of `Spans`.
use mathlib.Core.Path.{◌≡◌, refl, sym, ap, ◌∙◌, subst}
use mathlib.Core.Bool.{Bool, true, false, false≢true}
use mathlib.Core.List.{List, map}
use mathlib.Core.Logic.{◌⊎◌, inl, inr}
use mathlib.Core.Option.{Option, none, some}
use Prim.Native.Nat.{ℕ, ◌<◌}
use lib.Dec.{eqb}
use lib.ListN.{length, get_or, set}
use lib.Seq.{get_or-set_same, get_or-set_other}
use borrow.Author.Tests.{eqb-true, eqb-false}
use Rattle.base.proofs.Laws.Truth.{bool_cases}
use Rattle.base.specs.Lists.{is_some}
use Rattle.sheet.specs.declared.Row.{Row}
use Rattle.scope.specs.Scopes as spec
use Rattle.scope.specs.Scopes.{Span, span_of, span_in, no_scope, add_local, add_unscoped, add_input, use_input, remove_shadowed}
use Rattle.scope_state.specs.declared.Scope.{Scope}
use Rattle.scope_state.specs.Inner.Agrees.{NoNames, WithLocal, WithUnscoped, WithInput, WithFlag, WithoutLocals, open_scope, Opened}
use Rattle.scope_state.proofs.Laws.Agrees.{opened_rest}
use Rattle.scope_state.specs.Inner.Spans.{span_word, SpanWord, LocalsPlaced, Agrees}

-- The line and the column of a row have room in a word.
pub record Short (w : Row) : Type 0 where
  pub line : w.line < 65536
  pub col : w.col < 65536

-- ---- what the additions do

some_is : (p q : Span) → some p ≡ some q → p ≡ q
some_is p q e = ap (λ (o : Option Span). or_else o) e
  where
    or_else : Option Span → Span
    or_else none = p
    or_else (some x) = x

place_local : (l : List ℕ) (s : spec.Scope) (w : Row) → Short w → w.name < length l → LocalsPlaced l s → LocalsPlaced (set l w.name (span_word w)) (add_local s w)
unfolding add_local
place_local l s w short low h x p is = go (bool_cases (eqb w.name x))
  where
    here : get_or (set l w.name (span_word w)) w.name 0 ≡ span_word w
    here = get_or-set_same l w.name (span_word w) 0 low

    go : (eqb w.name x ≡ true) ⊎ (eqb w.name x ≡ false) → SpanWord (get_or (set l w.name (span_word w)) x 0) p
    go (inl e) =
        let q : span_of w ≡ p = some_is (span_of w) p (rw e at is) in
        subst (λ (i : ℕ). SpanWord (get_or (set l w.name (span_word w)) i 0) p) (eqb-true w.name x e)
        (subst (SpanWord (get_or (set l w.name (span_word w)) w.name 0)) q (record { line = short.line; col = short.col; both = here }))
    go (inr e) =
        subst (λ (n : ℕ). SpanWord n p) (sym (get_or-set_other l w.name x (span_word w) 0 (λ z. eqb-false w.name x e (sym z)))) (h x p (rw e at is))

-- There is no local yet.
pub agrees-none : (k : Scope) (l : List ℕ) → NoNames k → Agrees k l no_scope
agrees-none k l empty = record { sets = empty; placed = λ x p e. absurd (false≢true (ap is_some e)) }

module _ (k : Scope) (l : List ℕ) (r : Scope) (s : spec.Scope) (a : Agrees k l s) where
  pub agrees_local : (w : Row) → Short w → w.name < length l → WithLocal k w.name r → Agrees r (set l w.name (span_word w)) (add_local s w)
  agrees_local w short low put = record { sets = put s w refl a.sets; placed = place_local l s w short low a.placed }

  pub agrees-unscoped : (x : ℕ) → WithUnscoped k x r → Agrees r l (add_unscoped s x)
  unfolding add_unscoped
  agrees-unscoped x put = record { sets = put s a.sets; placed = a.placed }

  pub agrees-input : (x : ℕ) → WithInput k x r → Agrees r l (add_input s x)
  unfolding add_input
  agrees-input x put = record { sets = put s a.sets; placed = a.placed }

  pub agrees-flag : (b : Bool) → WithFlag k b r → Agrees r l (use_input b s)
  unfolding use_input
  agrees-flag b put = record { sets = put s a.sets; placed = a.placed }

  pub agrees_without : WithoutLocals k r → Agrees r l (remove_shadowed s)
  unfolding remove_shadowed
  agrees_without put = record { sets = put s a.sets; placed = a.placed }

  pub agrees_opened : Opened k r → Agrees r l (open_scope s)
  agrees_opened put = record {
    sets = put s a.sets;
    placed = λ x p is.
        let rest = opened_rest (map (λ (q : Span). q.name) s.locals) s in
        a.placed x p (ap (λ (spans : List Span). span_in spans x) (sym rest.locals) ∙ is);
  }
