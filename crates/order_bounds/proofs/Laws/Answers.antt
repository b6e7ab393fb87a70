-- What the question says of a list.
use mathlib.Core.Path.{◌≡◌}
use mathlib.Core.Bool.{true}
use mathlib.Core.List.{List}
use Prim.Native.Nat.{ℕ, ◌%◌, ◌≤◌, ◌<◌}
use native.Mathlib.Omega.{arith}
use lib.Dec.{eqb, ltb, leb}
use lib.ListN.{length}
use borrow.Author.Tests.{eq-eqb, leb-true, le-leb, ltb-true}
use Rattle.base.specs.Limits as limits
use Rattle.base.proofs.Laws.Truth.{and_left, and_right}
use Rattle.base.specs.Limits.{Limits}
use Rattle.base.specs.Lists.{all}
use Rattle.base.proofs.Laws.Members.{all_mem}
use Rattle.order.specs.Call.{row_count, statement_at, var_at, definition_at, definitions, within, accepts}
use Rattle.order_rows.proofs.Laws.RowLaws.{row_listed}
use Rattle.order_bounds.specs.Inner.Answers.{AcceptedList}

-- Of a list whose counts are in bounds the definitions decide.
pub by-definitions : (lim : Limits) (ws : List ℕ) (n room marks : ℕ) → length ws % lim.row ≡ 0 → n ≤ limits.most_statements
    → row_count lim.row ws ≤ limits.most_definitions → n ≤ room → n ≤ marks → accepts lim ws n room marks ≡ all (within lim n) (definitions lim.row ws)
unfolding accepts
by-definitions lim ws n room marks whole few fits ordered marked =
    rw (
      eq-eqb _ 0 whole,
      le-leb n limits.most_statements few,
      le-leb (row_count lim.row ws) limits.most_definitions fits,
      le-leb n room ordered,
      le-leb n marks marked,
    )

pub list-accepted : (lim : Limits) (ws : List ℕ) (n room marks : ℕ) → accepts lim ws n room marks ≡ true → AcceptedList lim ws n room marks
unfolding accepts
list-accepted lim ws n room marks a =
    let b = and_right (eqb (length ws % lim.row) 0) _ a in
    let c = and_right (leb n limits.most_statements) _ b in
    let d = and_right (leb (row_count lim.row ws) limits.most_definitions) _ c in
    let e = and_right (leb n room) _ d in
    let f = and_right (leb n marks) _ e in
    let row : (k : ℕ) → k < row_count lim.row ws → within lim n (definition_at lim.row ws k) ≡ true =
    λ k h. all_mem (within lim n) (definitions lim.row ws) f (row_listed lim.row ws k h) in
    record {
      few = leb-true n limits.most_statements (and_left _ _ b);
      fits = leb-true (row_count lim.row ws) limits.most_definitions (and_left _ _ c);
      ordered = leb-true n room (and_left _ _ d);
      marked = leb-true n marks (and_left _ _ e);
      stated = λ k h. ltb-true (statement_at lim.row ws k) n (and_left _ _ (row k h));
      named = λ k h. leb-true (var_at lim.row ws k) lim.names (and_right (ltb (statement_at lim.row ws k) n) _ (row k h));
    }

-- So every statement is below the most.
pub statements-few : {lim : Limits} {ws : List ℕ} {n room marks : ℕ} → AcceptedList lim ws n room marks → (k : ℕ) → k < row_count lim.row ws → statement_at lim.row ws k < limits.most_statements
statements-few a k h = let s = a.stated k h in omega arith

-- Whatever the buffers' lengths, the rest holds.
pub of-any-length : {lim : Limits} {ws : List ℕ} {n room marks : ℕ} → AcceptedList lim ws n room marks → AcceptedList lim ws n n n
of-any-length a = record { few = a.few; fits = a.fits; ordered = omega arith; marked = omega arith; stated = a.stated; named = a.named }
