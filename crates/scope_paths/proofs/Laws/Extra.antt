-- Laws of `Extra`.
use mathlib.Core.Path.{◌≡◌, refl, sym, ap, ◌∙◌}
use mathlib.Core.Bool.{Bool, true, false, cond}
use mathlib.Core.List.{List, [], ◌∷◌}
use mathlib.Core.Option as found
use Rattle.std.proofs.Common.{None, Some, unwrap_or}
use Rattle.std.specs.Bool.{then_some}
use Prim.Native.Nat.{ℕ, ◌+◌, ◌≤◌, ◌<◌}
use native.Mathlib.Omega.{arith}
use lib.Dec.{eqb}
use lib.ListN.{length}
use borrow.Author.Tests.{eq-eqb, ne_eqb}
use Rattle.sheet.specs.declared.Builtin.{Builtin}
use Rattle.sheet.specs.declared.Row.{Row}
use Rattle.sheet.specs.Inner.Sheet.{row_at}
use Rattle.base.specs.Lists.{last}
use Rattle.scope.specs.Trees.{Tree}
use Rattle.scope.specs.Paths.{builtin_with, beyond, get_extra_arg}
use Rattle.scope_paths.specs.declared.paths.Path.{Path}
use Rattle.scope_paths.specs.declared.extra.End.{End}
use Rattle.scope_walk.specs.Inner.Sheets.{sheet_at, Accepted, expr_count}
use Rattle.scope_walk.specs.Inner.Exprs.{expr_by}
use Rattle.scope_walk.proofs.Laws.Exprs.{none_is, row_is, first-is, second_is}
use Rattle.scope_walk.specs.Inner.Walking.{remains}
use Rattle.scope_state.specs.Inner.Chains.{chain_at}
use Rattle.scope_state.proofs.Laws.Chains.{chain-none, chain-row}
use Rattle.scope_paths.specs.Inner.Paths.{short_of, found_path, path_at}
use Rattle.scope_paths.specs.Inner.Builtins.{arity_in, arity_with}
use Rattle.scope_paths.proofs.Laws.Builtins.{arity_named}
use Rattle.scope_paths.specs.Inner.Extra.{EndAt, end_after, some_at, CallExtra, ExtraAt}

last_of : (x : Tree) (l : List Tree) (n : ℕ) → length l ≡ n → last (x ∷ l) ≡ cond (eqb n 0) (found.some x) (last l)
last_of x [] n h = rw (sym h)
last_of x (y ∷ l) n h = rw (ne_eqb n 0 (λ z. omega arith))

module _ (t : List ℕ) where
  module _ (ok : Accepted t) (row : ℕ) where
    pub end_at_none : row ≡ 0 → EndAt t row (record { count = 0; last = 0 })
    end_at_none z = record {
      count = rw (z, chain-none t ok);
      last-is = rw (z, chain-none t ok);
      low = omega arith;
      few = omega arith;
    }

    pub end_row : (row ≡ 0 → ⊥) → row ≤ expr_count t → (next : ℕ) → next ≡ (row_at t row).next → remains t next < remains t row
        → (e : End) → EndAt t next e → EndAt t row (end_after e row)
    end_row there high next is falls e h = record {
      count = rw (chain-row t ok row there high, sym is) (let n = h.count in omega arith);
      last-is =
          rw (chain-row t ok row there high, sym is)
          (last_of (expr_by t false row) (chain_at t next) e.count h.count ∙ rw h.last-is (pick (eqb e.count 0)));
      low = pick_low (eqb e.count 0);
      few = let n = h.few in omega arith;
    }
      where
        pick : (b : Bool) → cond b (found.some (expr_by t false row)) (some_at t e.last) ≡ some_at t (cond b row e.last)
        pick true = rw (ne_eqb row 0 there)
        pick false = refl

        pick_low : (b : Bool) → cond b row e.last ≤ expr_count t
        pick_low true = high
        pick_low false = h.low

  -- ---- the ways out of `call_extra`

  module _ (w : Row) where
    pub extra_no_path : None ≡ found_path (path_at t w.first) → CallExtra t w 0
    extra_no_path k = (go (path_at t w.first) k, omega arith)
      where
        go : (o : found.Option (List ℕ)) → None ≡ found_path o → beyond (builtin_with (sheet_at t).builtins o) (chain_at t w.second) ≡ found.none
        go found.none k = refl
        go (found.some l) k = cc

    module _ (p : Path) (path-is : Some p ≡ found_path (path_at t w.first)) where
      abbrev builtin : found.Option Builtin
      builtin = builtin_with (sheet_at t).builtins (path_at t w.first)

      arity-is : arity_with t p ≡ arity_in builtin
      arity-is = go (path_at t w.first) path-is
        where
          go : (o : found.Option (List ℕ)) → Some p ≡ found_path o → arity_with t p ≡ arity_in (builtin_with (sheet_at t).builtins o)
          go found.none k = cc
          go (found.some l) k = let at : p ≡ short_of l = cc in ap (arity_with t) at ∙ arity_named t l

      pub extra_no_builtin : None ≡ arity_with t p → CallExtra t w 0
      extra_no_builtin k = (go builtin (k ∙ arity-is), omega arith)
        where
          go : (o : found.Option Builtin) → None ≡ arity_in o → beyond o (chain_at t w.second) ≡ found.none
          go found.none k = refl
          go (found.some b) k = cc

      module _ (n : ℕ) (takes : Some n ≡ arity_with t p) (e : End) (h : EndAt t w.second e) where
        beyond-at : beyond builtin (chain_at t w.second) ≡ cond (eqb (n + 1) e.count) (some_at t e.last) found.none
        beyond-at = go builtin (takes ∙ arity-is)
          where
            go : (o : found.Option Builtin) → Some n ≡ arity_in o → beyond o (chain_at t w.second) ≡ cond (eqb (n + 1) e.count) (some_at t e.last) found.none
            go found.none k = cc
            go (found.some b) k = let at : n ≡ b.arity = cc in rw (at, h.count, h.last-is)

        pub extra_counted : CallExtra t w (unwrap_or (then_some (eqb (n + 1) e.count) e.last) 0)
        extra_counted = go (eqb (n + 1) e.count) beyond-at
          where
            go : (b : Bool) → beyond builtin (chain_at t w.second) ≡ cond b (some_at t e.last) found.none → CallExtra t w (unwrap_or (then_some b e.last) 0)
            go true k = (k, h.low)
            go false k = (k, omega arith)

  -- ---- and of `get_extra_arg`

  module _ (ok : Accepted t) (row : ℕ) where
    pub no_expr : row ≡ 0 → ExtraAt t row 0
    unfolding get_extra_arg
    no_expr z = (rw (z, none_is t ok true), omega arith)

    module _ (there : row ≡ 0 → ⊥) (high : row ≤ expr_count t) (w : Row) (is : w ≡ row_at t row) where
      pub of_call : w.kind ≡ 13 → (r : ℕ) → CallExtra t w r → ExtraAt t row r
      unfolding get_extra_arg
      of_call k r h =
          (rw (row_is t ok row there high true, first-is t ok row there high true, second_is t ok row there high true, sym is, eq-eqb w.kind 13 k) h.0, h.1)

      pub of_other : (w.kind ≡ 13 → ⊥) → ExtraAt t row 0
      unfolding get_extra_arg
      of_other k = (rw (row_is t ok row there high true, sym is, ne_eqb w.kind 13 k), omega arith)
