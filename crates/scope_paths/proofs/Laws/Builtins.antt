-- Laws of `Builtins`.
use mathlib.Core.Path.{◌≡◌, refl, sym, ap, ◌∙◌}
use mathlib.Core.Bool.{Bool, true, false, cond, and-false, and-true}
use mathlib.Core.List.{List, [], ◌∷◌}
use mathlib.Core.Option as found
use Rattle.std.proofs.Common.{None, Some}
use Prim.Native.Nat.{ℕ, ◌+◌, ◌≤◌, ◌<◌}
use native.Mathlib.Omega.{arith}
use lib.Dec.{eqb, ltb}
use lib.ListN.{length}
use Rattle.base.proofs.Laws.Ranges.{range-nil, range_cons}
use Rattle.sheet.specs.declared.Builtin.{Builtin}
use Rattle.sheet.specs.Inner.Records.{builtin_at}
use Rattle.sheet.specs.Inner.Sheet.{sheet_of, rows_to}
use Rattle.base.specs.Lists.{find}
use Rattle.sheet.specs.Form.{same}
use Rattle.scope.specs.Paths.{path_of, builtin_with}
use Rattle.scope_paths.specs.declared.paths.Path.{Path}
use Rattle.scope_walk.specs.Inner.Sheets.{sheet_at, builtin_count}
use Rattle.scope_paths.specs.Inner.Paths.{short_of, paths_agree}
use Rattle.scope_paths.specs.Inner.Builtins.{has_path, arity_in, builtins_from, arity_from, arity_with}

path_short : (b : Builtin) → length (path_of b) ≤ 3
path_short b = go (ltb 0 b.first) (ltb 0 b.second) (ltb 0 b.third)
  where
    go : (x y z : Bool) → length (cond x (b.first ∷ cond y (b.second ∷ cond z (b.third ∷ []) []) (cond z (b.third ∷ []) []))
        (cond y (b.second ∷ cond z (b.third ∷ []) []) (cond z (b.third ∷ []) []))) ≤ 3
    go true true true = omega arith
    go true true false = omega arith
    go true false true = omega arith
    go true false false = omega arith
    go false true true = omega arith
    go false true false = omega arith
    go false false true = omega arith
    go false false false = omega arith

-- ---- equal paths

-- A short path and any other are the same exactly if the code's are.
same_short : (l : List ℕ) → length l ≤ 3 → (k : List ℕ) → same l k ≡ paths_agree (short_of l) (short_of k)
same_short [] h [] = refl
same_short [] h (x ∷ []) = refl
same_short [] h (x ∷ (y ∷ [])) = refl
same_short [] h (x ∷ (y ∷ (z ∷ []))) = refl
same_short [] h (x ∷ (y ∷ (z ∷ (u ∷ k)))) = refl
same_short (a ∷ []) h [] = refl
same_short (a ∷ []) h (x ∷ []) = and-true (eqb a x)
same_short (a ∷ []) h (x ∷ (y ∷ [])) = and-false (eqb a x)
same_short (a ∷ []) h (x ∷ (y ∷ (z ∷ []))) = and-false (eqb a x)
same_short (a ∷ []) h (x ∷ (y ∷ (z ∷ (u ∷ k)))) = and-false (eqb a x)
same_short (a ∷ (b ∷ [])) h [] = refl
same_short (a ∷ (b ∷ [])) h (x ∷ []) = and-false (eqb a x)
same_short (a ∷ (b ∷ [])) h (x ∷ (y ∷ [])) = rw (and-true (eqb b y))
same_short (a ∷ (b ∷ [])) h (x ∷ (y ∷ (z ∷ []))) = rw (and-false (eqb b y)) (and-false (eqb a x))
same_short (a ∷ (b ∷ [])) h (x ∷ (y ∷ (z ∷ (u ∷ k)))) = rw (and-false (eqb b y)) (and-false (eqb a x))
same_short (a ∷ (b ∷ (c ∷ []))) h [] = refl
same_short (a ∷ (b ∷ (c ∷ []))) h (x ∷ []) = and-false (eqb a x)
same_short (a ∷ (b ∷ (c ∷ []))) h (x ∷ (y ∷ [])) = rw (and-false (eqb b y)) (and-false (eqb a x))
same_short (a ∷ (b ∷ (c ∷ []))) h (x ∷ (y ∷ (z ∷ []))) = rw (and-true (eqb c z))
same_short (a ∷ (b ∷ (c ∷ []))) h (x ∷ (y ∷ (z ∷ (u ∷ k)))) = rw (and-false (eqb c z), and-false (eqb b y)) (and-false (eqb a x))
same_short (a ∷ (b ∷ (c ∷ (d ∷ l)))) h k = absurd (omega arith)

find_ext : (f g : Builtin → Bool) → ((b : Builtin) → f b ≡ g b) → (l : List Builtin) → find f l ≡ find g l
find_ext f g h [] = refl
find_ext f g h (b ∷ l) = rw (h b, find_ext f g h l)

-- The arity of the built-in that the path of a reference names.
pub arity_named : (t : List ℕ) (l : List ℕ) → arity_with t (short_of l) ≡ arity_in (builtin_with (sheet_at t).builtins (found.some l))
unfolding arity_from sheet_at sheet_of rows_to
arity_named t l =
    ap arity_in (sym (find_ext (λ (b : Builtin). same (path_of b) l) (has_path (short_of l)) (λ b. same_short (path_of b) (path_short b) l) (builtins_from t 1)))

module _ (t : List ℕ) (row : ℕ) (p : Path) where
  pub arity_past : builtin_count t < row → None ≡ arity_from t row p
  unfolding arity_from
  arity_past h = rw (range-nil row (builtin_count t + 1) (omega arith))

  module _ (high : row ≤ builtin_count t) (b : Builtin) (is : b ≡ builtin_at t row) (has : Bool) (test : has ≡ has_path p b) where
    turn : arity_from t row p ≡ arity_in (cond (has_path p b) (found.some b) (find (has_path p) (builtins_from t (row + 1))))
    unfolding arity_from
    turn = rw (range_cons row (builtin_count t + 1) (omega arith), is)

    pub arity_here : has ≡ true → Some b.arity ≡ arity_from t row p
    arity_here e = sym (turn ∙ rw (sym test, e))

    pub arity_later : has ≡ false → arity_from t (row + 1) p ≡ arity_from t row p
    unfolding arity_from
    arity_later e = sym (turn ∙ rw (sym test, e))
