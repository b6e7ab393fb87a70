-- The tree at a row is the node of that row over the trees at the rows that it names, where each of these is a later row or none: the depth that
-- `tree_at` counts down is always enough.
use mathlib.Core.Path.{◌≡◌, refl, sym}
use mathlib.Core.List.{List}
use mathlib.Core.Logic.{◌⊎◌, inl, inr}
use Prim.Native.Nat.{ℕ, zero, suc, ◌+◌, ◌≤◌, ◌<◌}
use native.Mathlib.Omega.{arith}
use lib.ListN.{length, get_or}
use Rattle.sheet.specs.declared.Row.{Row}
use Rattle.sheet.specs.Sheet.{no_row}
use Rattle.scope.specs.Trees.{nil, node, third_of, decode}

-- Row r names row v of n rows: a later one, or none.
abbrev pub OnwardTo : ℕ → ℕ → ℕ → Type 0
OnwardTo n r v = (v ≡ 0) ⊎ ((r < v) × (v ≤ n))

-- All that row w, the r-th of n, names as parts and as the rest of its chain.
pub record Descends (n r : ℕ) (w : Row) : Type 0 where
  pub to-first : OnwardTo n r w.first
  pub to-second : OnwardTo n r w.second
  pub to-third : OnwardTo n r (third_of w)
  pub to-next : OnwardTo n r w.next

pub decode-none : (d : ℕ) (rows : List Row) → decode d rows 0 ≡ nil
unfolding decode
decode-none zero rows = refl
decode-none (suc d) rows = refl

module _ (rows : List Row) (down : (r : ℕ) → r < length rows → Descends (length rows) (suc r) (get_or rows r no_row)) where
  -- Is the depth d enough at row r?
  abbrev Enough : ℕ → ℕ → Type 0
  Enough d r = (r ≡ 0) ⊎ ((r ≤ length rows) × (length rows < d + r))

  falls : (d r v : ℕ) → length rows < suc d + r → OnwardTo (length rows) r v → Enough d v
  falls d r v h (inl z) = inl z
  falls d r v h (inr a) = inr (a.1, omega (arith, a.0))

  stable : (d r : ℕ) → Enough d r → decode (suc d) rows r ≡ decode d rows r
  unfolding decode
  stable zero zero e = refl
  stable (suc d) zero e = refl
  stable zero (suc r) (inl z) = absurd (omega arith)
  stable zero (suc r) (inr h) = absurd (omega (arith, h.0, h.1))
  stable (suc d) (suc r) (inl z) = absurd (omega arith)
  stable (suc d) (suc r) (inr h) =
      let k = down r (omega (arith, h.0)) in
      let w = get_or rows r no_row in
      cc (
        stable d w.first (falls d (suc r) w.first h.1 k.to-first),
        stable d w.second (falls d (suc r) w.second h.1 k.to-second),
        stable d (third_of w) (falls d (suc r) (third_of w) h.1 k.to-third),
        stable d w.next (falls d (suc r) w.next h.1 k.to-next),
      )

  pub decode-row : (r : ℕ) → r < length rows
      → let n = length rows in let w = get_or rows r no_row in
      decode n rows (suc r) ≡ node w (decode n rows w.first) (decode n rows w.second) (decode n rows (third_of w)) (decode n rows w.next)
  unfolding decode
  decode-row r h = sym (stable (length rows) (suc r) (inr (omega arith, omega arith)))
