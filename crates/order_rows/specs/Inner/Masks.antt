-- The statements that define each name: a set of `masks` for each name.
use Rattle.std.specs.Prelude.{◌≡◌, Bool, false, ◌||◌, ◌&&◌, List, [], ℕ, zero, suc, ◌<◌, eqb, get_or}
use Rattle.base.specs.Limits as limits
use Rattle.base.specs.Sets.{member}
use Rattle.names.specs.Inner.Names.{Statements}
use Rattle.order.specs.Call.{row_count, statement_at, var_at}

-- The words of the set that `masks` holds for the name x.
abbrev pub mask_at : List Statements → ℕ → List ℕ
mask_at masks x = (get_or masks x (record { words = [] })).words

-- `after` is `before` with the statement s in the set of the name x.
pub record Added (before : List Statements) (x s : ℕ) (after : List Statements) : Type 0 where
  pub has : (y : ℕ) → y < limits.per_name → (t : ℕ) → member (mask_at after y) t ≡ ((eqb y x && eqb t s) || member (mask_at before y) t)

-- Does one of the first k rows define x in statement s? Does one define x at all?
module _ (w : ℕ) (ws : List ℕ) where
  unfoldable pub defines_in : ℕ → ℕ → ℕ → Bool
  defines_in zero s x = false
  defines_in (suc k) s x = (eqb (statement_at w ws k) s && eqb (var_at w ws k) x) || defines_in k s x

  unfoldable pub defined_in : ℕ → ℕ → Bool
  defined_in zero x = false
  defined_in (suc k) x = eqb (var_at w ws k) x || defined_in k x

pub record MaskedTo (w : ℕ) (ws : List ℕ) (masks : List Statements) (names : List ℕ) (k : ℕ) : Type 0 where
  pub masked : (x : ℕ) → x < limits.per_name → (s : ℕ) → member (mask_at masks x) s ≡ defines_in w ws k s x
  pub named : (x : ℕ) → member names x ≡ defined_in w ws k x

abbrev pub Masked : ℕ → List ℕ → List Statements → List ℕ → Type 0
Masked w ws masks names = MaskedTo w ws masks names (row_count w ws)
