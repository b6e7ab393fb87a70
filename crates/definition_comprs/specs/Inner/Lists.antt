-- The rows of an expression's comprehensions, listed one after the other.
use Rattle.std.specs.Prelude.{◌≡◌, Bool, true, false, List, [], ◌∷◌, ◌++◌, ℕ, zero, suc, ◌+◌, ◌*◌, ◌≤◌, ◌<◌, length, get_or, set}
use Rattle.base.specs.Limits as limits
use Rattle.sheet.specs.declared.Row.{Row}
use Rattle.sheet.specs.Inner.Sheet.{row_at}
use Rattle.sheet.specs.Kinds.{is_compr}
use Rattle.scope.specs.Trees.{Tree}
use Rattle.scope.specs.Traverse.{comprs}
use Rattle.scope_walk.specs.Inner.Sheets.{counts_at, Accepted, expr_count}
use Rattle.scope_walk.specs.Inner.Exprs.{expr_by}
use Rattle.definition_room.specs.Inner.Lying.{Lies}

-- Room for those of two expressions: a comprehension has a query of its own, so neither has more than there are queries.
abbrev pub most_listed : ℕ
most_listed = 2 * limits.most_queries

-- The row w at `row`, which comes to the list behind the first `count` if it is a comprehension.
pub record ListsRow (w : Row) (row : ℕ) (before : List ℕ) (count : ℕ) (after : List ℕ) (end : ℕ) : Type 0 where
  pub other : is_compr w ≡ false → (after ≡ before) × (end ≡ count)
  pub compr : is_compr w ≡ true → (after ≡ set before count row) × (end ≡ count + 1)

module _ (t : List ℕ) where
  -- Row v is a comprehension, which lies in every query that `Home` holds of.
  pub record ComprRow (Home : ℕ → Type 0) (v : ℕ) : Type 0 where
    pub from : 1 ≤ v
    pub to : v ≤ expr_count t
    pub is : is_compr (row_at t v) ≡ true
    pub lies : (q : ℕ) → Home q → Lies (counts_at t) t q v

  -- Those from place `at` on, before place `end`.
  abbrev pub ListedComprs : (ℕ → Type 0) → List ℕ → ℕ → ℕ → Type 0
  ListedComprs Home rows at end = (j : ℕ) → at ≤ j → j < end → ComprRow Home (get_or rows j 0)

  -- The expressions at n of the rows, from place `at` on.
  abbrev pub listed_at : List ℕ → ℕ → ℕ → List Tree
  listed_at rows at zero = []
  listed_at rows at (suc n) = expr_by t false (get_or rows at 0) ∷ listed_at rows (suc at) n

  -- The comprehensions cs come to the list from place `count` on, and end before place `end`.
  pub record Lists (Home : ℕ → Type 0) (cs : List Tree) (before : List ℕ) (count : ℕ) (after : List ℕ) (end : ℕ) : Type 0 where
    pub end_is : end ≡ count + length cs
    pub long : length after ≡ length before
    pub kept : (j : ℕ) → j < count → get_or after j 0 ≡ get_or before j 0
    pub expressions : listed_at after count (length cs) ≡ cs
    pub rows : ListedComprs Home after count end

  -- ---- those of one expression

  -- The comprehensions of the expression at a row.
  abbrev pub comprs_by : Bool → ℕ → List Tree
  comprs_by rest row = comprs (expr_by t rest row)

  -- They lie where it does.
  abbrev pub AtRow : ℕ → ℕ → Type 0
  AtRow row q = Lies (counts_at t) t q row

  pub record AsksList (rest : Bool) (row : ℕ) (rows : List ℕ) (count : ℕ) : Type 0 where
    pub accepted : Accepted t
    pub row_in : row ≤ expr_count t
    pub room : count + length (comprs_by rest row) ≤ length rows

  -- ---- those of two

  abbrev pub both_at : Bool → ℕ → ℕ → List Tree
  both_at rest one two = comprs_by rest one ++ comprs_by true two

  abbrev pub AtRows : ℕ → ℕ → ℕ → Type 0
  AtRows one two q = AtRow one q × AtRow two q

  pub record AsksBoth (one two : ℕ) (rows : List ℕ) : Type 0 where
    pub accepted : Accepted t
    pub one_in : one ≤ expr_count t
    pub two_in : two ≤ expr_count t
    pub room : most_listed ≤ length rows

  -- All of them, from the front on.
  pub record ListsBoth (rest : Bool) (one two : ℕ) (rows : List ℕ) (end : ℕ) : Type 0 where
    pub fits : end ≤ most_listed
    pub expressions : listed_at rows 0 end ≡ both_at rest one two
    pub comprehensions : ListedComprs (AtRows one two) rows 0 end
