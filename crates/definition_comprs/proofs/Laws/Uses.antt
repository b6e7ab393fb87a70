-- Laws of `Uses`.
use mathlib.Core.Path.{◌≡◌, refl, sym, ap, ◌∙◌, subst}
use mathlib.Core.List.{List}
use Prim.Native.Nat.{ℕ, ◌+◌}
use Rattle.base.specs.Limits as limits
use Rattle.names.specs.Inner.Sets.{Gap}
use Rattle.names.specs.Inner.Members.{Lowest}
use Rattle.definition_walk.proofs.Laws.Visited.{left_from, left_at, left_none}
use Rattle.names.specs.Inner.Names.{Names}
use Rattle.sheet.specs.declared.Row.{Row}
use Rattle.scope.specs.Scopes.{Span}
use Rattle.definition.specs.Uses.{add_first_use}
use Rattle.definition_walk.specs.Inner.Firsts.{Firsts, FirstUse}
use Rattle.definition_comprs.specs.Inner.Uses.{uses_of, row_named, use_at, UsesNames}

-- ---- the loop

-- The words hold uses to which those of the names from `from` up are still to come.
pub record Coming (w : Row) (ns : List ℕ) (answer : List Span) (rs : List ℕ) (from : ℕ) : Type 0 where
  pub spans : List Span
  pub firsts : Firsts rs spans
  pub left : uses_of w spans (left_from ns limits.per_name from) ≡ answer

abbrev pub Using : Row → List ℕ → List ℕ → List ℕ → ℕ → Type 0
Using w ns ws rs from = (spans : List Span) → Firsts ws spans → Coming w ns (uses_of w spans (left_from ns limits.per_name 0)) rs from

module _ (w : Row) (ns ws : List ℕ) where
  pub using_first : Using w ns ws ws 0
  using_first spans h = record { spans = spans; firsts = h; left = refl }

  pub using_next : (rs : List ℕ) (from : ℕ) → Using w ns ws rs from → {x : ℕ} → Lowest ns limits.per_name from x → (qs : List ℕ)
      → FirstUse (row_named w x) rs qs → Using w ns ws qs (x + 1)
  using_next rs from u {x} next qs put spans h =
      let c = u spans h in
      record {
        spans = add_first_use c.spans (use_at w x);
        firsts = put c.spans c.firsts;
        left = sym (ap (uses_of w c.spans) (left_at next)) ∙ c.left;
      }

pub using_all : (w : Row) (names : Names) (ws rs : List ℕ) (from : ℕ) → Using w names.words ws rs from → Gap names.words from limits.per_name → UsesNames w names ws rs
using_all w names ws rs from u none spans h =
    let c = u spans h in
    subst (Firsts rs) (sym (ap (uses_of w c.spans) (left_none names.words limits.per_name from none)) ∙ c.left) c.firsts
