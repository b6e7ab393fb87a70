-- What is proved of the tables once.
use mathlib.Core.Path.{◌≡◌, refl, sym}
use mathlib.Core.Bool.{Bool, true, ◌&&◌, ◌||◌}
use mathlib.Core.List.{List}
use mathlib.Core.Logic.{◌⊎◌, inl, inr, ⊎_elim}
use Prim.Native.Nat.{ℕ, zero, suc, ◌≤◌}
use native.Mathlib.Omega.{arith}
use lib.ListN.{length, get_or, get_or-eq_default}
use Rattle.std.specs.Prelude.{None}
use Rattle.base.proofs.Laws.Truth.{and_left, and_right, or_cases}
use Rattle.base.specs.Lists.{all}
use Rattle.base.proofs.Laws.Members.{all_get_d}
use Rattle.sheet.specs.declared.fields.Field.{Field}
use Rattle.sheet.specs.declared.fields.KindFields.{KindFields}
use Rattle.sheet.specs.Inner.Kinds.{NoArm}
use Rattle.sheet.proofs.Laws.FieldSections.{is_section, section-is}
use Rattle.sheet.specs.Fields.{name_section, query_section, no_kind, kinds, kind_of}

-- ---- a number that is none from 1 on to the end of a table

past : (n k : ℕ) → NoArm n (suc k) → n ≤ k
past zero k h = omega arith
past (suc n) k h =
    let p = past n k h.0 in
    let q : suc k ≡ suc n → ⊥ = h.1 in
    omega arith

-- Left to it are the table's 0, and what lies past the end.
pub left_over : {A : Type 0} (l : List A) (d : A) (n k : ℕ) → length l ≤ suc n → get_or l 0 d ≡ d → NoArm n k → d ≡ get_or l k d
left_over l d n zero short z h = sym z
left_over l d n (suc k) short z h =
    let p = past n k h in
    sym (get_or-eq_default l d {n = suc k} (omega arith))

-- ---- what all numbers of a table have in common

name_or_nothing : KindFields → Bool
name_or_nothing k = is_section k.name.section name_section || is_section k.name.section None

names_in_kinds : all name_or_nothing kinds ≡ true
unfolding name_or_nothing kinds is_section
names_in_kinds = refl

-- The `name` of a row is a name, or nothing.
pub name_in_kind : (kind : ℕ) → ((kind_of kind).name.section ≡ name_section) ⊎ ((kind_of kind).name.section ≡ None)
unfolding kind_of name_or_nothing is_section
name_in_kind kind =
    let section = (kind_of kind).name.section in
    ⊎_elim (λ p. inl (section-is section name_section p)) (λ p. inr (section-is section None p))
    (or_cases (is_section section name_section) (is_section section None) (all_get_d name_or_nothing kinds no_kind names_in_kinds refl kind))

-- ---- a query, and set

abbrev pub HoldsQuery : Field → Type 0
HoldsQuery f = (f.section ≡ query_section) × (f.set ≡ true)

abbrev pub holds_query : Field → Bool
holds_query f = is_section f.section query_section && f.set

pub holds-query : (f : Field) → holds_query f ≡ true → HoldsQuery f
holds-query f h = (section-is f.section query_section (and_left (is_section f.section query_section) _ h), and_right (is_section f.section query_section) _ h)
