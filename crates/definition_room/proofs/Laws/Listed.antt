-- What the tables of kinds and forms say of the fields that hold expressions.
use mathlib.Core.Path.{◌≡◌, refl}
use mathlib.Core.Bool.{Bool, true, ◌&&◌, ◌||◌}
use mathlib.Core.Logic.{◌⊎◌, inl, inr, ⊎_elim}
use Prim.Native.Nat.{ℕ, ◌≤◌}
use native.Mathlib.Omega.{arith}
use lib.Dec.{leb}
use Rattle.sheet.proofs.Laws.FieldSections.{is_section, section-is}
use Rattle.std.specs.Prelude.{None}
use Rattle.base.proofs.Laws.Truth.{and_left, and_right, or_cases}
use Rattle.base.specs.Lists.{all, range}
use Rattle.base.proofs.Laws.Lists.{all-elem}
use Rattle.base.proofs.Laws.Ranges.{elem-range}
use Rattle.sheet.specs.declared.fields.Field.{Field}
use Rattle.sheet.specs.Fields.{expr_section, kinds, kind_of, forms, form_of}

-- An expression, or nothing.
abbrev pub HoldsField : Field → Type 0
HoldsField f = (f.section ≡ expr_section) ⊎ (f.section ≡ None)

abbrev holds : Field → Bool
holds f = is_section f.section expr_section || is_section f.section None

holds-true : (f : Field) → holds f ≡ true → HoldsField f
holds-true f h =
    ⊎_elim (λ (p : is_section f.section expr_section ≡ true). inl (section-is _ expr_section p))
    (λ (p : is_section f.section None ≡ true). inr (section-is _ None p)) (or_cases _ _ h)

-- Is it the kind of a comprehension?
abbrev pub compr_kind : ℕ → Bool
compr_kind kind = leb 10 kind && leb kind 12

kind_test : ℕ → Bool
kind_test kind =
    let fs = kind_of kind in
    holds fs.first && (holds fs.second && (compr_kind kind || holds fs.third))

kinds-pass : all kind_test (range 0 23) ≡ true
unfolding kind_test range is_section kind_of kinds
kinds-pass = refl

-- The third field of a comprehension is a query.
pub record KindHolds (kind : ℕ) : Type 0 where
  pub in_first : HoldsField (kind_of kind).first
  pub in_second : HoldsField (kind_of kind).second
  pub in_third : (compr_kind kind ≡ true) ⊎ HoldsField (kind_of kind).third

pub kind_holds : (kind : ℕ) → kind ≤ 22 → KindHolds kind
unfolding kind_test
kind_holds kind l =
    let h = all-elem kind_test (range 0 23) kinds-pass kind (elem-range kind 0 23 (omega arith) (omega arith)) in
    let fs = kind_of kind in
    let rest = and_right (holds fs.first) _ h in
    record {
      in_first = holds-true fs.first (and_left (holds fs.first) _ h);
      in_second = holds-true fs.second (and_left (holds fs.second) _ rest);
      in_third =
          ⊎_elim (λ (p : compr_kind kind ≡ true). inl p) (λ (p : holds fs.third ≡ true). inr (holds-true fs.third p))
          (or_cases (compr_kind kind) _ (and_right (holds fs.second) _ rest));
    }

form_test : ℕ → Bool
form_test form =
    let fs = form_of form in
    holds fs.first && (holds fs.second && holds fs.third)

forms-pass : all form_test (range 0 6) ≡ true
unfolding form_test range is_section form_of forms
forms-pass = refl

pub record FormHolds (form : ℕ) : Type 0 where
  pub in_first : HoldsField (form_of form).first
  pub in_second : HoldsField (form_of form).second
  pub in_third : HoldsField (form_of form).third

pub form-holds : (form : ℕ) → form ≤ 5 → FormHolds form
unfolding form_test
form-holds form l =
    let h = all-elem form_test (range 0 6) forms-pass form (elem-range form 0 6 (omega arith) (omega arith)) in
    let fs = form_of form in
    let rest = and_right (holds fs.first) _ h in
    record {
      in_first = holds-true fs.first (and_left (holds fs.first) _ h);
      in_second = holds-true fs.second (and_left (holds fs.second) _ rest);
      in_third = holds-true fs.third (and_right (holds fs.second) _ rest);
    }
