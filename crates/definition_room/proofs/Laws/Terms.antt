-- What the table of kinds says of the terms that lie in another query than their whole: comprehensions have them, and no other kind.
use mathlib.Core.Path.{◌≡◌, refl, ap}
use mathlib.Core.Bool.{Bool, true, false, not, ◌&&◌, ◌||◌}
use mathlib.Core.Logic.{◌⊎◌, inl, inr, ⊎_elim}
use Prim.Native.Nat.{ℕ, ◌≤◌}
use native.Mathlib.Omega.{arith}
use Rattle.sheet.proofs.Laws.FieldSections.{is_section, section-is}
use Rattle.std.specs.Prelude.{None}
use Rattle.base.proofs.Laws.Truth.{bool_cases, not-both, and_left, and_right, or_cases}
use Rattle.base.specs.Lists.{all, range}
use Rattle.base.proofs.Laws.Lists.{all-elem}
use Rattle.base.proofs.Laws.Ranges.{elem-range}
use Rattle.sheet.specs.declared.fields.Field.{Field}
use Rattle.sheet.specs.Fields.{query_section, for_queries, kinds, kind_of}
use Rattle.sheet_fields.proofs.Laws.Tables.{HoldsQuery, holds_query, holds-query}
use Rattle.sheet_facts.proofs.Laws.Kinds.{Termed, termed_first, termed_second, termed_third}
use Rattle.definition_room.proofs.Laws.Listed.{compr_kind, HoldsField, kind_holds}

-- ---- no comprehension

-- Where the third field is an expression or nothing, no field is a term.
module _ (kind : ℕ) (low : kind ≤ 22) (other : compr_kind kind ≡ false) where
  third_no_query : HoldsQuery (kind_of kind).third → ⊥
  third_no_query e = go (kind_holds kind low).in_third
    where
      at : (kind_of kind).third.section ≡ query_section
      at = e.0

      go : (compr_kind kind ≡ true) ⊎ HoldsField (kind_of kind).third → ⊥
      go (inl p) = not-both p other
      go (inr (inl p)) = absurd (not-both (ap for_queries at) (ap for_queries p))
      go (inr (inr p)) = absurd (not-both (ap for_queries at) (ap for_queries p))

  no_term : (f : Field) → Termed kind f → f.term ≡ false
  no_term f h =
      ⊎_elim (λ (p : f.term ≡ true). absurd (third_no_query (h.third-is_query p))) (λ (p : f.term ≡ false). p) (bool_cases f.term)

  pub first_no_term : (kind_of kind).first.term ≡ false
  first_no_term = no_term (kind_of kind).first (termed_first kind)

  pub second_no_term : (kind_of kind).second.term ≡ false
  second_no_term = no_term (kind_of kind).second (termed_second kind)

  pub third_no_term : (kind_of kind).third.term ≡ false
  third_no_term = no_term (kind_of kind).third (termed_third kind)

  pub third-holds : HoldsField (kind_of kind).third
  third-holds =
      ⊎_elim (λ (p : compr_kind kind ≡ true). absurd (not-both p other)) (λ (p : HoldsField (kind_of kind).third). p)
      (kind_holds kind low).in_third

-- ---- a comprehension

-- A term, or nothing: an ArrayCompr and a SetCompr have no second.
abbrev pub TermOrNone : Field → Type 0
TermOrNone f = (f.term ≡ true) ⊎ (f.section ≡ None)

abbrev term_or_none : Field → Bool
term_or_none f = f.term || is_section f.section None

term_or_none_lem : (f : Field) → term_or_none f ≡ true → TermOrNone f
term_or_none_lem f h =
    ⊎_elim (λ (p : f.term ≡ true). inl p) (λ (p : is_section f.section None ≡ true). inr (section-is _ None p)) (or_cases _ _ h)

compr_test : ℕ → Bool
compr_test kind =
    let fs = kind_of kind in
    not (compr_kind kind) || (holds_query fs.third && (term_or_none fs.first && term_or_none fs.second))

comprs-pass : all compr_test (range 0 23) ≡ true
unfolding compr_test range is_section kind_of kinds
comprs-pass = refl

pub record ComprTerms (kind : ℕ) : Type 0 where
  pub first_term : TermOrNone (kind_of kind).first
  pub second_term : TermOrNone (kind_of kind).second
  pub third-query : HoldsQuery (kind_of kind).third

pub compr_terms : (kind : ℕ) → kind ≤ 22 → compr_kind kind ≡ true → ComprTerms kind
unfolding compr_test
compr_terms kind low is =
    let fs = kind_of kind in
    let h = all-elem compr_test (range 0 23) comprs-pass kind (elem-range kind 0 23 (omega arith) (omega arith)) in
    let both : (holds_query fs.third && (term_or_none fs.first && term_or_none fs.second)) ≡ true = rw is at h in
    let rest = and_right (holds_query fs.third) _ both in
    record {
      first_term = term_or_none_lem fs.first (and_left (term_or_none fs.first) _ rest);
      second_term = term_or_none_lem fs.second (and_right (term_or_none fs.first) _ rest);
      third-query = holds-query fs.third (and_left (holds_query fs.third) _ both);
    }
