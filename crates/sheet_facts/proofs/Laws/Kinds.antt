-- What the table of kinds has in common: a comprehension's terms come with its query.
use mathlib.Core.Path.{◌≡◌, refl, ap}
use mathlib.Core.Bool.{Bool, true, false, not, ◌&&◌, ◌||◌}
use Prim.Native.Nat.{ℕ}
use Rattle.sheet.proofs.Laws.FieldSections.{is_section}
use Rattle.base.proofs.Laws.Truth.{not-both, and_left, and_right}
use Rattle.base.specs.Lists.{all}
use Rattle.base.proofs.Laws.Members.{all_get_d}
use Rattle.sheet.specs.declared.fields.Field.{Field}
use Rattle.sheet.specs.declared.fields.KindFields.{KindFields}
use Rattle.sheet.specs.Fields.{query_section, for_queries, no_kind, kinds, kind_of}
use Rattle.sheet_fields.proofs.Laws.Tables.{HoldsQuery, holds_query, holds-query}

-- A term is no query, and stands in a row whose third is one.
term_with : KindFields → Field → Bool
term_with k f = not f.term || (not (for_queries f.section) && holds_query k.third)

terms : KindFields → Bool
terms k = term_with k k.name && (term_with k k.first && (term_with k k.second && term_with k k.third))

terms_in_kinds : all terms kinds ≡ true
unfolding kinds terms term_with is_section
terms_in_kinds = refl

module _ (kind : ℕ) where
  terms_in_kind : terms (kind_of kind) ≡ true
  unfolding kind_of terms term_with is_section
  terms_in_kind = all_get_d terms kinds no_kind terms_in_kinds refl kind

  -- What holds of a field of the kind.
  pub record Termed (f : Field) : Type 0 where
    pub third-is_query : f.term ≡ true → HoldsQuery (kind_of kind).third
    pub query_is_no_term : f.section ≡ query_section → f.term ≡ false

  termed : (f : Field) → term_with (kind_of kind) f ≡ true → Termed f
  unfolding term_with
  termed f h = go f.term refl
    where
      go : (b : Bool) → f.term ≡ b → Termed f
      go false p = record { third-is_query = λ q. absurd (not-both q p); query_is_no_term = λ q. p }
      go true p =
          let both : (not (for_queries f.section) && holds_query (kind_of kind).third) ≡ true = rw p at h in
          record {
            third-is_query = λ q. holds-query (kind_of kind).third (and_right (not (for_queries f.section)) _ both);
            query_is_no_term = λ q.
                absurd (not-both (and_left (not (for_queries f.section)) _ both) (ap not (ap for_queries q)));
          }

  pub termed_name : Termed (kind_of kind).name
  unfolding terms
  termed_name = termed (kind_of kind).name (and_left (term_with (kind_of kind) (kind_of kind).name) _ terms_in_kind)

  rest : (term_with (kind_of kind) (kind_of kind).first && (term_with (kind_of kind) (kind_of kind).second
      && term_with (kind_of kind) (kind_of kind).third)) ≡ true
  unfolding terms
  rest = and_right (term_with (kind_of kind) (kind_of kind).name) _ terms_in_kind

  pub termed_first : Termed (kind_of kind).first
  termed_first = termed (kind_of kind).first (and_left (term_with (kind_of kind) (kind_of kind).first) _ rest)

  rest2 : (term_with (kind_of kind) (kind_of kind).second && term_with (kind_of kind) (kind_of kind).third) ≡ true
  rest2 = and_right (term_with (kind_of kind) (kind_of kind).first) _ rest

  pub termed_second : Termed (kind_of kind).second
  termed_second = termed (kind_of kind).second (and_left (term_with (kind_of kind) (kind_of kind).second) _ rest2)

  pub termed_third : Termed (kind_of kind).third
  termed_third = termed (kind_of kind).third (and_right (term_with (kind_of kind) (kind_of kind).second) _ rest2)
