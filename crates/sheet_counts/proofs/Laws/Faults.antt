-- The line that question 5 gives, by the first count out of bounds.
use mathlib.Core.Path.{◌≡◌, ◌∙◌}
use mathlib.Core.List.{List, [], ◌∷◌}
use Prim.Native.Nat.{ℕ, ◌+◌, ◌≤◌, ◌<◌}
use native.Mathlib.Omega.{arith}
use borrow.Author.Tests.{lt-ltb, le-ltb, eq-eqb, ne_eqb}
use Rattle.base.specs.Limits as limits
use Rattle.base.specs.Limits.{Limits}
use Rattle.sheet.specs.Form.{line_of}
use Rattle.sheet.specs.Questions.{most_rows, over_line, no_query_line, count_fault}

module _ (lim : Limits) (a b c d e : ℕ) where
  abbrev ks : List ℕ
  ks = a ∷ b ∷ c ∷ d ∷ e ∷ []

  -- The lines of the headings behind the first.
  abbrev pub built_ins_line : ℕ
  built_ins_line = 1 + a + 2

  abbrev pub expressions_line : ℕ
  expressions_line = built_ins_line + b + 2

  abbrev pub statements_line : ℕ
  statements_line = expressions_line + c + 2

  abbrev pub queries_line : ℕ
  queries_line = statements_line + d + 2

  -- A section has too many rows, or none has.
  some-over : (n : ℕ) → over_line ks 0 (most_rows lim) ≡ n + 1 → count_fault lim ks ≡ n + 1
  unfolding count_fault
  some-over n h = rw (h, ne_eqb (n + 1) 0 (λ z. omega arith))

  none_over : over_line ks 0 (most_rows lim) ≡ 0 → count_fault lim ks ≡ no_query_line ks
  unfolding count_fault
  none_over h = rw h

  pub names-over : lim.names < a → count_fault lim ks ≡ 1 + lim.names + 1
  unfolding over_line line_of
  names-over h = some-over (1 + lim.names) (rw (lt-ltb lim.names a h) (omega arith))

  module _ (p : a ≤ lim.names) where
    pub built_ins-over : limits.most_built_ins < b → count_fault lim ks ≡ built_ins_line + limits.most_built_ins + 1
    unfolding over_line line_of
    built_ins-over h = some-over (built_ins_line + limits.most_built_ins) (rw (le-ltb lim.names a p, lt-ltb limits.most_built_ins b h) (omega arith))

    module _ (q : b ≤ limits.most_built_ins) where
      pub expressions-over : limits.most_expressions < c → count_fault lim ks ≡ expressions_line + limits.most_expressions + 1
      unfolding over_line line_of
      expressions-over h =
          some-over (expressions_line + limits.most_expressions)
          (rw (le-ltb lim.names a p, le-ltb limits.most_built_ins b q, lt-ltb limits.most_expressions c h) (omega arith))

      module _ (r : c ≤ limits.most_expressions) where
        pub statements-over : limits.most_statements < d → count_fault lim ks ≡ statements_line + limits.most_statements + 1
        unfolding over_line line_of
        statements-over h =
            some-over (statements_line + limits.most_statements)
            (rw (le-ltb lim.names a p, le-ltb limits.most_built_ins b q, le-ltb limits.most_expressions c r, lt-ltb limits.most_statements d h) (omega arith))

        module _ (s : d ≤ limits.most_statements) where
          pub queries-over : limits.most_queries < e → count_fault lim ks ≡ queries_line + limits.most_queries + 1
          unfolding over_line line_of
          queries-over h =
              some-over (queries_line + limits.most_queries)
              (rw (
                le-ltb lim.names a p,
                le-ltb limits.most_built_ins b q,
                le-ltb limits.most_expressions c r,
                le-ltb limits.most_statements d s,
                lt-ltb limits.most_queries e h,
              ) (omega arith))

          module _ (t : e ≤ limits.most_queries) where
            in_bounds : count_fault lim ks ≡ no_query_line ks
            unfolding over_line line_of
            in_bounds =
                none_over (rw (
                  le-ltb lim.names a p,
                  le-ltb limits.most_built_ins b q,
                  le-ltb limits.most_expressions c r,
                  le-ltb limits.most_statements d s,
                  le-ltb limits.most_queries e t,
                ))

            pub no_query : e ≡ 0 → count_fault lim ks ≡ queries_line
            unfolding no_query_line line_of
            no_query z = in_bounds ∙ rw (eq-eqb e 0 z) (omega arith)

            pub some-query : (e ≡ 0 → ⊥) → count_fault lim ks ≡ 0
            unfolding no_query_line
            some-query n = in_bounds ∙ rw (ne_eqb e 0 n)
