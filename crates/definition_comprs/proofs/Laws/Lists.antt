-- Laws of `Lists`: the comprehensions at a row are the row itself, if it is one, and those at the rows that a walk enters.
use mathlib.Core.Path.{◌≡◌, refl, sym, ap, ◌∙◌, subst}
use mathlib.Core.Bool.{Bool, true, false, cond}
use mathlib.Core.List.{List, [], ◌∷◌, ◌++◌}
use mathlib.Core.Logic.{◌⊎◌, inl, inr}
use Prim.Native.Nat.{ℕ, zero, suc, ◌+◌, ◌-◌, ◌≤◌, ◌<◌}
use native.Mathlib.Omega.{arith}
use Rattle.std.proofs.lemmas.List.{get_or-take, length-take-le}
use lib.ListN.{length, take, get_or, set, length-append, length-set}
use lib.Seq.{get_or-set_same, get_or-set_other}
use Rattle.base.specs.Limits as limits
use Rattle.base.proofs.Laws.Truth.{bool_cases, lt_cases, not-both}
use Rattle.sheet.specs.declared.Row.{Row}
use Rattle.sheet.specs.Inner.Sheet.{row_at}
use Rattle.sheet.specs.Kinds.{is_compr}
use Rattle.scope.specs.Trees.{Tree, row_of}
use Rattle.scope_walk.specs.declared.Kids.{Kids}
use Rattle.scope_walk.specs.Inner.Kids.{kids_of}
use Rattle.scope_walk.specs.Inner.Walks.{alone}
use Rattle.sheet.specs.declared.kinds.Kind.{Kind}
use Rattle.sheet.specs.Inner.Kinds.{KindNumbered}
use Rattle.scope_walk.proofs.Laws.Arms.{KidsTurn, Quiet, compr_number, quiet_but_comprs, no_compr_kind}
use Rattle.scope_walk.proofs.Laws.Numbers.{number_of, by_number, OneOf, same_of, compr_kinds}
use Rattle.scope_walk.proofs.Laws.Walks.{alone_at}
use Rattle.scope_walk.specs.Inner.Sheets.{counts_at, special_at, sheet_at, Accepted, expr_count}
use Rattle.scope_walk.specs.Inner.Exprs.{expr_by}
use Rattle.scope_walk.proofs.Laws.Exprs.{tree_is, row_is}
use Rattle.definition_room.proofs.Laws.Lying.{lies-there}
use Rattle.definition_room.proofs.Laws.Homes.{KidsInside, kids_lie, next-lies}
use Rattle.definition_walk.proofs.Laws.Collects.{collected-none, collected-turn}
use Rattle.definition_comprs.specs.Inner.Lists.{ListsRow, ComprRow, ListedComprs, listed_at, Lists, comprs_by, AtRow}
use Rattle.definition_comprs.proofs.Laws.Queries.{row-query}

-- PartsRoom, in a list of `long` elements, for what a row's calls list behind the first `count`.
abbrev pub PartsRoom : List ℕ → Kids → ℕ → ℕ → ℕ → Type 0
PartsRoom t k next long count =
    count + (length (comprs_by t true k.first) + (length (comprs_by t true k.second) + (length (comprs_by t true k.third) + length (comprs_by t true next)))) ≤ long

module _ (t : List ℕ) where
  listed_same : (a b : List ℕ) (at n : ℕ) → ((j : ℕ) → at ≤ j → j < at + n → get_or a j 0 ≡ get_or b j 0) → listed_at t a at n ≡ listed_at t b at n
  listed_same a b at zero h = refl
  listed_same a b at (suc n) h =
      rw (h at (omega arith) (omega arith), listed_same a b (suc at) n (λ j l m. h j (omega arith) (omega arith)))

  listed-append : (a : List ℕ) (at m n k : ℕ) → k ≡ at + m → listed_at t a at (m + n) ≡ (listed_at t a at m ++ listed_at t a k n)
  listed-append a at zero n k e =
      let z : k ≡ at = omega arith in
      let y : 0 + n ≡ n = omega arith in
      rw (z, y)
  listed-append a at (suc m) n k e =
      let y : suc m + n ≡ suc (m + n) = omega arith in
      rw y (ap (λ (l : List Tree). expr_by t false (get_or a at 0) ∷ l) (listed-append a (suc at) m n k (omega arith)))

  -- The front of a list lists what stands there.
  pub listed_front : (rows : List ℕ) (end : ℕ) → end ≤ length rows → listed_at t (take end rows) 0 (length (take end rows)) ≡ listed_at t rows 0 end
  listed_front rows end room = rw (length-take-le end rows room) (listed_same (take end rows) rows 0 end (λ j l m. get_or-take end rows j 0 (omega arith)))

  pub front_listed : (Home : ℕ → Type 0) (rows : List ℕ) (end : ℕ) → end ≤ length rows → ListedComprs t Home rows 0 end
      → ListedComprs t Home (take end rows) 0 (length (take end rows))
  front_listed Home rows end room h j low high =
      let long : length (take end rows) ≡ end = length-take-le end rows room in
      let under : j < end = omega arith in
      subst (ComprRow t Home) (sym (get_or-take end rows j 0 under)) (h j low under)

  -- ---- one after the other, up to place `end`

  module _ (rows : List ℕ) (at end : ℕ) where
    pub listed-end : at ≡ end → listed_at t rows at (end - at) ≡ []
    listed-end e = let z : end - at ≡ 0 = omega arith in rw z

    pub listed-step : at ≤ end → (at ≡ end → ⊥) → listed_at t rows at (end - at) ≡ (expr_by t false (get_or rows at 0) ∷ listed_at t rows (at + 1) (end - (at + 1)))
    listed-step up more =
        let y : end - at ≡ suc (end - (at + 1)) = omega arith in
        let z : suc at ≡ at + 1 = omega arith in
        rw (y, z)

    pub listed_next : (Home : ℕ → Type 0) → ListedComprs t Home rows at end → ListedComprs t Home rows (at + 1) end
    listed_next Home h j low high = h j (omega arith) high

    -- The same in other queries.
    pub listed_in : (Home Other : ℕ → Type 0) → ((q : ℕ) → Other q → Home q) → ListedComprs t Home rows at end → ListedComprs t Other rows at end
    listed_in Home Other to h j low high =
        let r = h j low high in
        record { from = r.from; to = r.to; is = r.is; lies = λ q o. r.lies q (to q o) }

  -- ---- what comes to a list

  -- Nothing does.
  lists_nothing : (Home : ℕ → Type 0) (cs : List Tree) → cs ≡ [] → (a : List ℕ) (count : ℕ) → Lists t Home cs a count a count
  lists_nothing Home cs none a count = rw none (record {
    end_is = omega arith;
    long = refl;
    kept = λ j l. refl;
    expressions = refl;
    rows = λ j l m. absurd (omega arith);
  })

  module _ (Home : ℕ → Type 0) where
    -- Two lists, one after the other.
    pub lists_then : (k l : List Tree) (a b c : List ℕ) (count mid end : ℕ) → Lists t Home k a count b mid → Lists t Home l b mid c end
        → Lists t Home (k ++ l) a count c end
    lists_then k l a b c count mid end h g = record {
      end_is = omega (arith, h.end_is, g.end_is, length-append k l);
      long = g.long ∙ h.long;
      kept = λ j low. g.kept j (omega (arith, h.end_is)) ∙ h.kept j low;
      expressions =
          ap (listed_at t c count) (length-append k l) ∙ listed-append c count (length k) (length l) mid h.end_is
          ∙ ap (λ (x : List Tree). x ++ listed_at t c mid (length l))
          (listed_same c b count (length k) (λ j low high. g.kept j (omega (arith, h.end_is))) ∙ h.expressions)
          ∙ ap (λ (x : List Tree). k ++ x) g.expressions;
      rows = λ j low high. go j low high (lt_cases j mid);
    }
      where
        go : (j : ℕ) → count ≤ j → j < end → (j < mid) ⊎ (mid ≤ j) → ComprRow t Home (get_or c j 0)
        go j low high (inl l) = subst (ComprRow t Home) (sym (g.kept j l)) (h.rows j low l)
        go j low high (inr l) = g.rows j l high

    -- The same in other queries.
    pub lists_in : (Other : ℕ → Type 0) → ((q : ℕ) → Other q → Home q) → (cs : List Tree) (a b : List ℕ) (count end : ℕ)
        → Lists t Home cs a count b end → Lists t Other cs a count b end
    lists_in Other to cs a b count end h = record {
      end_is = h.end_is;
      long = h.long;
      kept = h.kept;
      expressions = h.expressions;
      rows = listed_in b count end Home Other to h.rows;
    }

  module _ (ok : Accepted t) where
    -- At no row there is none.
    pub no_comprs : (rest : Bool) (row : ℕ) → row ≡ 0 → comprs_by t rest row ≡ []
    no_comprs rest row z = ap (comprs_by t rest) z ∙ collected-none t (λ e. cond (is_compr (row_of e)) (e ∷ []) []) ok rest

    pub lists_none : (row : ℕ) → row ≡ 0 → (rest : Bool) (a : List ℕ) (count : ℕ) → Lists t (AtRow t row) (comprs_by t rest row) a count a count
    lists_none row z rest a count =
        lists_nothing (AtRow t row) (comprs_by t rest row) (no_comprs rest row z) a count

    -- ---- a row's turn

    module _ (row : ℕ) (there : row ≡ 0 → ⊥) (high : row ≤ expr_count t) (w : Row) (is : w ≡ row_at t row) where
      -- The row itself, if it is a comprehension.
      abbrev own : List Tree
      own = cond (is_compr w) (expr_by t false row ∷ []) []

      own_is : cond (is_compr (row_at t row)) (alone_at (counts_at t) (special_at t) t row ∷ []) [] ≡ own
      unfolding sheet_at
      own_is =
          let e : alone_at (counts_at t) (special_at t) t row ≡ expr_by t false row = sym (ap alone (tree_is t ok row there high)) in
          ap (λ (v : Row). cond (is_compr v) (alone_at (counts_at t) (special_at t) t row ∷ []) []) (sym is)
          ∙ ap (λ (a : Tree). cond (is_compr w) (a ∷ []) []) e

      own_lists : (a b : List ℕ) (count end : ℕ) → ListsRow w row a count b end → (is_compr w ≡ true → count < length a)
          → Lists t (AtRow t row) own a count b end
      own_lists a b count end h fits = go (bool_cases (is_compr w))
        where
          go : (is_compr w ≡ true) ⊎ (is_compr w ≡ false) → Lists t (AtRow t row) own a count b end
          go (inr n) = rw (n, (h.other n).0, (h.other n).1) (lists_nothing (AtRow t row) [] refl a count)
          go (inl c) =
              let l = fits c in
              let at : get_or (set a count row) count 0 ≡ row = get_or-set_same a count row 0 l in
              rw (c, (h.compr c).0, (h.compr c).1) (record {
                end_is = omega arith;
                long = length-set a count row;
                kept = λ j low. get_or-set_other a count j row 0 (λ e. omega arith);
                expressions = rw at;
                rows = λ j low up.
                    let e : j ≡ count = omega arith in
                    rw (e, at) (record {
                      from = omega arith;
                      to = high;
                      is = ap (λ (v : Row). is_compr v) (sym is) ∙ c;
                      lies = λ q o. o;
                    });
              })

      module _ (rest : Bool) (k : Kids) (ks : k ≡ kids_of w) (next : ℕ) (ns : next ≡ cond rest w.next 0) where
        abbrev below : ℕ → List Tree
        below r = comprs_by t true r

        comprs-row : comprs_by t rest row ≡ ((((own ++ below k.first) ++ below k.second) ++ below k.third) ++ below next)
        comprs-row =
            collected-turn t (λ e. cond (is_compr (row_of e)) (e ∷ []) []) ok rest row there high w is k ks next ns
            ∙ ap (λ (l : List Tree). (((l ++ below k.first) ++ below k.second) ++ below k.third) ++ below next) own_is

        -- They are as many as those of all parts.
        pub row_counts_lem : length (comprs_by t rest row)
            ≡ length own + (length (below k.first) + (length (below k.second) + (length (below k.third) + length (below next))))
        row_counts_lem =
            omega (
              arith,
              ap length comprs-row,
              length-append (((own ++ below k.first) ++ below k.second) ++ below k.third) (below next),
              length-append ((own ++ below k.first) ++ below k.second) (below k.third),
              length-append (own ++ below k.first) (below k.second),
              length-append own (below k.first),
            )

        -- So there is room for the row.
        pub own-fits : (a : List ℕ) (count : ℕ) → count + length (comprs_by t rest row) ≤ length a → is_compr w ≡ true → count < length a
        own-fits a count room c = let one : length own ≡ 1 = rw c in omega (arith, row_counts_lem)

        -- And behind it for the others.
        pub row_room : (a b : List ℕ) (count end : ℕ) → count + length (comprs_by t rest row) ≤ length a → ListsRow w row a count b end
            → PartsRoom t k next (length b) end
        row_room a b count end room h =
            let g = own_lists a b count end h (own-fits a count room) in
            omega (arith, row_counts_lem, g.end_is, g.long)

        parts_lie : (q : ℕ) → AtRow t row q → KidsInside (counts_at t) t q k
        parts_lie q o =
            subst (KidsInside (counts_at t) t q) (sym (ks ∙ ap kids_of is))
            (kids_lie (counts_at t) t ok.within ok.fine q row (omega arith) high (lies-there (counts_at t) t q row (omega arith) o))

        next-there : (q : ℕ) → AtRow t row q → AtRow t next q
        next-there q o = go rest ns
          where
            go : (b : Bool) → next ≡ cond b w.next 0 → AtRow t next q
            go true e =
                subst (λ (r : ℕ). AtRow t r q) (sym (e ∙ ap (λ (v : Row). v.next) is))
                (next-lies (counts_at t) t ok.within ok.fine q row (omega arith) high (lies-there (counts_at t) t q row (omega arith) o))
            go false e = inl e

        pub lists_turn : (a₀ a₁ a₂ a₃ a₄ a₅ : List ℕ) (n₀ n₁ n₂ n₃ n₄ n₅ : ℕ)
            → n₀ + length (comprs_by t rest row) ≤ length a₀ → ListsRow w row a₀ n₀ a₁ n₁
            → Lists t (AtRow t k.first) (below k.first) a₁ n₁ a₂ n₂
            → Lists t (AtRow t k.second) (below k.second) a₂ n₂ a₃ n₃
            → Lists t (AtRow t k.third) (below k.third) a₃ n₃ a₄ n₄
            → Lists t (AtRow t next) (below next) a₄ n₄ a₅ n₅
            → Lists t (AtRow t row) (comprs_by t rest row) a₀ n₀ a₅ n₅
        lists_turn a₀ a₁ a₂ a₃ a₄ a₅ n₀ n₁ n₂ n₃ n₄ n₅ room h₀ h₁ h₂ h₃ h₄ =
            let Here = AtRow t row in
            let g₀ = own_lists a₀ a₁ n₀ n₁ h₀ (own-fits a₀ n₀ room) in
            let g₁ = lists_in (AtRow t k.first) Here (λ q o. (parts_lie q o).first) (below k.first) a₁ a₂ n₁ n₂ h₁ in
            let g₂ = lists_in (AtRow t k.second) Here (λ q o. (parts_lie q o).second) (below k.second) a₂ a₃ n₂ n₃ h₂ in
            let g₃ = lists_in (AtRow t k.third) Here (λ q o. (parts_lie q o).third) (below k.third) a₃ a₄ n₃ n₄ h₃ in
            let g₄ = lists_in (AtRow t next) Here next-there (below next) a₄ a₅ n₄ n₅ h₄ in
            subst (λ (cs : List Tree). Lists t Here cs a₀ n₀ a₅ n₅) (sym comprs-row)
            (lists_then Here _ _ a₀ a₄ a₅ n₀ n₄ n₅
            (lists_then Here _ _ a₀ a₃ a₄ n₀ n₃ n₄
            (lists_then Here _ _ a₀ a₂ a₃ n₀ n₂ n₃ (lists_then Here _ _ a₀ a₁ a₂ n₀ n₁ n₂ g₀ g₁) g₂) g₃) g₄)

-- ---- a listed row that was read

module _ (t : List ℕ) (ok : Accepted t) (Home : ℕ → Type 0) (v : ℕ) (row : ComprRow t Home v) (w : Row) (is : w ≡ row_at t v) where
  -- Its query.
  pub compr-query : (1 ≤ w.third) × (w.third ≤ limits.most_queries)
  compr-query = row-query t ok v (λ z. omega (arith, row.from)) row.to w is (ap (λ (x : Row). is_compr x) is ∙ row.is)

  pub compr-is : row_of (expr_by t false v) ≡ w
  compr-is = row_is t ok v (λ z. omega (arith, row.from)) row.to false ∙ sym is

-- ---- the arms of `list_comprs`, on how many are listed and the list

abbrev ListDone : Row → ℕ → ℕ × List ℕ → ℕ × List ℕ → Type 0
ListDone w row a b = ListsRow w row a.1 a.0 b.1 b.0

abbrev pub ListTurn : Row → ℕ → ℕ × List ℕ → ℕ × List ℕ → Kids → Type 0
ListTurn w row = KidsTurn (ListDone w row) w

pub compr_among : {k : Kind} (w : Row) → KindNumbered w.kind k → OneOf k compr_kinds → is_compr w ≡ true
compr_among {k} w e one = by_number compr_number w.kind k e (no_compr_kind w) ∙ same_of (λ j. compr_number (number_of j)) true k compr_kinds refl one

module _ (w : Row) (row : ℕ) (a : ℕ × List ℕ) where
  pub lists_still : (kind : Kind) → KindNumbered w.kind kind → Quiet (ListDone w row) w compr_number kind a
  lists_still kind is = quiet_but_comprs is (λ n. record { other = λ _. (refl, refl); compr = λ y. absurd (not-both y n) })

  pub lists_compr : is_compr w ≡ true → (b : ℕ × List ℕ) → (b.1 ≡ set a.1 a.0 row) × (b.0 ≡ a.0 + 1) → ListsRow w row a.1 a.0 b.1 b.0
  lists_compr y b h = record { other = λ n. absurd (not-both y n); compr = λ _. h }
