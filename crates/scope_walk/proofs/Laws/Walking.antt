-- Laws of `Walking`.
use mathlib.Core.Path.{◌≡◌, refl, subst, sym, ap, ◌∙◌}
use mathlib.Core.Bool.{Bool, true, false, cond}
use mathlib.Core.List.{List, foldl}
use mathlib.Core.Logic.{◌⊎◌, inl, inr}
use Prim.Native.Nat.{ℕ, suc, ◌≤◌, ◌<◌}
use native.Mathlib.Omega.{arith}
use lib.Dec.{eqb}
use lib.ListN.{length}
use borrow.Author.Tests.{eqb-true, ne_eqb}
use Rattle.base.specs.Limits as limits
use Rattle.base.proofs.Laws.Truth.{bool_cases, or_cases}
use Rattle.sheet.specs.declared.Row.{Row}
use Rattle.sheet.specs.Inner.Sheet.{row_at}
use Rattle.sheet.specs.Kinds.{is_pattern, is_var, is_compr}
use Rattle.scope.specs.Trees.{Tree, row_of, third_of}
use Rattle.scope.specs.Traverse.{leaves}
use Rattle.scope_walk.specs.declared.Kids.{Kids}
use Rattle.scope_walk.proofs.Laws.Descent.{OnwardTo}
use Rattle.scope_walk.specs.Inner.Kids.{kids_of}
use Rattle.scope_walk.proofs.Laws.RowTrees.{row_descends}
use Rattle.scope_walk.specs.Inner.Onwards.{rows_left}
use Rattle.scope_walk.proofs.Laws.Onwards.{left_falls, onward_low, row_onwards, name-low, left-most}
use Rattle.scope_walk.proofs.Laws.Walks.{alone_at, over_by-none, over_by-row, over_leaves, leaves_by, leaves_none, leaves_by-none, leaves_by-row}
use Rattle.scope_walk.specs.Inner.Sheets.{counts_at, Accepted, special_at, sheet_at, expr_count}
use Rattle.scope_walk.specs.Inner.Exprs.{expr_by}
use Rattle.scope_walk.specs.Inner.Walking.{remains, Walk}

module _ (t : List ℕ) where
  pub few_remain : Accepted t → (v : ℕ) → remains t v ≤ suc limits.most_expressions
  few_remain ok v = omega (arith, left-most (expr_count t) v, ok.within.few-exprs)

  -- A call on row v, from a row with measure m.
  abbrev pub Falls : ℕ → ℕ → Type 0
  Falls m v = (remains t v < m) × (v ≤ expr_count t)

  -- The calls of a row's turn.
  pub record Calls (m : ℕ) (rest : Bool) (w : Row) (k : Kids) : Type 0 where
    pub first : Falls m k.first
    pub second : Falls m k.second
    pub third : Falls m k.third
    pub next : Falls m (cond rest w.next 0)

  -- The calls on its fields. A comprehension's third names no expression.
  pub record FieldCalls (m : ℕ) (rest : Bool) (w : Row) : Type 0 where
    pub first : Falls m w.first
    pub second : Falls m w.second
    pub third : is_compr w ≡ false → Falls m w.third
    pub next : Falls m (cond rest w.next 0)

  module _ (ok : Accepted t) (r : ℕ) (some : r ≡ 0 → ⊥) (high : r ≤ expr_count t) where
    pub row_low : r ≤ limits.most_expressions
    row_low = omega (arith, ok.within.few-exprs)

    pub low-name : (row_at t r).name < limits.per_name
    low-name = name-low (counts_at t) t ok.within ok.facts r (omega arith) high

    goes : (v m : ℕ) → remains t r ≡ m → OnwardTo (expr_count t) r v → Falls m v
    goes v m e h =
        (subst (λ (n : ℕ). remains t v < n) e (left_falls (expr_count t) r v (omega arith) high h), onward_low (expr_count t) r v h)

    goes_if : (b : Bool) (v m : ℕ) → remains t r ≡ m → OnwardTo (expr_count t) r v → Falls m (cond b v 0)
    goes_if true v m e h = goes v m e h
    goes_if false v m e h = goes 0 m e (inl (omega arith))

    pub calls : (m : ℕ) → remains t r ≡ m → (rest : Bool) (w : Row) → w ≡ row_at t r → (k : Kids) → k ≡ kids_of w → Calls m rest w k
    calls m e rest w is k ks =
        let o = row_onwards (counts_at t) t ok.within ok.facts r (omega arith) high in
        let at : Calls m rest (row_at t r) (kids_of (row_at t r)) = record {
          first = goes _ m e o.first;
          second = goes _ m e o.second;
          third = goes _ m e o.third;
          next = goes_if rest _ m e o.next;
        } in
        rw (ks, is) at

    pub field_calls : (m : ℕ) → remains t r ≡ m → (rest : Bool) (w : Row) → w ≡ row_at t r → FieldCalls m rest w
    field_calls m e rest w is =
        let d = row_descends (counts_at t) t ok.facts r (omega arith) high in
        let at : FieldCalls m rest (row_at t r) = record {
          first = goes _ m e d.to-first;
          second = goes _ m e d.to-second;
          third = λ p. let k : third_of (row_at t r) ≡ (row_at t r).third = rw p in rw k at (goes _ m e d.to-third);
          next = goes_if rest _ m e d.to-next;
        } in
        rw is at

    -- The calls of a pattern's turn.
    pub pattern_calls : (m : ℕ) → remains t r ≡ m → (rest : Bool) (w : Row) → w ≡ row_at t r
        → (items : ℕ) → items ≡ cond (is_pattern w) w.first 0 → (next : ℕ) → next ≡ cond rest w.next 0 → Falls m items × Falls m next
    pattern_calls m e rest w is items ps next ns =
        let d = row_descends (counts_at t) t ok.facts r (omega arith) high in
        let to : Falls m (cond (is_pattern (row_at t r)) (row_at t r).first 0) = goes_if (is_pattern (row_at t r)) _ m e d.to-first in
        let on : Falls m (cond rest (row_at t r).next 0) = goes_if rest _ m e d.to-next in
        (rw (ps, is) to, rw (ns, is) on)

    -- The call on the rest of a chain.
    pub chain_call : (m : ℕ) → remains t r ≡ m → (next : ℕ) → next ≡ (row_at t r).next → Falls m next
    chain_call m e next ns = rw ns (goes _ m e (row_descends (counts_at t) t ok.facts r (omega arith) high).to-next)

    -- The call on the rest of a chain, if it is wanted.
    pub next_call : (m : ℕ) → remains t r ≡ m → (rest : Bool) (w : Row) → w ≡ row_at t r → (next : ℕ) → next ≡ cond rest w.next 0 → Falls m next
    next_call m e rest w is next ns = rw ns (field_calls m e rest w is).next

    -- The call on the first part.
    pub first_call : (m : ℕ) → remains t r ≡ m → (w : Row) → w ≡ row_at t r → Falls m w.first
    first_call m e w is = rw is (goes _ m e (row_descends (counts_at t) t ok.facts r (omega arith) high).to-first)

    -- What the first two fields name are rows.
    pub first-low : (w : Row) → w ≡ row_at t r → w.first ≤ expr_count t
    first-low w is = rw is (onward_low (expr_count t) r _ (row_descends (counts_at t) t ok.facts r (omega arith) high).to-first)

    pub second-low : (w : Row) → w ≡ row_at t r → w.second ≤ expr_count t
    second-low w is = rw is (onward_low (expr_count t) r _ (row_descends (counts_at t) t ok.facts r (omega arith) high).to-second)

-- What a guarded call did, from the two ways that lead past it: it walked to r, or there is no row and r is s still.
pub past_guard : {S A B : Type 0} (W : ℕ → S → S → Type 0) → ((s : S) → W 0 s s) → (row : ℕ) (s r : S)
    → (A → (v : S) × W row s v × (r ≡ v)) → (B → (row ≡ 0) × (r ≡ s)) → A ⊎ B → W row s r
past_guard W none row s r took rows_left (inl a) = let w = took a in rw w.2 w.1
past_guard W none row s r took rows_left (inr b) = let w = rows_left b in rw (w.0, w.1) (none s)

-- The same where the walk also writes a list, whose length it keeps.
pub past_guard_list : {S A B : Type 0} (W : ℕ → S → List ℕ → S → List ℕ → Type 0) → ((s : S) (l : List ℕ) → W 0 s l s l)
    → (row : ℕ) (s : S) (l : List ℕ) (r : S) (m : List ℕ)
    → (A → (v : S) × (n : List ℕ) × W row s l v n × (length n ≡ length l) × (m ≡ n) × (r ≡ v))
    → (B → (row ≡ 0) × (m ≡ l) × (r ≡ s)) → A ⊎ B → W row s l r m × (length m ≡ length l)
past_guard_list {S} W none row s l r m took rows_left =
    past_guard {S = S × List ℕ} (λ n a b. W n a.0 a.1 b.0 b.1 × (length b.1 ≡ length a.1))
    (λ a. (none a.0 a.1, refl)) row (s, l) (r, m)
    (λ x. let w = took x in ((w.0, w.1), (w.2, w.3), λ i. (w.5 i, w.4 i)))
    (λ x. let w = rows_left x in (w.0, λ i. (w.2 i, w.1 i)))

-- ---- a walk that hands on what it found

-- A walk over the expressions at a row, with the rest of its chain if `rest`: the code's value k stands for the definitions' value s where `R k s`.
module _ (t : List ℕ) where
  module _ {K S : Type 0} (R : K → S → Type 0) (f : S → Tree → S) where
    module _ (ok : Accepted t) where
      pub walk_none : (row : ℕ) → row ≡ 0 → (rest : Bool) (k : K) → Walk t R f row rest k k
      walk_none row z rest k s a =
          rw z (subst (R k) (sym (over_by-none (counts_at t) (special_at t) t ok.facts f rest s)) a)

      -- A row's turn: its step g, then its parts, then the rest of its chain.
      module _ (g : S → Row → S) (steps : (s : S) (v : ℕ) → f s (alone_at (counts_at t) (special_at t) t v) ≡ g s (row_at t v)) where
        walk-row : (row : ℕ) → 1 ≤ row → row ≤ expr_count t → (rest : Bool) (k s₀ s₁ s₂ s₃ s₄ : K)
            → let w = row_at t row in
            ((s : S) → R k s → R s₀ (g s w)) → Walk t R f (kids_of w).first true s₀ s₁ → Walk t R f (kids_of w).second true s₁ s₂
            → Walk t R f (kids_of w).third true s₂ s₃ → Walk t R f (cond rest w.next 0) true s₃ s₄ → Walk t R f row rest k s₄
        walk-row row low high rest k s₀ s₁ s₂ s₃ s₄ h₀ h₁ h₂ h₃ h₄ s a =
            subst (R s₄) (sym (over_by-row (counts_at t) (special_at t) t ok.facts f rest s row low high))
            (h₄ _ (h₃ _ (h₂ _ (h₁ _ (subst (R s₀) (sym (steps s row)) (h₀ s a))))))

        -- The same of the row that was read, its parts and the row after it, as the code has them.
        pub walk_turn : (row : ℕ) → (row ≡ 0 → ⊥) → row ≤ expr_count t → (rest : Bool) (w : Row) → w ≡ row_at t row
            → (p : Kids) → p ≡ kids_of w → (next : ℕ) → next ≡ cond rest w.next 0 → (k s₀ s₁ s₂ s₃ s₄ : K)
            → ((s : S) → R k s → R s₀ (g s w)) → Walk t R f p.first true s₀ s₁ → Walk t R f p.second true s₁ s₂ → Walk t R f p.third true s₂ s₃
            → Walk t R f next true s₃ s₄ → Walk t R f row rest k s₄
        walk_turn row ne high rest w is p ps next ns k s₀ s₁ s₂ s₃ s₄ h₀ h₁ h₂ h₃ h₄ =
            let parts : p ≡ kids_of (row_at t row) = ps ∙ ap kids_of is in
            let after : next ≡ cond rest (row_at t row).next 0 = ns ∙ ap (λ (v : Row). cond rest v.next 0) is in
            walk-row row (omega arith) high rest k s₀ s₁ s₂ s₃ s₄ (subst (λ (v : Row). (s : S) → R k s → R s₀ (g s v)) is h₀)
            (subst (λ (q : Kids). Walk t R f q.first true s₀ s₁) parts h₁) (subst (λ (q : Kids). Walk t R f q.second true s₁ s₂) parts h₂)
            (subst (λ (q : Kids). Walk t R f q.third true s₂ s₃) parts h₃) (subst (λ (n : ℕ). Walk t R f n true s₃ s₄) after h₄)

-- ---- a walk over the leaves of a pattern

-- A pattern is no variable.
pub no_var : (w : Row) → is_pattern w ≡ true → is_var w ≡ false
no_var w p = go (or_cases (eqb w.kind 7) (eqb w.kind 9) p)
  where
    go : (eqb w.kind 7 ≡ true) ⊎ (eqb w.kind 9 ≡ true) → eqb w.kind 6 ≡ false
    go (inl e) = let k = eqb-true w.kind 7 e in ne_eqb w.kind 6 (λ z. omega arith)
    go (inr e) = let k = eqb-true w.kind 9 e in ne_eqb w.kind 6 (λ z. omega arith)

-- Row by row, whatever is done at a variable: `Does f k r` says that the code goes from k to r where the definitions do f.
module _ (t : List ℕ) {K S : Type 0} (Does : (S → S) → K → K → Type 0)
    (same : (f g : S → S) (k r : K) → ((s : S) → f s ≡ g s) → Does f k r → Does g k r)
    (none : (k : K) → Does (λ s. s) k k)
    (after : (f g : S → S) (k m r : K) → Does f k m → Does g m r → Does (λ s. g (f s)) k r)
    (g : S → Row → S) (others : (s : S) (w : Row) → is_var w ≡ false → g s w ≡ s) where
  abbrev step : S → Tree → S
  step s e = g s (row_of e)

  -- The leaves of the pattern at a row, with the rest of its chain if `rest`.
  abbrev pub LeavesWalk : ℕ → Bool → K → K → Type 0
  LeavesWalk row rest k r = Does (λ s. foldl (λ (u : S) (e : Tree). g u (row_of e)) s (leaves (expr_by t rest row))) k r

  by-is : (rest : Bool) (s : S) (row : ℕ) → leaves_by (counts_at t) (special_at t) t step rest s row ≡ foldl step s (leaves (expr_by t rest row))
  unfolding sheet_at
  by-is true s row = refl
  by-is false s row = refl

  module _ (ok : Accepted t) where
    pub walked_none : (row : ℕ) → row ≡ 0 → (rest : Bool) (k : K) → LeavesWalk row rest k k
    walked_none row z rest k =
        same (λ s. s) _ k k (λ s. rw z (sym (leaves_by-none (counts_at t) (special_at t) t ok.facts step rest s) ∙ by-is rest s 0)) (none k)

    module _ (row : ℕ) (ne : row ≡ 0 → ⊥) (high : row ≤ expr_count t) (rest : Bool) where
      abbrev over : S → ℕ → S
      over s v = over_leaves (counts_at t) (special_at t) t step s v

      inside : (s : S) → let w = row_at t row in over (g s w) (cond (is_pattern w) w.first 0) ≡ cond (is_pattern w) (over s w.first) (g s w)
      inside s = go (bool_cases (is_pattern (row_at t row)))
        where
          go : let w = row_at t row in
              (is_pattern w ≡ true) ⊎ (is_pattern w ≡ false) → over (g s w) (cond (is_pattern w) w.first 0) ≡ cond (is_pattern w) (over s w.first) (g s w)
          go (inl p) = rw (p, others s (row_at t row) (no_var (row_at t row) p))
          go (inr p) = rw p (leaves_none (counts_at t) (special_at t) t ok.facts step (g s (row_at t row)))

      parts : (s : S) → let w = row_at t row in
          over (over (g s w) (cond (is_pattern w) w.first 0)) (cond rest w.next 0) ≡ foldl step s (leaves (expr_by t rest row))
      parts s =
          rw (inside s) (sym (leaves_by-row (counts_at t) (special_at t) t ok.facts step rest s row (omega arith) high) ∙ by-is rest s row)

      -- A row's turn: the row, what is inside, the rest of its chain.
      pub walked-turn : (w : Row) → w ≡ row_at t row → (inner : ℕ) → inner ≡ cond (is_pattern w) w.first 0 → (next : ℕ) → next ≡ cond rest w.next 0
          → (k a b c : K) → Does (λ s. g s w) k a → LeavesWalk inner true a b → LeavesWalk next true b c → LeavesWalk row rest k c
      unfolding sheet_at
      walked-turn w is inner i next n k a b c h₀ h₁ h₂ =
          same _ _ k c (λ s. rw (n, i, is) (parts s)) (after _ _ k b c (after _ _ k a b h₀ h₁) h₂)
