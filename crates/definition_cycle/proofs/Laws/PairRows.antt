-- The turn of two rows side by side in `process_pairs`: they differ in length, or are assigned, or their parts are paired; then the rest of
-- both chains.
use mathlib.Core.Path.{◌≡◌, refl, sym, ap, ◌∙◌, subst}
use mathlib.Core.Bool.{Bool, true, false, cond, ◌&&◌}
use mathlib.Core.List.{List, [], ◌∷◌, ◌++◌, foldl, foldl-append}
use Prim.Native.Nat.{ℕ, ◌+◌, ◌≤◌}
use native.Mathlib.Omega.{arith}
use lib.Dec.{eqb}
use lib.ListN.{length}
use Rattle.base.proofs.Laws.Truth.{and_left, and_right, or_left}
use Rattle.sheet.specs.declared.Row.{Row}
use Rattle.sheet.specs.Inner.Sheet.{row_at}
use Rattle.sheet.specs.Kinds.{is_array}
use Rattle.scope.specs.Scopes.{Scope}
use Rattle.definition.specs.States.{lengths, State, fail}
use Rattle.definition.specs.Comprs.{Mods}
use Rattle.definition.specs.Exprs.{Pairing, pair, mismatch, assign_pairing}
use Rattle.definition_room.specs.Inner.Sizes.{total}
use Rattle.definition_room.proofs.Laws.Lists.{total-append}
use Rattle.definition_room.specs.Inner.Exprs.{pair_cost}
use Rattle.definition_room.proofs.Laws.Lying.{lies-there}
use Rattle.definition_room.proofs.Laws.Homes.{pattern_no_compr, next-lies, fields_lie}
use Rattle.scope_walk.specs.Inner.Sheets.{counts_at, sheet_at, Accepted, expr_count}
use Rattle.scope_walk.specs.Inner.Exprs.{expr_by}
use Rattle.scope_state.specs.Inner.Chains.{chain_at}
use Rattle.scope_walk.specs.Inner.Walking.{remains}
use Rattle.scope_walk.proofs.Laws.Walking.{Falls, chain_call, first_call, first-low}
use Rattle.definition_literal.specs.declared.context.Context.{Context}
use Rattle.definition_literal.specs.declared.pairs.Pair.{Pair}
use Rattle.definition_literal.specs.declared.pairs.Pair.TheVariants.{Sides, Chains, Differ}
use Rattle.definition_literal.specs.Inner.Pairs.{pair_by}
use Rattle.definition_state.specs.declared.Fault.TheVariants.{Lengths}
use Rattle.definition_state.specs.declared.Progress.{Progress}
use Rattle.definition_state.specs.Inner.Faults.{is_sound}
use Rattle.definition_state.proofs.Laws.Steps.{agree_sound, failed-agrees, guarded_when_sound, runs-stays}
use Rattle.definition_state.specs.Inner.Frames.{failed, Agree}
use Rattle.definition_steps.proofs.Laws.Pairs.{pairings-row}
use Rattle.definition_cycle.specs.Inner.Sites.{way_by, LiesIn, RunsIn}
use Rattle.definition_cycle.proofs.Laws.Moves.{inside-next, runs_in, runs_in_then, runs_in_as}
use Rattle.definition_cycle.proofs.Laws.Steadies.{steady_pairs}
use Rattle.definition_cycle.specs.Inner.Asks.{AsksExpr, pair_at, pairs_at}
use Rattle.definition_cycle.specs.Inner.Does.{DoesPairs}
use Rattle.definition_cycle.proofs.Laws.Witnesses.{some_mods, some_stand}
use Rattle.definition_cycle.proofs.Laws.PairTurns.{no_pairs, pair-at}

-- ---- pairs after pairs

module _ (t inner : List ℕ) (check : Bool) (x : Context) (p : Progress) (fs w : List ℕ) (ps : List Pairing) (q : Progress) (gs v : List ℕ)
    (does : DoesPairs t inner ps check x p fs w q gs v) where
  pub pairs_then : (qs : List Pairing) (r : Progress) (hs u : List ℕ) → DoesPairs t inner qs check x q gs v r hs u
      → DoesPairs t inner (ps ++ qs) check x p fs w r hs u
  pairs_then qs r hs u then m st =
      runs_in_as t inner (λ parents s. foldl (step parents) (foldl (step parents) s ps) qs) _ p r fs hs w u
      (λ parents s. sym (foldl-append (step parents) s ps qs))
      (runs_in_then t inner (total pair_cost ps) (λ parents s. foldl (step parents) s ps) (λ parents s. foldl (step parents) s qs) p q r fs gs hs w v u
      (λ parents. steady_pairs t x.levels parents x.statement m check ps) (does m st) (then m st))
    where
      step : List Scope → State → Pairing → State
      step parents = assign_pairing (sheet_at t) (way_by t x.levels parents) x.statement m check

  -- What they leave for others, on rows of the query.
  pub pairs_asks : (a b more : ℕ) (asks : AsksExpr t inner a b x p fs w more) (k : ℕ) → total pair_cost ps + k ≤ more
      → (l r : ℕ) → LiesIn t asks.inside.at.query l → LiesIn t asks.inside.at.query r → AsksExpr t inner l r x q gs v k
  pairs_asks a b more asks k fit l r here there = record {
    inside = inside-next t inner p q fs gs w v more (total pair_cost ps) k _
        (λ parents. steady_pairs t x.levels parents x.statement (some_mods t x) check ps) fit (does (some_mods t x) (some_stand t x)) asks.inside;
    first-lies = here;
    second-lies = there;
    mods_lie = asks.mods_lie;
    mods-low = asks.mods-low;
  }

-- ---- the fault of lengths that differ

module _ (t inner : List ℕ) (check : Bool) (x : Context) (b : Row) (p : Progress) (fs w : List ℕ) where
  mismatched : (m : Mods) (e : Bool) → is_sound p.fault ≡ e
      → RunsIn t inner (λ parents s. assign_pairing (sheet_at t) (way_by t x.levels parents) x.statement m check s (mismatch b))
      p fs w (cond e (failed p (Lengths b.line b.col)) p) fs w
  unfolding assign_pairing
  mismatched m true e = record {
    grown = record { long = refl; up = omega arith; wide = refl; before = λ j l. refl };
    agrees = λ parents spans s o a.
        subst (Agree t spans (failed p (Lengths b.line b.col)) fs w)
        (sym (guarded_when_sound (fail (lengths b.line b.col)) s (agree_sound t spans p fs w s a e)))
        (failed-agrees t spans p fs w s a (Lengths b.line b.col));
  }
  mismatched m false e = runs_in t inner _ p p fs fs w w (runs-stays t (fail (lengths b.line b.col)) p fs w e)

  pub differs : (r : Progress) → r ≡ cond (is_sound p.fault) (failed p (Lengths b.line b.col)) p
      → DoesPairs t inner (mismatch b ∷ []) check x p fs w r fs w
  differs r is m st = rw is (mismatched m (is_sound p.fault) refl)

-- ---- what the rows come to

-- The pairings of a pair, with b on the right.
abbrev pub pairings_of : List ℕ → Row → Pair → List Pairing
pairings_of t b (Sides l r) = pair_at t l r
pairings_of t b (Chains l r) = pairs_at t l r
pairings_of t b Differ = mismatch b ∷ []

-- Two rows that lie in the queries in which l and r lie.
pub record RowsWithin (t : List ℕ) (l r left right : ℕ) : Type 0 where
  pub left-low : left ≤ expr_count t
  pub right_low : right ≤ expr_count t
  pub left-lies : (q : ℕ) → LiesIn t q l → LiesIn t q left
  pub right_lies : (q : ℕ) → LiesIn t q r → LiesIn t q right

-- The rows of a pair do; chains are entered further on.
abbrev pub Entered : List ℕ → ℕ → ℕ → Pair → Type 0
Entered t l r (Sides left right) = RowsWithin t l r left right
Entered t l r (Chains left right) = RowsWithin t l r left right × Falls t (remains t l) left
Entered t l r Differ = Unit

module _ (t : List ℕ) (l r : ℕ) (a b : Row) (pr : Pair) where
  -- The pairings of the pair, then those of the rest of both chains.
  pub record Split : Type 0 where
    pub is : pairs_at t l r ≡ pairings_of t b pr ++ pairs_at t a.next b.next
    pub entered : Entered t l r pr
    pub next_falls : Falls t (remains t l) a.next
    pub next_low : b.next ≤ expr_count t
    pub next-lies : (q : ℕ) → LiesIn t q l → LiesIn t q a.next
    pub others_lie : (q : ℕ) → LiesIn t q r → LiesIn t q b.next

module _ (t : List ℕ) (ok : Accepted t) where
  -- A row of the table.
  module _ (row : ℕ) (there : row ≡ 0 → ⊥) (high : row ≤ expr_count t) where
    after-lies : (q : ℕ) → LiesIn t q row → LiesIn t q (row_at t row).next
    after-lies q h =
        next-lies (counts_at t) t ok.within ok.fine q row (omega arith) high (lies-there (counts_at t) t q row (omega arith) h)

    items_lie : is_array (row_at t row) ≡ true → (q : ℕ) → LiesIn t q row → LiesIn t q (row_at t row).first
    items_lie array q h =
        (fields_lie (counts_at t) t ok.within ok.fine q row (omega arith) high (lies-there (counts_at t) t q row (omega arith) h)
        (pattern_no_compr (row_at t row) (or_left _ _ array))).first

  module _ (l : ℕ) (some : l ≡ 0 → ⊥) (high : l ≤ expr_count t) (r : ℕ) (there : r ≡ 0 → ⊥) (upto : r ≤ expr_count t) where
    abbrev left-row : Row
    left-row = row_at t l

    abbrev right_row : Row
    right_row = row_at t r

    next : Falls t (remains t l) left-row.next
    next = chain_call t ok l some high (remains t l) refl left-row.next refl

    other : Falls t (remains t r) right_row.next
    other = chain_call t ok r there upto (remains t r) refl right_row.next refl

    split_by : (x y : Bool) → (x ≡ true → is_array left-row ≡ true) → (x ≡ true → is_array right_row ≡ true)
        → pairs_at t l r
        ≡ (cond x (cond y (pairs_at t left-row.first right_row.first) (mismatch right_row ∷ [])) (pair (expr_by t false l) (expr_by t false r) ∷ [])
        ++ pairs_at t left-row.next right_row.next)
        → Split t l r left-row right_row (cond x (cond y (Chains left-row.first right_row.first) Differ) (Sides l r))
    split_by true true la ra is = record {
      is = is;
      entered = (
        record {
          left-low = (first_call t ok l some high (remains t l) refl left-row refl).1;
          right_low = first-low t ok r there upto right_row refl;
          left-lies = items_lie l some high (la refl);
          right_lies = items_lie r there upto (ra refl);
        },
        first_call t ok l some high (remains t l) refl left-row refl,
      );
      next_falls = next;
      next_low = other.1;
      next-lies = after-lies l some high;
      others_lie = after-lies r there upto;
    }
    split_by true false la ra is =
        record { is = is; entered = tt; next_falls = next; next_low = other.1; next-lies = after-lies l some high; others_lie = after-lies r there upto }
    split_by false y la ra is = record {
      is = is ∙ rw (pair-at t l r some);
      entered = record { left-low = high; right_low = upto; left-lies = λ q h. h; right_lies = λ q h. h };
      next_falls = next;
      next_low = other.1;
      next-lies = after-lies l some high;
      others_lie = after-lies r there upto;
    }

    pub split : (a b : Row) → a ≡ row_at t l → b ≡ row_at t r → (pr : Pair) → pr ≡ pair_by t l r a b → Split t l r a b pr
    split a b at_left at_right pr is =
        let rows : Split t l r left-row right_row (pair_by t l r left-row right_row) =
        split_by (is_array left-row && is_array right_row) (eqb (length (chain_at t left-row.first)) (length (chain_at t right_row.first)))
        (and_left (is_array left-row) (is_array right_row)) (and_right (is_array left-row) (is_array right_row)) (pairings-row t ok l some high r there upto) in
        rw (is, at_left, at_right) rows

-- ---- the turn

module _ (t inner : List ℕ) (l r : ℕ) (check : Bool) (x : Context) (p : Progress) (fs w : List ℕ)
    (asks : AsksExpr t inner l r x p fs w (total pair_cost (pairs_at t l r))) (a b : Row) where
  module _ (pr : Pair) (parts : Split t l r a b pr) where
    abbrev here : List Pairing
    here = pairings_of t b pr

    abbrev behind : List Pairing
    behind = pairs_at t a.next b.next

    costs : total pair_cost (pairs_at t l r) ≡ total pair_cost here + total pair_cost behind
    costs = ap (total pair_cost) parts.is ∙ total-append pair_cost here behind

    asks_within : (left right : ℕ) → RowsWithin t l r left right → AsksExpr t inner left right x p fs w (total pair_cost here)
    asks_within left right n =
        pairs_asks t inner check x p fs w [] p fs w (no_pairs t inner check x p fs w [] refl) l r _ asks (total pair_cost here)
        (omega (arith, costs)) left right (n.left-lies _ asks.first-lies) (n.right_lies _ asks.second-lies)

    module _ (s : Progress) (gs v : List ℕ) (does : DoesPairs t inner here check x p fs w s gs v) where
      pub asks_rest : AsksExpr t inner a.next b.next x s gs v (total pair_cost behind)
      asks_rest =
          pairs_asks t inner check x p fs w here s gs v does l r _ asks (total pair_cost behind) (omega (arith, costs)) a.next b.next
          (parts.next-lies _ asks.first-lies) (parts.others_lie _ asks.second-lies)

      pub pairs_does : (s₁ : Progress) (hs u : List ℕ) → DoesPairs t inner behind check x s gs v s₁ hs u
          → DoesPairs t inner (pairs_at t l r) check x p fs w s₁ hs u
      pairs_does s₁ hs u then =
          subst (λ (k : List Pairing). DoesPairs t inner k check x p fs w s₁ hs u) (sym parts.is)
          (pairs_then t inner check x p fs w here s gs v does behind s₁ hs u then)

  pub asks_sides : (left right : ℕ) → Split t l r a b (Sides left right) → AsksExpr t inner left right x p fs w (total pair_cost (pair_at t left right))
  asks_sides left right parts = asks_within (Sides left right) parts left right parts.entered

  pub asks_chains : (left right : ℕ) → Split t l r a b (Chains left right) → AsksExpr t inner left right x p fs w (total pair_cost (pairs_at t left right))
  asks_chains left right parts = asks_within (Chains left right) parts left right parts.entered.0
