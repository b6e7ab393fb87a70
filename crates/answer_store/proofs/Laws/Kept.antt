-- The words of a table of schedules, with one schedule more in front.
use mathlib.Core.Path.{◌≡◌, sym, ap, ◌∙◌, subst}
use mathlib.Core.Bool.{Bool, true, false, cond}
use mathlib.Core.List.{List, ◌∷◌}
use mathlib.Core.Logic.{◌⊎◌, inl, inr, ⊎_elim}
use mathlib.Core.Option.{Option, none, some}
use Prim.Native.Nat.{ℕ, ◌+◌, ◌-◌, ◌*◌, ◌/◌, ◌%◌, ◌≤◌, ◌<◌}
use native.Mathlib.Omega.{arith}
use lib.Dec.{eqb}
use lib.ListN.{length, get_or}
use borrow.Author.Tests.{eqb-true, eqb-false}
use Rattle.base.specs.Limits as limits
use Rattle.base.proofs.Laws.Truth.{bool_cases, lt_cases, eq_cases, not-both}
use Rattle.base.specs.Sets.{member}
use Rattle.names.proofs.Laws.Laws.{member_below, member_out}
use Rattle.names_width.specs.declared.Width.{Width}
use Rattle.names_width.specs.Inner.Widths.{set_words}
use Rattle.names_width.proofs.Laws.Widths.{Fits}
use Rattle.names_width.proofs.Laws.Laws.{words-length, words_same}
use Rattle.answer_blocks.specs.Inner.Layout.{block_size, places, half, word_at, set_at, span_at}
use Rattle.answer_blocks.proofs.Laws.Laws.{block-is, block_in, block-few, block_apart, set_in}
use Rattle.order.specs.Turns as turns
use Rattle.base.specs.Lists.{is_some}
use Rattle.sheet.specs.Sheet.{name_bound}
use Rattle.scope.specs.Scopes.{Span, span_in}
use Rattle.definition.specs.States.{QuerySchedule, schedule_of}
use Rattle.order.specs.Turns.{mark}
use Rattle.answer_text.specs.Inner.Stored.{SpanIn, PlaceIn, HoldsSchedule, StoredAt, Stored}
use Rattle.scope_state.specs.declared.Scope.{Scope}
use Rattle.scope_state.specs.Inner.Agrees.{Sets}
use Rattle.scope_state.specs.Inner.Spans.{SpanWord}
use Rattle.answer_store.specs.Inner.Writes.{Written}
use Rattle.answer_store.specs.Inner.Words.{place_word, BlockWritten}

-- What is stored is of the schedule a: its scope k, the words l of its locals, its order and marks.
pub record Gives (z : Width) (a : QuerySchedule) (k : Scope) (l : List ℕ) (count : ℕ) (placed : Bool) (order reached : List ℕ) : Type 0 where
  pub sets : Sets k a.scope
  pub locals : Fits (set_words z) k.locals.words
  pub unscoped : Fits (set_words z) k.unscoped.words
  pub inputs : Fits (set_words z) k.inputs.words
  pub spans : (x : ℕ) (p : Span) → span_in a.scope.locals x ≡ some p → SpanIn (get_or l x 0) p
  pub counted : a.count ≡ count
  pub all : placed ≡ turns.placed a.definitions a.count name_bound
  pub places : (n : ℕ) → n < count
      → (let i = get_or (turns.order a.definitions a.count name_bound) n 0 in
      PlaceIn (place_word order reached n) i (mark (turns.reached a.definitions a.count name_bound i)))

-- The words of the locals are as they are gathered.
pub span_in_lem : {n : ℕ} {p : Span} → SpanWord n p → SpanIn n p
span_in_lem w = record { line = w.line; col = w.col; both = w.both }

-- The places of each other query that has some end at or below base, or begin behind the `count` places from base on.
abbrev pub ApartFrom : Width → List ℕ → ℕ → ℕ → ℕ → Type 0
ApartFrom z w q base count = (p : ℕ) → 1 ≤ p → p ≤ limits.most_queries → (p ≡ q → ⊥) → 1 ≤ word_at z w p 0 → 1 ≤ word_at z w p 2
    → (word_at z w p 3 + word_at z w p 2 ≤ base) ⊎ (base + count ≤ word_at z w p 3)

-- A set that fits has low members alone.
fits_low : (n : ℕ) (a : List ℕ) → Fits n a → (x : ℕ) → member a x ≡ true → x < 64 * n
fits_low n a fits x h =
    ⊎_elim (λ (l : x < 64 * n). l) (λ (l : 64 * n ≤ x). absurd (not-both h (fits.none x l))) (lt_cases x (64 * n))

set-low : (z : Width) (w : List ℕ) (q s x : ℕ) → member (set_at z w q s) x ≡ true → x < 64 * set_words z
set-low z w q s x h = subst (λ (n : ℕ). x < 64 * n) (words-length (set_words z) w _) (member_below (set_at z w q s) x h)

-- Of a set that fits all is stored.
whole : (z : Width) (w : List ℕ) (q s : ℕ) (a : List ℕ) → Fits (set_words z) a
    → ((x : ℕ) → x < 64 * set_words z → member (set_at z w q s) x ≡ member a x) → (x : ℕ) → member (set_at z w q s) x ≡ member a x
whole z w q s a fits held x =
    ⊎_elim (λ (h : x < 64 * set_words z). held x h)
    (λ (h : 64 * set_words z ≤ x). let e : length (set_at z w q s) ≡ set_words z = words-length (set_words z) w _ in member_out (set_at z w q s) x (omega (arith, e, h)) ∙ sym (fits.none x h))
    (lt_cases x (64 * set_words z))

small : (n : ℕ) (p : Span) → SpanIn n p → n % 4294967296 ≡ n
small n p h = omega (arith, h.line, h.col, h.both)

module _ (z : Width) (w : List ℕ) (q : ℕ) (k : Scope) (l : List ℕ) (count base : ℕ) (placed : Bool) (order reached : List ℕ) (low : 1 ≤ q) (high : q ≤ limits.most_queries)
    (room : base + count ≤ limits.most_statements) (u : List ℕ) (b : BlockWritten z w q k l count base placed u) (v : List ℕ)
    (s : Written u v (places z + base) count (place_word order reached)) where
  -- A word of the block.
  word : (i : ℕ) → i < block_size z → word_at z v q i ≡ word_at z u q i
  word i h = s.below _ (omega (arith, h, block_in z q low high))

  set : (n : ℕ) → n ≤ 2 → set_at z v q n ≡ set_at z u q n
  set n h = words_same (set_words z) v u _ (λ i f t. s.below i (omega (arith, t, set_in z n h, block_in z q low high)))

  span : (x : ℕ) → x < 64 * set_words z → span_at z v q x ≡ span_at z u q x
  span x h = ap (λ (n : ℕ). half n (eqb (x % 2) 1)) (word (4 + 3 * set_words z + x / 2) (omega (arith, h, block-is z)))

  module _ (a : QuerySchedule) (g : Gives z a k l count placed order reached) where
    at_base : word_at z v q 3 ≡ base
    at_base = word 3 (omega (arith, (block-few z).0)) ∙ b.head 3 (omega arith)

    pub stored_new : HoldsSchedule z v q a
    stored_new = record {
      placed = word 0 (omega (arith, (block-few z).0)) ∙ b.head 0 (omega arith) ∙ ap (λ (c : Bool). 1 + mark c) g.all;
      input = word 1 (omega (arith, (block-few z).0)) ∙ b.head 1 (omega arith) ∙ ap mark (sym g.sets.flag);
      count = word 2 (omega (arith, (block-few z).0)) ∙ b.head 2 (omega arith) ∙ sym g.counted;
      room = omega (arith, at_base, g.counted, room);
      locals = λ x.
          g.sets.locals x ∙ sym (ap (λ (n : List ℕ). member n x) (set 0 (omega arith)) ∙ whole z u q 0 k.locals.words g.locals b.locals x);
      unscoped = λ x.
          g.sets.unscoped x ∙ sym (ap (λ (n : List ℕ). member n x) (set 1 (omega arith)) ∙ whole z u q 1 k.unscoped.words g.unscoped b.unscoped x);
      inputs = λ x.
          g.sets.inputs x ∙ sym (ap (λ (n : List ℕ). member n x) (set 2 (omega arith)) ∙ whole z u q 2 k.inputs.words g.inputs b.inputs x);
      spans = λ x p is.
          let h : x < 64 * set_words z = fits_low (set_words z) k.locals.words g.locals x (sym (g.sets.locals x) ∙ ap is_some is) in
          subst (λ (n : ℕ). SpanIn n p) (sym (span x h ∙ b.spans x h ∙ small (get_or l x 0) p (g.spans x p is))) (g.spans x p is);
      places = λ n h.
          let m : n < count = omega (arith, g.counted) in
          let i = get_or (turns.order a.definitions a.count name_bound) n 0 in
          subst (λ (y : ℕ). PlaceIn y i (mark (turns.reached a.definitions a.count name_bound i)))
          (sym (ap (λ (y : ℕ). get_or v (places z + y + n) 0) at_base ∙ s.within n m)) (g.places n m);
    }

  -- A word of another query's block.
  module _ (p : ℕ) (from : 1 ≤ p) (to : p ≤ limits.most_queries) (other : p ≡ q → ⊥) where
    apart : (p < q) ⊎ (q < p) → (i : ℕ) → i < block_size z → word_at z u p i ≡ word_at z w p i
    apart (inl h) i m = b.below _ (omega (arith, m, block_apart z p q from h))
    apart (inr h) i m = b.above _ (omega (arith, block_apart z q p low h))

    here : (p < q) ⊎ (q < p)
    here = go (lt_cases p q)
      where
        go : (p < q) ⊎ (q ≤ p) → (p < q) ⊎ (q < p)
        go (inl h) = inl h
        go (inr h) = inr (omega (arith, h, other))

    same : (i : ℕ) → i < block_size z → word_at z v p i ≡ word_at z w p i
    same i h = s.below _ (omega (arith, h, block_in z p from to)) ∙ apart here i h

    -- A place that the query had.
    place : (n y c : ℕ) → n < c → (y + c ≤ base) ⊎ (base + count ≤ y) → get_or v (places z + y + n) 0 ≡ get_or w (places z + y + n) 0
    place n y c m (inl h) = s.below _ (omega (arith, m, h)) ∙ b.above _ (omega (arith, block_in z q low high))
    place n y c m (inr h) = s.above _ (omega (arith, m, h)) ∙ b.above _ (omega (arith, block_in z q low high))

    pub stored_old : ApartFrom z w q base count → (a : QuerySchedule) → HoldsSchedule z w p a → HoldsSchedule z v p a
    stored_old aside a h = record {
      placed = same 0 (omega (arith, (block-few z).0)) ∙ h.placed;
      input = same 1 (omega (arith, (block-few z).0)) ∙ h.input;
      count = same 2 (omega (arith, (block-few z).0)) ∙ h.count;
      room = omega (arith, same 3 (omega (arith, (block-few z).0)), h.room);
      locals = λ x. h.locals x ∙ sym (ap (λ (n : List ℕ). member n x) (kept 0 (omega arith)));
      unscoped = λ x. h.unscoped x ∙ sym (ap (λ (n : List ℕ). member n x) (kept 1 (omega arith)));
      inputs = λ x. h.inputs x ∙ sym (ap (λ (n : List ℕ). member n x) (kept 2 (omega arith)));
      spans = λ x r is.
          let m : x < 64 * set_words z = set-low z w p 0 x (sym (h.locals x) ∙ ap is_some is) in
          subst (λ (n : ℕ). SpanIn n r) (sym (ap (λ (n : ℕ). half n (eqb (x % 2) 1)) (same (4 + 3 * set_words z + x / 2) (omega (arith, m, block-is z))))) (h.spans x r is);
      places = λ n m.
          let i = get_or (turns.order a.definitions a.count name_bound) n 0 in
          let e = aside p from to other (omega (arith, h.placed)) (omega (arith, h.count, m)) in
          subst (λ (y : ℕ). PlaceIn y i (mark (turns.reached a.definitions a.count name_bound i)))
          (sym (ap (λ (y : ℕ). get_or v (places z + y + n) 0) (same 3 (omega (arith, (block-few z).0))) ∙ place n (word_at z w p 3) (word_at z w p 2) (omega (arith, h.count, m)) e)) (h.places n m);
    }
      where
        kept : (n : ℕ) → n ≤ 2 → set_at z v p n ≡ set_at z w p n
        kept n l = words_same (set_words z) v w _ (λ i f t. at i f t)
          where
            at : (i : ℕ) → block_size z * (p - 1) + (4 + set_words z * n) ≤ i → i < (block_size z * (p - 1) + (4 + set_words z * n)) + set_words z → get_or v i 0 ≡ get_or w i 0
            at i f t =
                let e : block_size z * (p - 1) + (i - block_size z * (p - 1)) ≡ i = omega (arith, f) in
                subst (λ (y : ℕ). get_or v y 0 ≡ get_or w y 0) e (same (i - block_size z * (p - 1)) (omega (arith, f, t, set_in z n l)))

    stored_at : ApartFrom z w q base count → (o : Option QuerySchedule) → StoredAt z w p o → StoredAt z v p o
    stored_at aside none h = same 0 (omega (arith, (block-few z).0)) ∙ h
    stored_at aside (some a) h = stored_old aside a h

  -- The schedule is stored in front of the others.
  pub stored_next : (schedules : List QuerySchedule) → Stored z w schedules → ApartFrom z w q base count → (a : QuerySchedule) → a.query ≡ q
      → Gives z a k l count placed order reached → Stored z v (a ∷ schedules)
  stored_next schedules h aside a is g p from to = go (bool_cases (eqb a.query p))
    where
      go : (eqb a.query p ≡ true) ⊎ (eqb a.query p ≡ false) → StoredAt z v p (cond (eqb a.query p) (some a) (schedule_of schedules p))
      go (inl e) = rw e (subst (λ (n : ℕ). HoldsSchedule z v n a) (sym is ∙ eqb-true a.query p e) (stored_new a g))
      go (inr e) = rw e (stored_at p from to (λ x. eqb-false a.query p e (is ∙ sym x)) aside (schedule_of schedules p) (h p from to))

  -- Where base is what the query's block said, each block says what it said.
  pub bases_stay : base ≡ word_at z w q 3 → (p : ℕ) → 1 ≤ p → p ≤ limits.most_queries → word_at z v p 3 ≡ word_at z w p 3
  bases_stay said p from to = go (eq_cases p q)
    where
      go : (p ≡ q) ⊎ (p ≡ q → ⊥) → word_at z v p 3 ≡ word_at z w p 3
      go (inl e) =
          subst (λ (n : ℕ). word_at z v n 3 ≡ word_at z w n 3) (sym e) (word 3 (omega (arith, (block-few z).0)) ∙ b.head 3 (omega arith) ∙ said)
      go (inr ne) = same p from to ne 3 (omega (arith, (block-few z).0))
