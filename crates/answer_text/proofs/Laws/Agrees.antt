-- The lines that the words give of a query are those of the schedule that they store.
use mathlib.Core.Path.{◌≡◌, refl, sym, ap, ap₂, ◌∙◌}
use mathlib.Core.Bool.{Bool, cond}
use mathlib.Core.List.{List, [], ◌∷◌, ◌++◌, map, append-nil}
use mathlib.Core.Option.{Option, none, some}
use Prim.Native.Nat.{ℕ, ◌+◌, ◌-◌, ◌/◌, ◌%◌, ◌<◌}
use native.Mathlib.Omega.{arith}
use lib.ListN.{get_or}
use Rattle.base.specs.Limits as limits
use Rattle.base.specs.Lists.{range, concat_map, is_some}
use Rattle.base.specs.Sets.{member}
use Rattle.answer.specs.Text.{row_line, query_rows, place_rows, local_row, set_rows}
use Rattle.order.specs.Turns as turns
use Rattle.sheet.specs.Sheet.{name_bound}
use Rattle.scope.specs.Scopes.{NameSet, contains, elements, Span, span_in}
use Rattle.definition.specs.States.{QuerySchedule}
use Rattle.order.specs.Turns.{mark}
use Rattle.names_width.specs.declared.Width.{Width}
use Rattle.answer_blocks.specs.declared.state.QuerySet.{QuerySet}
use Rattle.answer_blocks.specs.declared.state.QuerySet.TheVariants.{Unscoped, Inputs}
use Rattle.answer_blocks.specs.Inner.States.{set_index}
use Rattle.answer_blocks.specs.Inner.Layout.{word_at, set_at, span_at, place_at}
use Rattle.base.proofs.Laws.ListLaws.{concat_map-append, concat_map-nested}
use Rattle.answer_text.specs.Inner.Stored.{SpanIn, HoldsSchedule, StoredAt}
use Rattle.answer_text.proofs.Laws.Sound.{mark-low}
use Rattle.answer_text.specs.Inner.Ranges.{texts}
use Rattle.answer_text.proofs.Laws.Ranges.{texts-same, concat-map, concat-filter}
use Rattle.answer_text.specs.Inner.Texts.{query_text, place_line, places_text, local_line, name_line, sets_text}
use Rattle.answer_text.proofs.Laws.Texts.{query-never, query_text-once, places-never, places-once, sets-never, sets-once}

module _ (v : Width) (w : List ℕ) (q : ℕ) where
  module _ (a : QuerySchedule) (s : HoldsSchedule v w q a) where
    once : word_at v w q 0 ≡ 0 → ⊥
    once e = omega (arith, s.placed, e)

    query-analysed : concat_map row_line (query_rows q (some a)) ≡ query_text v w q
    query-analysed =
        let p : mark (turns.placed a.definitions a.count name_bound) ≡ word_at v w q 0 - 1 = omega (arith, s.placed) in
        append-nil _ ∙ ap₂ (λ (m n : ℕ). row_line (q ∷ m ∷ n ∷ [])) p (sym s.input) ∙ sym (query_text-once v w q once)

    place_same : (k : ℕ) → k < a.count
        → (let i = get_or (turns.order a.definitions a.count name_bound) k 0 in
        row_line (q ∷ k ∷ i ∷ mark (turns.reached a.definitions a.count name_bound i) ∷ [])) ≡ place_line v w q k
    unfolding place_line
    place_same k l =
        let i = get_or (turns.order a.definitions a.count name_bound) k 0 in
        let n = s.places k l in
        let m = mark-low (turns.reached a.definitions a.count name_bound i) in
        let e : i ≡ place_at v w q k / 2 = omega (arith, n.both, m) in
        let g : mark (turns.reached a.definitions a.count name_bound i) ≡ place_at v w q k % 2 = omega (arith, n.both, m) in
        ap₂ (λ (x y : ℕ). row_line (q ∷ k ∷ x ∷ y ∷ [])) e g

    places-analysed : concat_map row_line (place_rows q (some a)) ≡ places_text v w q
    unfolding texts
    places-analysed =
        concat-map row_line _ (range 0 a.count)
        ∙ texts-same _ (place_line v w q) 0 a.count (λ k l u. place_same k u)
        ∙ ap (texts (place_line v w q) 0) (sym s.count) ∙ sym (places-once v w q once)

    local_same : (x : ℕ) → concat_map row_line (local_row q x (span_in a.scope.locals x)) ≡ local_line v w q x
    unfolding local_line
    local_same x = go (span_in a.scope.locals x) (s.locals x) (s.spans x)
      where
        go : (o : Option Span) → is_some o ≡ member (set_at v w q 0) x → ((p : Span) → o ≡ some p → SpanIn (span_at v w q x) p)
            → concat_map row_line (local_row q x o)
            ≡ cond (member (set_at v w q 0) x) (row_line (q ∷ 1 ∷ x ∷ (span_at v w q x / 65536) ∷ (span_at v w q x % 65536) ∷ [])) []
        go none h spans = rw (sym h)
        go (some p) h spans =
            let n = spans p refl in
            let e : p.line ≡ span_at v w q x / 65536 = omega (arith, n.line, n.col, n.both) in
            let g : p.col ≡ span_at v w q x % 65536 = omega (arith, n.line, n.col, n.both) in
            rw (sym h) (append-nil _ ∙ ap₂ (λ (l k : ℕ). row_line (q ∷ 1 ∷ x ∷ l ∷ k ∷ [])) e g)

    locals-analysed : concat_map row_line (concat_map (λ x. local_row q x (span_in a.scope.locals x)) (range 0 name_bound)) ≡ texts (local_line v w q) 0 limits.per_name
    unfolding texts
    locals-analysed = concat_map-nested row_line _ (range 0 name_bound) ∙ texts-same _ (local_line v w q) 0 limits.per_name (λ x l u. local_same x)

    names-analysed : (set : QuerySet) (names : NameSet) → ((x : ℕ) → contains names x ≡ member (set_at v w q (set_index set)) x)
        → concat_map row_line (map (λ x. q ∷ (set_index set + 1) ∷ x ∷ 0 ∷ 0 ∷ []) (elements names)) ≡ texts (name_line v w q set) 0 limits.per_name
    unfolding texts elements name_line
    names-analysed set names has =
        concat-map row_line _ (elements names) ∙ concat-filter _ (contains names) (range 0 name_bound)
        ∙ texts-same _ (name_line v w q set) 0 limits.per_name (λ x l u. ap (λ (b : Bool). cond b (row_line (q ∷ (set_index set + 1) ∷ x ∷ 0 ∷ 0 ∷ [])) []) (has x))

    sets-analysed : concat_map row_line (set_rows q (some a)) ≡ sets_text v w q
    sets-analysed =
        let k = concat_map (λ x. local_row q x (span_in a.scope.locals x)) (range 0 name_bound) in
        let l = map (λ x. q ∷ 2 ∷ x ∷ 0 ∷ 0 ∷ []) (elements a.scope.unscoped) in
        let m = map (λ x. q ∷ 3 ∷ x ∷ 0 ∷ 0 ∷ []) (elements a.scope.inputs) in
        concat_map-append row_line k (l ++ m)
        ∙ ap₂ (λ (x y : List ℕ). x ++ y) locals-analysed (concat_map-append row_line l m ∙ ap₂ (λ (x y : List ℕ). x ++ y)
        (names-analysed Unscoped a.scope.unscoped s.unscoped) (names-analysed Inputs a.scope.inputs s.inputs))
        ∙ sym (sets-once v w q once)

  pub query-stored : (o : Option QuerySchedule) → StoredAt v w q o → concat_map row_line (query_rows q o) ≡ query_text v w q
  query-stored none s = append-nil _ ∙ sym (query-never v w q s)
  query-stored (some a) s = query-analysed a s

  pub places-stored : (o : Option QuerySchedule) → StoredAt v w q o → concat_map row_line (place_rows q o) ≡ places_text v w q
  places-stored none s = sym (places-never v w q s)
  places-stored (some a) s = places-analysed a s

  pub sets-stored : (o : Option QuerySchedule) → StoredAt v w q o → concat_map row_line (set_rows q o) ≡ sets_text v w q
  sets-stored none s = sym (sets-never v w q s)
  sets-stored (some a) s = sets-analysed a s
