-- Laws of `Demand3`.
use mathlib.Core.Path.{◌≡◌, refl, sym, ap, ◌∙◌, subst}
use mathlib.Core.Bool.{Bool, true, false, ◌||◌}
use mathlib.Core.List.{List, [], ◌∷◌, map, map-map}
use mathlib.Core.Logic.{inl, inr, ⊎_elim}
use mathlib.Core.Option.{Option, some}
use Prim.Native.Nat.{ℕ}
use lib.Dec.{eqb}
use lib.ListN.{length, get_or}
use borrow.Author.Tests.{eqb-true}
use Rattle.base.proofs.Laws.Truth.{bool_cases, and_left, and_right, or_cases}
use Rattle.base.proofs.Laws.Lists.{all-elem}
use Rattle.base.proofs.Laws.Members.{all_mem}
use Rattle.base.specs.Lists.{range}
use Rattle.names_width.specs.declared.Width.{Width}
use Rattle.names_width.specs.Widths.{limits}
use Rattle.buffers.proofs.Laws.Fills.{length-range}
use Rattle.order.specs.Definitions.{Definition, Named}
use Rattle.order.specs.Turns.{placed, order, mark}
use Rattle.order.specs.Inner.Shared.{PlainWalks}
use Rattle.order.proofs.Laws.Shared.{plain_walks}
use Rattle.sheet.specs.Sheet.{sheet_in, name_bound}
use Rattle.base.proofs.Laws.ListLaws.{find-some}
use Rattle.scope.specs.Scopes.{owns}
use Rattle.definition.specs.States.{QuerySchedule}
use Rattle.definition.specs.Inner.Queries.{definitions_in}
use Rattle.definition.specs.RustWay.{schedule_in}
use Rattle.definition_once.specs.Inner.OnceWay.{analyze_query_snippet_once, schedule_once, recorded_once}
use Rattle.definition_once.specs.Inner.Own.{own_definition}
use Rattle.definition_once.proofs.Laws.OwnNames.{own-names}
use Rattle.definition_once.proofs.Laws.Named.{scopes_below, recorded-named}
use Rattle.answer.specs.Text.{place_rows, all_rows, answer_text}
use Rattle.nokchbem.specs.Calls.{AnalyzeCall}
use Rattle.promises.proofs.Laws.Demand2.{analyze-text, analyze-reads}
use Rattle.promises.specs.Demand3.{order_in, Meaning, Demand3}
use Rattle.promises.proofs.Laws.Listing.{own-listed, by-places, mark-one, mark-none}
use Rattle.promises.proofs.Laws.ReadSheets.{read_names, read_schedules}

-- ---- the theorem

-- Of a list of definitions whose names lie below the bound: the order in the rows is the order handed out.
module _ (defs : List Definition) (n : ℕ) (named : Named defs name_bound) where
  abbrev plain : PlainWalks defs n name_bound
  plain = plain_walks defs n name_bound named

  long : length (order defs n name_bound) ≡ n
  long =
      ⊎_elim (λ (h : placed defs n name_bound ≡ true). (plain.order-placed h).0.once)
      (λ (h : placed defs n name_bound ≡ false). ap length (plain.order-unplaced h) ∙ length-range n) (bool_cases (placed defs n name_bound))

  pub order_read : map (λ k. get_or (order defs n name_bound) k 0) (range 0 n) ≡ order defs n name_bound
  order_read = by-places (order defs n name_bound) n long

module _ (v : Width) {s : List ℕ} {tables work room r : ℕ} {t w a : List ℕ} (call : AnalyzeCall (limits v) s tables work room r t w a) (zero : r ≡ 0) where
  query_means : (q : ℕ) (b : QuerySchedule) → schedule_in (sheet_in s) q ≡ some b → Meaning q b
  unfolding own_definition schedule_once recorded_once
  query_means q b found =
      let read = analyze-reads call zero in
      let names = read_names v s tables work read.0 in
      let once : schedule_once (sheet_in s) q ≡ some b = sym (read_schedules v s tables work read.0 read.1 q) ∙ found in
      let in_table = (find-some _ (analyze_query_snippet_once (sheet_in s)).schedules once).0 in
      let low = scopes_below name_bound refl (sheet_in s) names b in_table in
      let defs = b.definitions in
      let n = b.count in
      let named : Named defs name_bound = subst (λ (o : Option QuerySchedule). Named (definitions_in o) name_bound) once (recorded-named name_bound refl (sheet_in s) names q) in
      let p = plain_walks defs n name_bound named in
      let rows : order_in (place_rows q (some b)) ≡ order defs n name_bound = map-map _ _ (range 0 n) ∙ order_read defs n named in
      record {
        marks = λ π ρ others perm moved picks ended.
            ap (λ (g : ℕ → Bool). map (λ k. let i = get_or (order defs n name_bound) k 0 in q ∷ k ∷ i ∷ mark (g i) ∷ []) (range 0 n))
            (λ d i. p.shared π ρ others perm moved picks ended i d);
        placed_exactly = (λ e. p.walkable.0 (mark-one _ e), λ o. ap mark (p.walkable.1 o));
        order_of_turns = λ e.
            let h = mark-one _ e in
            (rows ∙ p.in_turns h, rw rows (p.order-placed h).0, rw rows (p.order-placed h).1);
        order_as_written = λ e. rows ∙ p.order-unplaced (mark-none _ e);
        own_names_listed = λ d m.
            let h = all_mem (own_definition b.scope) defs (own-names (sheet_in s) b in_table) m in
            let v = and_left (eqb d.var 0 || owns b.scope d.var) _ h in
            let u = and_right (eqb d.var 0 || owns b.scope d.var) _ h in (
              ⊎_elim (λ (e : eqb d.var 0 ≡ true). inl (eqb-true d.var 0 e))
                  (λ (e : owns b.scope d.var ≡ true). inr (own-listed q b low d.var e)) (or_cases _ _ v),
              λ x e. own-listed q b low x (all-elem (owns b.scope) d.used u x e),
            );
      }

  -- Where `nokchbem_analyze`, or the printing program's call, returns 0, what it leaves has demand 3.
  pub demand3 : Demand3 s room a
  unfolding answer_text all_rows schedule_in
  demand3 = record {
    the_text = analyze-text call zero;
    the_rows = refl;
    analysed = query_means;
    never = λ q e. rw e (record { placed_2 = refl; no_place = refl; no_set = refl });
  }
