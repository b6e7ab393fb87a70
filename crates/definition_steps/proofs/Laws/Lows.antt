-- What every schedule in the table has while queries are analysed: names below the bound; and that the scheduler takes it.
use mathlib.Core.Path.{◌≡◌}
use mathlib.Core.Bool.{true}
use mathlib.Core.List.Memᴰ
use mathlib.Core.List.{List, [], ◌++◌, Memᴰ}
use mathlib.Core.Logic.{⊎_elim}
use Prim.Native.Nat.{ℕ, ◌*◌}
use native.Mathlib.Omega.{arith}
use lib.Dec.{ltb}
use borrow.Author.Tests.{ltb-true}
use Rattle.base.specs.Lists.{all}
use Rattle.base.proofs.Laws.Members.{all_mem}
use Rattle.names_width.specs.declared.Width.{Width}
use Rattle.names_width.specs.Widths.{limits}
use Rattle.names_width.specs.Inner.Widths.{set_words}
use Rattle.names_width.proofs.Laws.Laws.{names_are}
use Rattle.order.specs.Definitions.{Definition}
use Rattle.sheet.specs.declared.Counts.{Counts}
use Rattle.sheet.specs.Inner.Records.{Within}
use Rattle.sheet.specs.declared.Special.{Special}
use Rattle.sheet.specs.Faults.{first_line}
use Rattle.base.proofs.Laws.ListLaws.{all_append}
use Rattle.sheet.specs.Sheet.{Sheet}
use Rattle.sheet.specs.Inner.Sheet.{sheet_of}
use Rattle.scope.specs.Trees.{Tree, tree_at, chain}
use Rattle.scope.specs.Statements.{stmts_of}
use Rattle.scope.proofs.Laws.TreeRows.{rows_pass, tree-rows, chain-rows}
use Rattle.scope.proofs.Laws.StatementRows.{stmts_rows}
use Rattle.scope.specs.Scopes.{Scope}
use Rattle.scope.specs.Inner.Below.{name_below}
use Rattle.scope.proofs.Laws.Below.{unscoped-below, input-below, flag-below, gathered-below}
use Rattle.scope.specs.Gather.{gather_local_vars}
use Rattle.definition.specs.States.{QuerySchedule, Run}
use Rattle.definition_once.specs.Inner.OnceWay.{analyze_once}
use Rattle.definition_once.specs.Inner.Own.{own_definition}
use Rattle.definition_once.proofs.Laws.Steps.{KeptByChanges}
use Rattle.definition_once.specs.Inner.Schedules.{EachSchedule}
use Rattle.definition_once.proofs.Laws.Schedules.{analyze_keeps}
use Rattle.definition_once.specs.Inner.Named.{NamesUnder}
use Rattle.definition_once.proofs.Laws.Named.{inputs-under, own_below, own-used}
use Rattle.definition_room.specs.Inner.Adds.{below, FitsSchedule}
use Rattle.definition_room.proofs.Laws.Bound.{weight_in_bounds}
use Rattle.definition_room.proofs.Laws.Counted.{query_statements_few}
use Rattle.definition_room.specs.Inner.InBounds.{InBounds}
use Rattle.definition_state.specs.Inner.Table.{Low}
use Rattle.sheet.specs.Inner.Rows.{in_tables}
use Rattle.scope_walk.proofs.Laws.RowTrees.{statements-length}

-- ---- each change keeps names low

module _ (n : ℕ) (zero : ltb 0 n ≡ true) where
  recorded-low : (sc : Scope) (defs new : List Definition) → all (own_definition sc) new ≡ true → Low n sc defs → Low n sc (defs ++ new)
  recorded-low sc defs new own low = record {
    scope = low.scope;
    named = λ d m.
        ⊎_elim (λ (i : Memᴰ d defs). low.named d i)
        (λ (i : Memᴰ d new). own_below n zero sc low.scope d (all_mem (own_definition sc) new own i)) (Memᴰ.append_cases defs m);
    used = λ d m.
        ⊎_elim (λ (i : Memᴰ d defs). low.used d i)
        (λ (i : Memᴰ d new). own-used n sc low.scope d (all_mem (own_definition sc) new own i)) (Memᴰ.append_cases defs m);
  }

  pub low-kept : KeptByChanges (λ x. ltb x n) (Low n)
  low-kept = record {
    input = λ sc defs x l low. record { scope = input-below n sc x l low.scope; named = low.named; used = low.used };
    flag = λ sc defs b low. record { scope = flag-below n sc b low.scope; named = low.named; used = low.used };
    extra = λ sc defs x l low. record { scope = unscoped-below n sc x l low.scope; named = low.named; used = low.used };
    recorded = recorded-low;
  }

  -- ---- a sheet whose names lie below n

  module _ (sheet : Sheet) (names : NamesUnder n sheet) where
    -- The expressions of the chains at two rows: the outputs of a comprehension are such.
    pub chains-low : (key value : ℕ) → all (rows_pass (name_below n)) (chain (tree_at sheet key) ++ chain (tree_at sheet value)) ≡ true
    chains-low key value =
        all_append (rows_pass (name_below n)) (chain (tree_at sheet key)) (chain (tree_at sheet value))
        (chain-rows (name_below n) (tree_at sheet key) (tree-rows (name_below n) sheet names zero key))
        (chain-rows (name_below n) (tree_at sheet value) (tree-rows (name_below n) sheet names zero value))

    pub gathered-low : (parents : List Scope) (q : ℕ) (outputs : List Tree) → all (rows_pass (name_below n)) outputs ≡ true
        → Low n (gather_local_vars sheet parents (stmts_of sheet q) outputs) []
    gathered-low parents q outputs h = record {
      scope = gathered-below n sheet parents (stmts_of sheet q) zero (stmts_rows (name_below n) sheet names zero q) outputs h;
      named = λ d m. absurd (Memᴰ.not-nil m);
      used = λ d m. absurd (Memᴰ.not-nil m);
    }

    pub analyze-low : (k : ℕ) (parents : List Scope) (q : ℕ) (outputs : List Tree) (r : Run) → all (rows_pass (name_below n)) outputs ≡ true
        → EachSchedule (Low n) r.schedules → EachSchedule (Low n) (analyze_once k sheet parents q outputs r).schedules
    analyze-low =
        analyze_keeps sheet (λ x. ltb x n) names zero (Low n) low-kept (λ sc defs low. inputs-under n sc low.scope) gathered-low

-- ---- what fits is in bounds

module _ (c : Counts) (x : Special) (t : List ℕ) (few : Within c) (fine : first_line c (in_tables t) ≡ 0) where
  pub in_bounds : (v : Width) (a : QuerySchedule) → FitsSchedule (sheet_of c x t) a → Low (64 * set_words v) a.scope a.definitions → InBounds (limits v) a
  in_bounds v a fits low = record {
    few-statements =
        omega (arith, fits.whole, query_statements_few (sheet_of c x t) a.query, statements-length c x t, few.few-statements);
    few-definitions = omega (arith, fits.at_most, weight_in_bounds c x t few fine a.query);
    stated = λ d m. ltb-true d.statement a.count (all_mem (below a.count) a.definitions fits.stated m);
    named = λ d m. let l = low.named d m in omega (arith, l, names_are v);
  }
