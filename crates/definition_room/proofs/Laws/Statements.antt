-- A statement adds at most what it weighs, and at least one definition.
use mathlib.Core.Path.{◌≡◌, refl, subst}
use mathlib.Core.List.Memᴰ
use mathlib.Core.List.{List, [], ◌∷◌, ◌++◌, foldl, Memᴰ}
use mathlib.Core.Logic.{inl, inr}
use Prim.Native.Nat.{ℕ, suc, ◌+◌}
use native.Mathlib.Omega.{arith}
use lib.ListN.{length}
use Rattle.order.specs.Definitions.{Definition, of_statement}
use Rattle.order.proofs.Laws.Statements.{mem_statement}
use Rattle.sheet.specs.Sheet.{Sheet}
use Rattle.scope.specs.Trees.{Tree, chain}
use Rattle.scope.specs.Traverse.{vars}
use Rattle.scope.specs.Statements.{Literal, some_vars, some_in, expr, not_expr, every, Stmt}
use Rattle.scope.specs.Scopes.{Scope, no_scope, add_local}
use Rattle.definition.specs.States.{Fault, sound, undefined, used_before, lengths, index_variable, State, if_sound, in_turn, Way}
use Rattle.definition.specs.Using.{gather_used_vars, check_first_use, unless_some, at_least_one}
use Rattle.definition.specs.Comprs.{Mods}
use Rattle.definition.specs.Exprs.{process_plain_expr}
use Rattle.definition.specs.Queries.{mods_of, process_every, process_literal, process_stmt, process_stmts}
use Rattle.definition_once.specs.Inner.OnceWay.{Nested, once_way}
use Rattle.definition_room.specs.Inner.Sizes.{total, size, literal_size, weight}
use Rattle.definition_room.proofs.Laws.Lists.{total_mono}
use Rattle.definition_room.specs.Inner.Leaves.{bracket_vars}
use Rattle.definition_room.proofs.Laws.Leaves.{brackets_fit}
use Rattle.definition_room.specs.Inner.Adds.{Recorded}
use Rattle.definition_room.proofs.Laws.Adds.{AddsDefinitions, Step, adds_no_definition, adds_definitions_then, adds_at_most, step_at-most, adds_below, step_if, end, ◌⨾◌, adds_turn, turn-fold, turn_fold_none, adds_set_run}
use Rattle.definition_room.proofs.Laws.Using.{adds_gather_used_vars, adds_check_first_use, adds_record_one}
use Rattle.definition_room.proofs.Laws.Recording.{AddsFor, for_at_most, for_after, for_if}
use Rattle.definition_room.proofs.Laws.Comprs.{KeepsFit}
use Rattle.definition_room.proofs.Laws.Exprs.{adds_process_plain_expr, adds_process_expr, adds_process_call}
use Rattle.definition_room.proofs.Laws.SomeIn.{adds_process_some_in}

-- A statement with a definition is not without.
recorded-some : (j : ℕ) (defs : List Definition) → Recorded j defs → of_statement j defs ≡ [] → ⊥
recorded-some j defs r e =
    Memᴰ.not-nil (subst (λ (l : List Definition). Memᴰ r.one l) e (mem_statement j defs r.listed r.statement))

module _ (sheet : Sheet) (i : ℕ) where
  -- The definition of a statement that recorded none is the one beyond what its expressions make.
  adds_least : {n : ℕ} {s t : State} → AddsFor sheet i n s t → (l : List Definition) → of_statement i t.definitions ≡ l
      → AddsDefinitions sheet (suc i) (suc n) s (unless_some l i t)
  adds_least {n} {s} {t} (inl a) [] e = adds_at_most sheet (suc n) (adds_definitions_then sheet a (adds_record_one sheet i 0 [] t)) (omega arith)
  adds_least {n} (inl a) (d ∷ l) e = adds_at_most sheet (suc n) a (omega arith)
  adds_least {n} {s} {t} (inr a) [] e = absurd (recorded-some i t.definitions a.1 e)
  adds_least (inr a) (d ∷ l) e = a.0

  adds_for : {n : ℕ} {s t : State} → AddsFor sheet i n s t → AddsDefinitions sheet (suc i) (suc n) s t
  adds_for {n} (inl a) = adds_at_most sheet (suc n) a (omega arith)
  adds_for (inr a) = a.0

  adds_at_least_one : {n : ℕ} {s t : State} → AddsFor sheet i n s t → (x : Fault) → AddsDefinitions sheet (suc i) (suc n) s (if_sound x (at_least_one i) t)
  unfolding at_least_one
  adds_at_least_one {n} {s} {t} a sound = adds_least a (of_statement i t.definitions) refl
  adds_at_least_one a (undefined l c) = adds_for a
  adds_at_least_one a (used_before l c) = adds_for a
  adds_at_least_one a (lengths l c) = adds_for a
  adds_at_least_one a index_variable = adds_for a

module _ (sheet : Sheet) (nested : Nested) (parents : List Scope) (keeps : KeepsFit sheet nested) where
  abbrev way : Way
  way = once_way sheet nested parents

  pub adds_process_every : (i : ℕ) (m : Mods) (key value domain : Tree) (query : ℕ) (s : State)
      → AddsFor sheet i (size key + (size value + size domain)) s (process_every sheet way i m key value domain query s)
  unfolding process_every
  adds_process_every i m key value domain query s =
      for_at_most sheet i (size key + (size value + size domain))
      (for_after sheet i
      (for_if sheet i (process_plain_expr sheet way i m domain) s
      (adds_process_plain_expr sheet nested parents keeps i m domain s) s.run.fault)
      (adds_turn sheet ((λ t. adds_set_run sheet t _
      (keeps (foldl add_local no_scope (vars (chain key ++ chain value)) ∷ (t.scope ∷ parents)) query [] t.run)) ⨾ end)
      (if_sound s.run.fault (process_plain_expr sheet way i m domain) s)))
      (omega arith)

  -- A literal adds at most as many as its expressions, or one more, which is then the statement's.
  pub adds_process_literal : (i : ℕ) (m : Mods) (l : Literal) (s : State)
      → AddsFor sheet i (literal_size l) s (process_literal sheet way i m l s)
  unfolding process_literal
  adds_process_literal i m (some_vars vs) s =
      inl (adds_at_most sheet (size vs) (turn_fold_none sheet check_first_use (adds_check_first_use sheet) (vars (chain vs)) s) (omega arith))
  adds_process_literal i m (some_in key value collection) s = adds_process_some_in sheet nested parents keeps i m key value collection s
  adds_process_literal i m (expr e) s = adds_process_call sheet nested parents keeps i m e s
  adds_process_literal i m (not_expr e) s = adds_process_expr sheet nested parents keeps i m e s
  adds_process_literal i m (every key value domain query) s = adds_process_every i m key value domain query s

  pub adds_with_mods : (i : ℕ) (mods : List Tree)
      → Step sheet (suc i) (total size mods) (λ t. foldl (λ u e. in_turn (gather_used_vars sheet i [] e ∷ []) u) t mods)
  adds_with_mods i mods =
      step_at-most sheet (total size mods)
      (turn-fold sheet bracket_vars (λ u e. in_turn (gather_used_vars sheet i [] e ∷ []) u)
      (λ e. step_at-most sheet (bracket_vars e) (adds_turn sheet (adds_gather_used_vars sheet i [] e ⨾ end)) (omega arith)) mods)
      (total_mono bracket_vars size brackets_fit mods)

  -- A statement adds at most what it weighs.
  pub adds_process_stmt : (i : ℕ) (st : Stmt) → Step sheet (suc i) (weight st) (process_stmt sheet way i st)
  unfolding process_stmt weight
  adds_process_stmt i st s =
      let mods : State → State = λ t. foldl (λ u e. in_turn (gather_used_vars sheet i [] e ∷ []) u) t st.with_mods in
      let literal : State → State = λ t. process_literal sheet way i (mods_of sheet t.scope st.with_mods) st.literal t in
      let a = step_if sheet mods (adds_with_mods i st.with_mods) s.run.fault s in
      let t = if_sound s.run.fault mods s in
      let b = for_if sheet i literal t (adds_process_literal i (mods_of sheet t.scope st.with_mods) st.literal t) t.run.fault in
      let u = if_sound t.run.fault literal t in
      adds_at_most sheet (weight st)
      (adds_definitions_then sheet a (adds_at_least_one sheet i b u.run.fault)) (omega arith)

  -- Statements add at most what they weigh, all of it theirs, wherever a fault stops them.
  pub adds_process_stmts : (stmts : List Stmt) (i : ℕ)
      → Step sheet (i + length stmts) (total weight stmts) (process_stmts sheet way i stmts)
  unfolding process_stmts
  adds_process_stmts [] i s = adds_no_definition sheet s
  adds_process_stmts (st ∷ stmts) i s =
      adds_definitions_then sheet
      (adds_below sheet (i + suc (length stmts))
      (step_if sheet (process_stmt sheet way i st) (adds_process_stmt i st) s.run.fault s) (omega arith))
      (adds_below sheet (i + suc (length stmts))
      (adds_process_stmts stmts (suc i) (in_turn (process_stmt sheet way i st ∷ []) s)) (omega arith))
