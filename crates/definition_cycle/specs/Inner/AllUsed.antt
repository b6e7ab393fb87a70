-- All names that an expression uses, as a set.
use Rattle.std.specs.Prelude.{◌≡◌, List, [], ◌++◌, ℕ}
use Rattle.names.specs.Inner.Sets.{Union}
use Rattle.names.specs.Inner.Names.{Names}
use Rattle.names_width.specs.declared.Width.{Width}
use Rattle.base.specs.Lists.{concat_map}
use Rattle.sheet.specs.declared.Row.{Row}
use Rattle.scope.specs.Trees.{Tree, tree_at}
use Rattle.scope.specs.Traverse.{leaves, comprs}
use Rattle.scope.specs.Scopes as spec
use Rattle.definition.specs.Uses.{used_vars}
use Rattle.definition.specs.States.{State, Way}
use Rattle.definition.specs.Comprs.{Mods, all_used}
use Rattle.definition.specs.SomeIn.{non_vars}
use Rattle.definition_once.specs.Inner.OnceWay.{Nested, once_way}
use Rattle.answer_text.specs.Inner.Stored.{Stored}
use Rattle.scope_state.specs.declared.Scope.{Scope}
use Rattle.scope_walk.specs.Inner.Sheets.{sheet_at}
use Rattle.scope_state.specs.Inner.Agrees.{Sets}
use Rattle.definition_walk.specs.Inner.Own.{Holds}
use Rattle.definition_walk.specs.Inner.Adds.{Adds}
use Rattle.definition_expr.specs.declared.Using.{Using}
use Rattle.definition_literal.specs.declared.context.Context.{Context}
use Rattle.definition_literal.specs.Inner.Contexts.{Stands}
use Rattle.definition_literal.specs.Inner.SomeIn.{NonVar}
use Rattle.definition_state.specs.Inner.Table.{answers_of}
use Rattle.definition_cycle.specs.Inner.Asks.{other_at}

-- The modifiers' comprehensions count for each part of a pattern, their names do not.
abbrev pub later_mods : List Tree → Mods
later_mods cs = record { used_vars = []; comprs = cs }

module _ (t : List ℕ) where
  -- What these parts use, the modifiers' comprehensions with each.
  abbrev pub parts_use : Way → State → List Tree → List Tree → List ℕ
  parts_use way s cs es = concat_map (λ e. all_used (sheet_at t) way [] (later_mods cs) e s) es

  abbrev pub others_use : Way → State → List Tree → List Tree → List ℕ
  others_use way s cs es = parts_use way s cs (non_vars (sheet_at t) s.scope es)

-- Without comprehensions: the names of the expression and of the modifiers, and nothing else changes.
pub record WithoutComprs (u : Using) (x : Context) (r : Using) : Type 0 where
  pub progress : r.progress ≡ u.progress
  pub names : Union u.names.words x.names.words r.names.words
  pub comprs : r.comprs ≡ u.comprs

module _ (t : List ℕ) (v : Width) (k : Scope) where
  -- Of every expression that has these comprehensions, those of the modifiers with them.
  abbrev pub AllUsed : Names → List Tree → Context → List ℕ → Names → Type 0
  AllUsed names cs x work r =
      (e : Tree) (m : Mods) → Stands t x m → cs ≡ comprs e ++ m.comprs → (l : List ℕ) (nested : Nested) (parents : List spec.Scope) (s : State)
      → Sets k s.scope → Stored v (answers_of v work) s.run.schedules
      → Holds names (used_vars (sheet_at t) s.scope l e) → Holds r (all_used (sheet_at t) (once_way (sheet_at t) nested parents) l m e s)

  abbrev pub OtherUsed : ℕ → ℕ → List ℕ → Names → Names → Type 0
  OtherUsed row mods work a b =
      (nested : Nested) (parents : List spec.Scope) (s : State) → Sets k s.scope → Stored v (answers_of v work) s.run.schedules
      → Adds a (parts_use t (once_way (sheet_at t) nested parents) s (comprs (tree_at (sheet_at t) mods)) (other_at t row)) b

  -- A leaf of the pattern, where it is a part by itself.
  pub record PartUsed (row : ℕ) (w : Row) (mods : ℕ) (work : List ℕ) (a b : Names) : Type 0 where
    pub part : ℕ
    pub is : NonVar t k row w part
    pub used : OtherUsed part mods work a b

  abbrev pub LeavesUsed : ℕ → ℕ → List ℕ → Names → Names → Type 0
  LeavesUsed row mods work a b =
      (nested : Nested) (parents : List spec.Scope) (s : State) → Sets k s.scope → Stored v (answers_of v work) s.run.schedules
      → Adds a (others_use t (once_way (sheet_at t) nested parents) s (comprs (tree_at (sheet_at t) mods)) (leaves (tree_at (sheet_at t) row))) b

  abbrev pub OthersUsed : ℕ → ℕ → Context → List ℕ → Names → Type 0
  OthersUsed key value x work r =
      (m : Mods) → Stands t x m → (nested : Nested) (parents : List spec.Scope) (s : State)
      → Sets k s.scope → Stored v (answers_of v work) s.run.schedules → Holds r (others_use t (once_way (sheet_at t) nested parents) s m.comprs (leaves (tree_at (sheet_at t) key) ++ leaves (tree_at (sheet_at t) value)))
