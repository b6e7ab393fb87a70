-- The walk over an expression: what each row does by itself, and the definitions that brackets append.
use Rattle.std.specs.Prelude.{◌≡◌, Bool, false, cond, List, [], map, ℕ, ◌+◌, ◌/◌, ◌≤◌, length}
use Rattle.base.specs.Lists.{elem}
use Rattle.base.specs.Sets.{member}
use Rattle.names.specs.Inner.Sets.{Empty}
use Rattle.names.specs.Inner.Names.{Names}
use Rattle.names_width.specs.declared.Width.{Width}
use Rattle.names_width.specs.Inner.Widths as Widths
use Rattle.sheet.specs.declared.Row.{Row}
use Rattle.sheet.specs.Kinds.{is_ref_brack, is_compr}
use Rattle.scope.specs.Trees.{tree_at}
use Rattle.scope.specs.Traverse.{comprs}
use Rattle.scope.specs.Scopes as spec
use Rattle.definition.specs.Uses.{define, reads_input, assigned_vars, used_vars, index_definitions}
use Rattle.scope_state.specs.declared.Scope.{Scope}
use Rattle.scope_walk.specs.Inner.Sheets.{sheet_at}
use Rattle.scope_state.specs.Inner.Agrees.{Sets}
use Rattle.scope_walk.specs.Inner.Exprs.{expr_by}
use Rattle.definition_walk.specs.declared.found.Used.{Used}
use Rattle.definition_walk.specs.Inner.Own.{Holds}
use Rattle.definition_walk.specs.Inner.Undefined.{UndefinedWalk, Undefined}
use Rattle.definition_walk.specs.Inner.Met.{MetWalk, reads}
use Rattle.definition_walk.specs.Inner.Firsts.{FirstWalk}
use Rattle.definition_walk.specs.Inner.Founds.{with_names}
use Rattle.definition_walk.specs.Inner.Adds.{Adds}
use Rattle.definition_walk.specs.Inner.Appended.{Appended}

-- The index of a bracket, or none.
abbrev pub index_row : Row → ℕ
index_row w = cond (is_ref_brack w) w.second 0

-- No name so far; the rest stays.
pub record FreshNames (a b : Used) : Type 0 where
  pub clear : Empty b.names.words
  pub is : b ≡ with_names a b.names

module _ (t : List ℕ) (v : Width) (k : Scope) (i : ℕ) where
  -- What is done at a row that did `own` by itself and whose first part used the names in `part`.
  pub record Here (w : Row) (own part : Used) (ws rs : List ℕ) (b : Used) : Type 0 where
    pub count : (s : spec.Scope) → Sets k s → b.count ≡ part.count + length (assigned_vars s (tree_at (sheet_at t) (index_row w)))
    pub names : (p : List ℕ) → Holds part.names p → Adds own.names p b.names
    pub rows : (s : spec.Scope) → Sets k s → (p : List ℕ) → Holds part.names p
        → Appended v ws rs part.count b.count (map (λ (x : ℕ). define i x p) (assigned_vars s (tree_at (sheet_at t) (index_row w))))
    pub undefined : b.undefined ≡ part.undefined
    pub reads : b.reads ≡ part.reads
    pub comprs : b.comprs ≡ part.comprs

module _ (t : List ℕ) (v : Width) (k : Scope) (extras : Names) (i : ℕ) where
  -- There is room for the definitions, for a scope and a list of names that the code's stand for.
  pub record RoomFor (row : ℕ) (rest : Bool) (count size : ℕ) : Type 0 where
    pub scope : spec.Scope
    pub sets : Sets k scope
    pub list : List ℕ
    pub holds : Holds extras list
    pub low : count + length (index_definitions (sheet_at t) scope list i (expr_by t rest row)) ≤ size / Widths.row_words v

  -- What the walk did, for every scope and every list of names that the code's stand for.
  pub record UsesWalked (row : ℕ) (rest : Bool) (a : Used) (firsts ws : List ℕ) (b : Used) (firsts' rs : List ℕ) : Type 0 where
    pub count : (s : spec.Scope) → Sets k s → (l : List ℕ) → Holds extras l
        → b.count ≡ a.count + length (index_definitions (sheet_at t) s l i (expr_by t rest row))
    pub names : (s : spec.Scope) → Sets k s → (l : List ℕ) → Holds extras l
        → Adds a.names (used_vars (sheet_at t) s l (expr_by t rest row)) b.names
    pub rows : (s : spec.Scope) → Sets k s → (l : List ℕ) → Holds extras l
        → Appended v ws rs a.count b.count (index_definitions (sheet_at t) s l i (expr_by t rest row))
    pub first : FirstWalk t k extras row rest firsts firsts'
    pub undefined : UndefinedWalk t k row rest a.undefined b.undefined
    pub reads : MetWalk t (reads t) row rest a.reads b.reads
    pub comprs : MetWalk t is_compr row rest a.comprs b.comprs

  -- ---- from nothing on

  -- The names used, as a set, the definitions, appended from row `count` on, the first uses, the first undefined variable, and whether
  -- `input` is read; and whether there is a comprehension.
  pub record GatheredUses (row : ℕ) (rest : Bool) (count : ℕ) (firsts ws : List ℕ) (r : Used) (firsts' rs : List ℕ) : Type 0 where
    pub total : (s : spec.Scope) → Sets k s → (l : List ℕ) → Holds extras l
        → r.count ≡ count + length (index_definitions (sheet_at t) s l i (expr_by t rest row))
    pub names : (s : spec.Scope) → Sets k s → (l : List ℕ) → Holds extras l
        → (x : ℕ) → member r.names.words x ≡ elem x (used_vars (sheet_at t) s l (expr_by t rest row))
    pub rows : (s : spec.Scope) → Sets k s → (l : List ℕ) → Holds extras l
        → Appended v ws rs count r.count (index_definitions (sheet_at t) s l i (expr_by t rest row))
    pub first : FirstWalk t k extras row rest firsts firsts'
    pub undefined : Undefined t k row rest r.undefined
    pub reads : r.reads ≡ reads_input (sheet_at t) (expr_by t rest row)
    pub comprs : r.comprs ≡ false → comprs (expr_by t rest row) ≡ []
