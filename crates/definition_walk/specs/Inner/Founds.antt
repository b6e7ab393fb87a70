-- What a row of an expression does by itself to what a walk has found.
use Rattle.std.specs.Prelude.{◌≡◌, Bool, true, false, ◌||◌, List, ℕ, Some}
use Rattle.std.specs.Option.{option_or}
use Rattle.base.specs.Sets.{member}
use Rattle.names.specs.Inner.Sets.{Inserted}
use Rattle.names.specs.Inner.Names.{Names}
use Rattle.sheet.specs.declared.Row.{Row}
use Rattle.sheet.specs.Kinds.{is_compr}
use Rattle.scope_state.specs.declared.Scope.{Scope}
use Rattle.definition_walk.specs.declared.found.Used.{Used}
use Rattle.definition_walk.specs.Inner.Assigned.{AssignedWalk}
use Rattle.definition_walk.specs.Inner.Undefined.{UndefinedStep}
use Rattle.definition_walk.specs.Inner.Met.{MetStep, reads}
use Rattle.definition_walk.specs.Inner.Firsts.{FirstUse, FirstStep}
use Rattle.definition_walk.specs.Inner.UsedVars.{UsedStep}

-- ---- what is found, with one thing more

abbrev pub with_names : Used → Names → Used
with_names u n = record { names = n; count = u.count; undefined = u.undefined; reads = u.reads; comprs = u.comprs }

abbrev pub input_read : Used → Bool → Used
input_read u b = record { names = u.names; count = u.count; undefined = u.undefined; reads = u.reads || b; comprs = u.comprs }

abbrev pub compr_met : Used → Used
compr_met u = record { names = u.names; count = u.count; undefined = u.undefined; reads = u.reads; comprs = true }

abbrev pub found_undefined : Used → ℕ → Used
found_undefined u row = record { names = u.names; count = u.count; undefined = option_or u.undefined (Some row); reads = u.reads; comprs = u.comprs }

-- ---- a variable of the query

-- It is used, unless the extra argument binds it.
pub record OwnUsed (extras : Names) (w : Row) (a : Used) (ws : List ℕ) (b : Used) (rs : List ℕ) : Type 0 where
  pub names : Names
  pub is : b ≡ with_names a names
  pub bound : member extras.words w.name ≡ true → (names ≡ a.names) × (rs ≡ ws)
  pub free : member extras.words w.name ≡ false → Inserted a.names.words w.name names.words × FirstUse w ws rs

-- ---- a bracket

-- The names in its index are used.
pub record IndexUsed (t : List ℕ) (k : Scope) (w : Row) (a b : Used) : Type 0 where
  pub names : Names
  pub walked : AssignedWalk t k w.second true a.names names
  pub is : b ≡ with_names a names

-- ---- any row

module _ (t : List ℕ) (k : Scope) (extras : Names) (row : ℕ) (w : Row) (a : Used) (ws : List ℕ) where
  pub record RowUsed (b : Used) (rs : List ℕ) : Type 0 where
    pub count : b.count ≡ a.count
    pub names : UsedStep t k extras w a.names b.names
    pub first : FirstStep t k extras w ws rs
    pub undefined : UndefinedStep t k row w a.undefined b.undefined
    pub reads : MetStep t (reads t) w a.reads b.reads
    pub comprs : MetStep t is_compr w a.comprs b.comprs
