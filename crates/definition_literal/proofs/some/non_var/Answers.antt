-- A Var is asked for its name, an Array and an Object are made of parts, the others are parts themselves.
use mathlib.Core.Path.{refl}
use mathlib.Core.List.{[], ◌∷◌}
use mathlib.Core.Logic.{inl, inr}
use Rattle.sheet.specs.declared.kinds.Kind.TheVariants as kind
use Rattle.scope_walk.proofs.Laws.Numbers.{constants, behind_patterns}
use Rattle.definition_walk.proofs.Laws.Index.{items_pattern}
use Rattle.definition_literal.proofs.Laws.SomeIn.{in_pattern, is-var, is_no_var, is-part}
use Rattle.definition_literal.proofs.some.non_var.Goals as goal

pub returns-then-is_name : goal.returns-then-is_name
returns-then-is_name c =
    is-var _ _ c.args.w _ c.in-Var.ensures _ c.is_name.ensures c.if-is_name.true

pub returns-else-is_name : goal.returns-else-is_name
returns-else-is_name c =
    is_no_var _ _ c.args.w _ c.in-Var.ensures _ c.is_name.ensures c.if-is_name.false

pub returns-in-String : goal.returns-in-String
returns-in-String c = is-part c.args.tables.now c.args.p.scope c.args.w _ _ c.from.ensures constants refl refl refl c.in-String.is

pub returns-in-Array : goal.returns-in-Array
returns-in-Array c = in_pattern c.args.tables.now c.args.p.scope c.args.w _ (items_pattern c.args.w c.from.ensures (inl c.in-Array.is))

pub returns-in-Set : goal.returns-in-Set
returns-in-Set c = is-part c.args.tables.now c.args.p.scope c.args.w _ _ c.from.ensures (kind.Set ∷ []) refl refl refl c.in-Set.is

pub returns-in-Object : goal.returns-in-Object
returns-in-Object c = in_pattern c.args.tables.now c.args.p.scope c.args.w _ (items_pattern c.args.w c.from.ensures (inr c.in-Object.is))

pub returns-in-ArrayCompr : goal.returns-in-ArrayCompr
returns-in-ArrayCompr c = is-part c.args.tables.now c.args.p.scope c.args.w _ _ c.from.ensures behind_patterns refl refl refl c.in-ArrayCompr.is
