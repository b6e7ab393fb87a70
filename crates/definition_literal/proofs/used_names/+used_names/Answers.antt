-- The walk goes on to later rows only, and what comes to the names on the way is what a row's turn brings.
use mathlib.Core.Path.{◌≡◌, refl, ◌∙◌}
use mathlib.Core.Bool.{true}
use mathlib.Core.List.{[], ◌∷◌}
use Prim.Native.Nat.{ℕ, ◌≤◌, ◌<◌}
use Rattle.names.specs.Inner.Names.{Names}
use Rattle.sheet.specs.Inner.Sheet.{row_at}
use Rattle.sheet.proofs.Laws.Sheet.{row-fields}
use Rattle.scope_walk.specs.Inner.Sheets.{Accepted, expr_count}
use Rattle.scope_walk.specs.Inner.Walking.{remains}
use Rattle.definition_walk.specs.Inner.UsedVars.{UsedStep}
use Rattle.scope_walk.proofs.Laws.Walking.{Falls, FieldCalls, row_low, low-name, second-low, field_calls}
use Rattle.scope_walk.proofs.Laws.Arms.{membership_no_compr, FullTurn, kids_walked, plain_full_arm, acting_full_arm}
use Rattle.scope_walk.proofs.Laws.Numbers.{constants, collections, compr_kinds, wrappers, operators}
use Rattle.sheet.specs.declared.kinds.Kind.TheVariants as kind
use Rattle.definition_literal.specs.Inner.Used.{NamesWalk}
use Rattle.definition_literal.proofs.Laws.Used.{names_walk_none, names_walk_turn, used_still, used_at-var, used_at-bracket}
use Rattle.definition_literal.proofs.used_names.+used_names.Goals.{After-row_at-w, Joined-from}
use Rattle.definition_literal.proofs.used_names.+used_names.Goals.{in-String, in-Var, in-Array, in-ArrayCompr, in-Call, in-UnaryExpr, in-RefBrack, in-BinExpr, in-Membership, in-Unknown}
use Rattle.definition_literal.proofs.used_names.+used_names.Goals as goal

pub returns-then-row-eq0 : goal.returns-then-row-eq0
returns-then-row-eq0 m c = names_walk_none _ _ _ c.requires.0 _ c.if-row-eq0.true c.args.rest _

pub row_at-w-requires : goal.row_at-w-requires
row_at-w-requires m c =
    let pre = c.requires in
    (pre.0.room, row_low _ pre.0 _ c.if-row-eq0.false pre.1)

-- The row that was read.
row_is : (m : ℕ) (c : After-row_at-w m)
    → c.row_at-w.result ≡ row_at c.args.tables.now c.args.row
row_is m c = c.row_at-w.ensures ∙ row-fields _ _

-- The calls on the fields of the row.
ready : (m : ℕ) (c : After-row_at-w m)
    → FieldCalls c.args.tables.now m c.args.rest c.row_at-w.result
ready m c =
    field_calls _ c.requires.0 _ c.if-row-eq0.false c.requires.1 m c.decreases _ _ (row_is m c)

asks : (m : ℕ) (c : After-row_at-w m) (v : ℕ)
    → let t = c.args.tables.now in Falls t m v → (remains t v < m) × (Accepted t × (v ≤ expr_count t))
asks m c v k = (k.0, (c.requires.0, k.1))

pub used_var-s-requires : goal.used_var-s-requires
used_var-s-requires m c =
    let pre = c.requires in
    (pre.0.room, rw (row_is m (goal.at.used_var-s-requires m c).After-row_at-w) (low-name _ pre.0 _ c.if-row-eq0.false pre.1))

pub assigned_vars-own-requires : goal.assigned_vars-own-requires
assigned_vars-own-requires m c =
    let pre = c.requires in
    (pre.0, second-low _ pre.0 _ c.if-row-eq0.false pre.1 _ (row_is m (goal.at.assigned_vars-own-requires m c).After-row_at-w))

-- The match: each arm walks the children of its kind.
turn : (m : ℕ) (c : Joined-from m)
    →
    let a = c.args in
    FullTurn (UsedStep a.tables.now a.scope a.extras c.row_at-w.result) (λ n. NamesWalk a.tables.now a.scope a.extras n true) c.row_at-w.result a.names c.match-from.s
turn m c =
    let w = c.row_at-w.result in
    let g = c.args in
    let t = g.tables.now in
    let k = g.scope in
    let e = g.extras in
    let a = g.names in
    let still = used_still t k e w a c.from.result c.from.ensures in
    elim c.match-from.branch [
      | in-String x ↦ plain_full_arm still constants x.in-String.is refl x.s-is
      | in-Var x ↦ acting_full_arm still (kind.Var ∷ []) x.in-Var.is refl _ (used_at-var t k e w a x.in-Var.ensures _ x.used_var-s.ensures) x.s-is
      | in-Array x ↦ plain_full_arm still collections x.in-Array.is refl (_, x.used_names-s.ensures, x.s-is)
      | in-ArrayCompr x ↦ plain_full_arm still compr_kinds x.in-ArrayCompr.is refl x.s-is
      | in-Call x ↦ plain_full_arm still (kind.Call ∷ []) x.in-Call.is refl (_, x.used_names-s-in-Call.ensures, x.s-is)
      | in-UnaryExpr x ↦ plain_full_arm still wrappers x.in-UnaryExpr.is refl (_, x.used_names-s-in-UnaryExpr.ensures, x.s-is)
      | in-RefBrack x ↦
          acting_full_arm still (kind.RefBrack ∷ []) x.in-RefBrack.is refl _ (used_at-bracket t k e w a x.in-RefBrack.ensures _ x.assigned_vars-own.ensures)
          (_, x.used_names-u.ensures, (_, x.used_names-s-in-RefBrack.ensures, x.s-is))
      | in-BinExpr x ↦ plain_full_arm still operators x.in-BinExpr.is refl (_, x.used_names-u-in-BinExpr.ensures, (_, x.used_names-s-in-BinExpr.ensures, x.s-is))
      | in-Membership x ↦
          plain_full_arm still (kind.Membership ∷ []) x.in-Membership.is refl
          (_, x.used_names-u-in-Membership.ensures, (_, x.used_names-v.ensures, (_, x.used_names-s-in-Membership.ensures, x.s-is)))
      | in-Unknown x ↦ plain_full_arm still (kind.Unknown ∷ []) x.in-Unknown.is refl x.s-is
    ]

-- With the walk over the rest of its chain.
row_is-at-Joined-from : (m : ℕ) (c : Joined-from m)
    → c.row_at-w.result ≡ row_at c.args.tables.now c.args.row
row_is-at-Joined-from m c = c.row_at-w.ensures ∙ row-fields _ _

turned : (m : ℕ) (c : Joined-from m) (s : Names)
    →
    let a = c.args in
    NamesWalk a.tables.now a.scope a.extras c.next_of-next.result true c.match-from.s s
    → NamesWalk a.tables.now a.scope a.extras a.row a.rest a.names s
turned m c s rest =
    let a = c.args in
    let h = turn m c in
    let p = kids_walked (λ v. NamesWalk a.tables.now a.scope a.extras v true) (names_walk_none _ _ _ c.requires.0 _ refl true) c.row_at-w.result _ _ h.parts in
    names_walk_turn _ _ _ c.requires.0 _ c.if-row-eq0.false c.requires.1 a.rest _ (row_is-at-Joined-from m c) _ refl _ c.next_of-next.ensures
    _ _ _ _ _ _ h.step p.first p.second p.third rest

pub returns-then-next-eq0 : goal.returns-then-next-eq0
returns-then-next-eq0 m c =
    turned m (goal.at.returns-then-next-eq0 m c).Joined-from _ (names_walk_none _ _ _ c.requires.0 _ c.if-next-eq0.true true _)

pub used_names-requires : goal.used_names-requires
used_names-requires m c =
    asks m (goal.at.used_names-requires m c).After-row_at-w _ (rw c.next_of-next.ensures (ready m (goal.at.used_names-requires m c).After-row_at-w).next)

pub returns : goal.returns
returns m c = turned m (goal.at.returns m c).Joined-from _ c.used_names.ensures

pub used_names-s-requires : goal.used_names-s-requires
used_names-s-requires m c = let here = (goal.at.used_names-s-requires m c).After-row_at-w in asks m here _ ((ready m here).first)

pub used_names-s-requires-in-Call : goal.used_names-s-requires-in-Call
used_names-s-requires-in-Call m c = let here = (goal.at.used_names-s-requires-in-Call m c).After-row_at-w in asks m here _ ((ready m here).second)

pub used_names-s-requires-in-UnaryExpr : goal.used_names-s-requires-in-UnaryExpr
used_names-s-requires-in-UnaryExpr m c = let here = (goal.at.used_names-s-requires-in-UnaryExpr m c).After-row_at-w in asks m here _ ((ready m here).first)

pub used_names-u-requires : goal.used_names-u-requires
used_names-u-requires m c = let here = (goal.at.used_names-u-requires m c).After-row_at-w in asks m here _ ((ready m here).first)

pub used_names-s-requires-in-RefBrack : goal.used_names-s-requires-in-RefBrack
used_names-s-requires-in-RefBrack m c = let here = (goal.at.used_names-s-requires-in-RefBrack m c).After-row_at-w in asks m here _ ((ready m here).second)

pub used_names-u-requires-in-BinExpr : goal.used_names-u-requires-in-BinExpr
used_names-u-requires-in-BinExpr m c = let here = (goal.at.used_names-u-requires-in-BinExpr m c).After-row_at-w in asks m here _ ((ready m here).first)

pub used_names-s-requires-in-BinExpr : goal.used_names-s-requires-in-BinExpr
used_names-s-requires-in-BinExpr m c = let here = (goal.at.used_names-s-requires-in-BinExpr m c).After-row_at-w in asks m here _ ((ready m here).second)

pub used_names-u-requires-in-Membership : goal.used_names-u-requires-in-Membership
used_names-u-requires-in-Membership m c = let here = (goal.at.used_names-u-requires-in-Membership m c).After-row_at-w in asks m here _ ((ready m here).first)

pub used_names-v-requires : goal.used_names-v-requires
used_names-v-requires m c = let here = (goal.at.used_names-v-requires m c).After-row_at-w in asks m here _ ((ready m here).second)

pub used_names-s-requires-in-Membership : goal.used_names-s-requires-in-Membership
used_names-s-requires-in-Membership m c = let here = (goal.at.used_names-s-requires-in-Membership m c).After-row_at-w in asks m here _ ((ready m here).third (membership_no_compr c.row_at-w.result c.in-Membership.ensures))
