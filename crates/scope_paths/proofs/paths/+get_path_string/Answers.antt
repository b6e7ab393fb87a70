-- What has a field or is indexed is a later row, and a row adds to its path; any other kind but a Var has none.
use mathlib.Core.Path.{◌≡◌, refl, ◌∙◌}
use mathlib.Core.List.{[], ◌∷◌}
use Prim.Native.Nat.{ℕ, ◌≤◌, ◌<◌}
use Rattle.sheet.specs.declared.kinds.Kind.TheVariants as kind
use Rattle.sheet.specs.Inner.Sheet.{row_at}
use Rattle.sheet.proofs.Laws.Sheet.{row-fields}
use Rattle.scope_walk.specs.Inner.Sheets.{Accepted, expr_count}
use Rattle.scope_walk.specs.Inner.Walking.{remains}
use Rattle.scope_walk.proofs.Laws.Numbers.{constants, collections, compr_kinds, operators}
use Rattle.scope_walk.proofs.Laws.Walking.{first_call, second-low}
use Rattle.scope_paths.proofs.Laws.Paths.{no_path, path_var, path_others, dot_none, path_dot, brack_none, path_brack}
use Rattle.scope_paths.proofs.paths.+get_path_string.Goals.{After-row_at-w}
use Rattle.scope_paths.proofs.paths.+get_path_string.Goals as goal

pub returns-then-row-eq0 : goal.returns-then-row-eq0
returns-then-row-eq0 m c =
    no_path c.args.tables.now c.requires.0 c.args.row c.if-row-eq0.true

-- The row that was read.
row_is : (m : ℕ) (c : After-row_at-w m)
    → c.row_at-w.result ≡ row_at c.args.tables.now c.args.row
row_is m c = c.row_at-w.ensures ∙ row-fields _ _

refr-asks : (m : ℕ) (r : After-row_at-w m)
    → let a = r.args in
    (remains a.tables.now r.row_at-w.result.first < m) × (Accepted a.tables.now × (r.row_at-w.result.first ≤ expr_count a.tables.now))
refr-asks m r =
    let pre = r.requires in
    let k = first_call _ pre.0 _ r.if-row-eq0.false pre.1 m r.decreases _ (row_is m r) in
    (k.0, (pre.0, k.1))

pub get_path_string-requires : goal.get_path_string-requires
get_path_string-requires m c = refr-asks m (goal.at.get_path_string-requires m c).After-row_at-w

pub get_path_string-requires-in-RefBrack : goal.get_path_string-requires-in-RefBrack
get_path_string-requires-in-RefBrack m c = refr-asks m (goal.at.get_path_string-requires-in-RefBrack m c).After-row_at-w

pub index_step-requires : goal.index_step-requires
index_step-requires m c =
    let pre = c.requires in
    (pre.0, second-low _ pre.0 _ c.if-row-eq0.false pre.1 _ (row_is m (goal.at.index_step-requires m c).After-row_at-w))

pub returns-in-Var : goal.returns-in-Var
returns-in-Var m c =
    path_var _ c.requires.0 _ c.if-row-eq0.false c.requires.1 c.row_at-w.result (row_is m (goal.at.returns-in-Var m c).After-row_at-w) c.in-Var.ensures

pub returns-in_err-path-in-RefDot : goal.returns-in_err-path-in-RefDot
returns-in_err-path-in-RefDot m c =
    c.from_residual.ensures ∙ dot_none _ c.requires.0 _ c.if-row-eq0.false c.requires.1 c.row_at-w.result (row_is m (goal.at.returns-in_err-path-in-RefDot m c).After-row_at-w) c.in-RefDot.ensures c.in_err-path-in-RefDot.ensures

pub returns-in_ok-path-in-RefDot : goal.returns-in_ok-path-in-RefDot
returns-in_ok-path-in-RefDot m c =
    path_dot _ c.requires.0 _ c.if-row-eq0.false c.requires.1 c.row_at-w.result (row_is m (goal.at.returns-in_ok-path-in-RefDot m c).After-row_at-w) c.in-RefDot.ensures _ _ c.in_ok-path-in-RefDot.ensures c.append.ensures

pub returns-in_err-path-in-RefBrack : goal.returns-in_err-path-in-RefBrack
returns-in_err-path-in-RefBrack m c =
    c.from_residual-in_err-path-in-RefBrack.ensures ∙ brack_none _ c.requires.0 _ c.if-row-eq0.false c.requires.1 c.row_at-w.result (row_is m (goal.at.returns-in_err-path-in-RefBrack m c).After-row_at-w) c.in-RefBrack.ensures c.in_err-path-in-RefBrack.ensures

pub returns-in_ok-path-in-RefBrack : goal.returns-in_ok-path-in-RefBrack
returns-in_ok-path-in-RefBrack m c =
    path_brack _ c.requires.0 _ c.if-row-eq0.false c.requires.1 c.row_at-w.result (row_is m (goal.at.returns-in_ok-path-in-RefBrack m c).After-row_at-w) c.in-RefBrack.ensures _ _ c.in_ok-path-in-RefBrack.ensures c.index_step.ensures

pub returns-in-String : goal.returns-in-String
returns-in-String m c =
    path_others _ c.requires.0 _ c.if-row-eq0.false c.requires.1 c.row_at-w.result (row_is m (goal.at.returns-in-String m c).After-row_at-w) _ c.from.ensures constants refl refl refl c.in-String.is

pub returns-in-Array : goal.returns-in-Array
returns-in-Array m c =
    path_others _ c.requires.0 _ c.if-row-eq0.false c.requires.1 c.row_at-w.result (row_is m (goal.at.returns-in-Array m c).After-row_at-w) _ c.from.ensures collections refl refl refl c.in-Array.is

pub returns-in-ArrayCompr : goal.returns-in-ArrayCompr
returns-in-ArrayCompr m c =
    path_others _ c.requires.0 _ c.if-row-eq0.false c.requires.1 c.row_at-w.result (row_is m (goal.at.returns-in-ArrayCompr m c).After-row_at-w) _ c.from.ensures compr_kinds refl refl refl c.in-ArrayCompr.is

pub returns-in-Call : goal.returns-in-Call
returns-in-Call m c =
    path_others _ c.requires.0 _ c.if-row-eq0.false c.requires.1 c.row_at-w.result (row_is m (goal.at.returns-in-Call m c).After-row_at-w) _ c.from.ensures (kind.Call ∷ kind.UnaryExpr ∷ []) refl refl refl c.in-Call.is

pub returns-in-BinExpr : goal.returns-in-BinExpr
returns-in-BinExpr m c =
    path_others _ c.requires.0 _ c.if-row-eq0.false c.requires.1 c.row_at-w.result (row_is m (goal.at.returns-in-BinExpr m c).After-row_at-w) _ c.from.ensures operators refl refl refl c.in-BinExpr.is

pub returns-in-Membership : goal.returns-in-Membership
returns-in-Membership m c =
    path_others _ c.requires.0 _ c.if-row-eq0.false c.requires.1 c.row_at-w.result (row_is m (goal.at.returns-in-Membership m c).After-row_at-w) _ c.from.ensures (kind.Membership ∷ []) refl refl refl c.in-Membership.is
