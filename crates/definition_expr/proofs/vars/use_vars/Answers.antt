-- A fault before it, a fault in it, or none. The definitions are appended to what lies in front of the table.
use mathlib.Core.Path.{◌≡◌, refl, sym, ◌∙◌, subst}
use mathlib.Core.Bool.{true}
use Prim.Native.Nat.{ℕ, ◌+◌, ◌-◌}
use native.Mathlib.Omega.{arith}
use lib.ListN.{length}
use Rattle.std.specs.Prelude.{Option}
use Rattle.definition_walk.specs.Inner.Undefined.{Undefined}
use Rattle.answer_blocks.specs.Inner.Layout.{answers_size}
use Rattle.definition_state.specs.Inner.Faults.{is_sound}
use Rattle.definition_expr.proofs.Laws.ComprRows.{comprs_if}
use Rattle.definition_expr.proofs.Laws.Defined.{defined-room, rows_stay, uses-all}
use Rattle.definition_expr.proofs.Laws.UsesVars.{undefined-low, uses-undefined, uses-defined}
use Rattle.definition_expr.proofs.vars.use_vars.Goals.{After-answers_of, After-used_vars-used}
use Rattle.definition_expr.proofs.vars.use_vars.Goals as goal

-- How many words lie in front of the table.
front : After-answers_of → ℕ
front k = length k.args.work.now - k.answers_of.result

front-last : (k : After-answers_of)
    → (let a = k.args in front k + answers_size a.p.width ≡ length a.work.now)
unfolding front
front-last k = omega (arith, k.answers_of.ensures, k.requires.0.ready.room.enough)

fine : (k : After-answers_of) → is_sound k.args.p.fault ≡ true
fine k = sym k.is_sound.ensures ∙ k.if-not-is_sound.false

pub used_vars-used-requires : goal.used_vars-used-requires
unfolding front
used_vars-used-requires c =
    let a = c.args in
    let pre = c.requires in
    let k = (goal.at.used_vars-used-requires c).After-answers_of in
    record {
      accepted = pre.0.accepted;
      row_in = pre.0.row_in;
      firsts_room = pre.0.firsts_room;
      room = defined-room a.tables.now a.extras a.statement a.row a.rest a.p a.firsts.now a.work.now pre.0.ready (fine k) pre.1 (front k) (front-last k) _ refl;
    }

-- The walk says so of what it found.
undefined_is : (k : After-used_vars-used) {r : Option ℕ} → k.used_vars-used.result.undefined ≡ r
    → Undefined k.args.tables.now k.args.p.scope k.args.row k.args.rest r
undefined_is k is = subst (Undefined k.args.tables.now k.args.p.scope k.args.row k.args.rest) is k.used_vars-used.ensures.undefined

pub returns-in-None : goal.returns-in-None
unfolding front
returns-in-None c =
    let a = c.args in
    let pre = c.requires in
    let p = goal.at.returns-in-None c in
    let k = p.After-answers_of in
    uses-defined a.tables.now a.extras a.statement a.row a.rest a.p a.firsts.now a.work.now (fine k) (undefined_is p.After-used_vars-used c.in-None.is) _ _ _
    (uses-all a.tables.now a.extras a.statement a.row a.rest a.p a.firsts.now a.work.now pre.0.ready (fine k) pre.1 (front k) (front-last k)
    _ _ c.used_vars-used.auto.definitions _ c.used_vars-used.ensures _ c.use_defined.ensures)
    (comprs_if a.tables.now pre.0.accepted _ a.rest a.row _ c.use_defined.ensures.comprs c.used_vars-used.ensures.comprs)

pub fail_undefined-requires : goal.fail_undefined-requires
fail_undefined-requires c =
    let a = c.args in
    let p = goal.at.fail_undefined-requires c in (
      c.requires.0.accepted.room,
      undefined-low a.tables.now a.extras a.statement a.row a.rest a.p a.firsts.now a.work.now (fine p.After-answers_of) _ (undefined_is p.After-used_vars-used c.in-Some.is)
          _ c.requires.0.ready c.requires.0.accepted,
    )

pub returns-in-Some : goal.returns-in-Some
unfolding front
returns-in-Some c =
    let a = c.args in
    let pre = c.requires in
    let p = goal.at.returns-in-Some c in
    let k = p.After-answers_of in
    uses-undefined a.tables.now a.extras a.statement a.row a.rest a.p a.firsts.now a.work.now (fine k) _ (undefined_is p.After-used_vars-used c.in-Some.is) _ _
    (rows_stay a.tables.now a.extras a.statement a.row a.rest a.p a.firsts.now a.work.now pre.0.ready (fine k) pre.1 (front k) (front-last k)
    _ _ c.used_vars-used.auto.definitions _ c.used_vars-used.ensures) _ c.fail_undefined.ensures _
