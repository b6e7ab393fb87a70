use mathlib.Core.Path.{◌≡◌, refl, sym, ap, ◌∙◌}
use mathlib.Core.Bool.{Bool, true, ◌&&◌}
use mathlib.Core.List.{List, ◌∷◌}
use Prim.Native.Nat.{ℕ, ◌<◌}
use native.Mathlib.Omega.{arith}
use lib.ListN.{get_or}
use borrow.Author.Rules.{rules}
use Rattle.base.specs.Lists.{all}
use Rattle.base.specs.Sets.{member, members}
use Rattle.names.specs.Inner.Sets.{Inserted}
use Rattle.names.proofs.Laws.Listing.{members_from, from_start, left-some, left-none}
use Rattle.names_width.specs.Inner.Widths.{row_words}
use Rattle.names_width.proofs.Laws.Laws.{at_most}
use Rattle.order.specs.Call.{used_words_at}
use Rattle.order_rows.proofs.Laws.RowLaws.{used-whole}
use Rattle.order_rows.specs.declared.links.Links.{Links}
use Rattle.order_resolve.proofs.Laws.Growing.{growing_first, growing_adds, growing_end, inserted_there}
use Rattle.order_resolve.proofs.Laws.Passing.{Passing, passing_first, passing_end, passing_waits, passing_adds}
use Rattle.order_resolve.proofs.pass.Goals.{In-Some, In-Some-name, After-name-own}
use Rattle.order_resolve.proofs.pass.Goals as goal

pub definitions-init : goal.definitions-init
definitions-init c =
    let first : c.into_iter-k-iterator.result.at ≡ get_or c.args.links.now.first c.args.statement 0 = search rules in (
      search rules,
      search rules,
      rw first (passing_first _ _ _ _ c.requires.linked.1 c.args.statement c.args.seen.now.words c.requires.linked.0),
      growing_first _,
    )

-- The row at hand, and the cell that it leads to.
module _ (c : In-Some) where
  abbrev used : List ℕ
  used = used_words_at (row_words c.args.rows.width) c.args.rows.words.now c.in-Some.k

  leads : c.next.new.self.at ≡ get_or c.args.links.now.next c.in-Some.k 0
  leads = c.in-Some.ensures.steps.1.1 ∙ ap (λ (l : Links). get_or l.next c.in-Some.k 0) c.definitions.invariant.0

  linked-still : c.next.new.self.links.now ≡ c.args.links.now
  linked-still = rw c.in-Some.ensures.steps.0 c.definitions.invariant.0

pub loop-name-init : goal.loop-name-init
loop-name-init c =
    let start : c.into_iter-name-iterator.result.from ≡ 0 = search rules in
    (refl, search rules, search rules, rw start (ap (all (member c.definitions.seen.words)) (from_start _)))

-- The name at hand is the next of those used.
named : (c : In-Some-name) → (c.in-Some-name.name < 512)
    × (members_from (used (goal.at.In-Some-name c).In-Some) c.loop-name.name-iterator.from
    ≡ c.in-Some-name.name ∷ members_from (used (goal.at.In-Some-name c).In-Some) c.next-in-loop-name.new.self.from)
named c =
    let inv = c.loop-name.invariant in
    let step = rw (inv.1, inv.2) at c.in-Some-name.ensures.steps in
    let v = c.args.rows.width in
    let whole = used-whole v c.args.rows.words.now c.in-Some.k in
    (omega (arith, step.2.0.high, at_most v), rw step.2.1 (left-some _ _ whole step.2.0))

pub has-requires : goal.has-requires
has-requires c = (search rules, (c.definitions.invariant.1, (named (goal.at.has-requires c).In-Some-name).0))

pub definitions-preserved-then-not-has : goal.definitions-preserved-then-not-has
definitions-preserved-then-not-has c =
    let inv = c.definitions.invariant in
    let row = (goal.at.definitions-preserved-then-not-has c).In-Some in
    let seen = member c.definitions.seen.words in
    let fails = sym c.has.ensures ∙ c.if-not-has.true in
    let all-fails = sym c.loop-name.invariant.3 ∙ ap (all seen) (named (goal.at.definitions-preserved-then-not-has c).In-Some-name).1
    ∙ ap (λ (b : Bool). b && all seen (members_from (used row) c.next-in-loop-name.new.self.from)) fails in (
      linked-still row,
      inv.1,
      rw (leads row) (passing_waits _ _ _ _ c.requires.linked.1 _ _ inv.2 c.in-Some.k c.in-Some.ensures.steps.1.0 all-fails),
      inv.3,
    )

pub loop-name-preserved : goal.loop-name-preserved
loop-name-preserved c =
    let inv = c.loop-name.invariant in
    let steps = c.in-Some-name.ensures.steps in
    let row = (goal.at.loop-name-preserved c).In-Some in
    let seen = member c.definitions.seen.words in
    let holds = sym c.has.ensures ∙ c.if-not-has.false in (
      inv.0,
      steps.0 ∙ inv.1,
      steps.1 ∙ inv.2,
      sym (ap (all seen) (named (goal.at.loop-name-preserved c).In-Some-name).1
          ∙ ap (λ (b : Bool). b && all seen (members_from (used row) c.next-in-loop-name.new.self.from)) holds) ∙ inv.3,
    )

-- The name that the row defines is low, and all that it uses are seen.
module _ (c : After-name-own) where
  abbrev row : In-Some
  row = (goal.at.After-name-own c).In-Some

  holds : all (member c.definitions.seen.words) (members (used row)) ≡ true
  holds =
      let inv = c.loop-name.invariant in
      let step = rw (inv.1, inv.2) at c.in-None-name.ensures.steps in
      let whole = used-whole c.args.rows.width c.args.rows.words.now c.in-Some.k in
      sym inv.3 ∙ ap (all (member c.definitions.seen.words)) (left-none _ _ whole step.2)

  low : c.name-own.result < 512
  low = rw c.name-own.ensures (c.requires.names_low c.in-Some.k (omega (arith, c.definitions.invariant.2.high, c.in-Some.ensures.steps.1.0)))

  resolves : (more : List ℕ) → Inserted c.definitions.seen.words c.name-own.result more
      → Passing (row_words c.args.rows.width) c.args.rows.words.now c.args.statement c.args.seen.now.words c.next.new.self.at more c.loop-name.waiting
  resolves more i =
      rw (leads row, c.loop-name.invariant.0)
      (passing_adds _ _ _ _ c.requires.linked.1 _ _ c.definitions.invariant.2 c.in-Some.k c.in-Some.ensures.steps.1.0 holds (rw c.name-own.ensures at i))

pub has-requires-in-definitions : goal.has-requires-in-definitions
has-requires-in-definitions c = (search rules, (c.definitions.invariant.1, low (goal.at.has-requires-in-definitions c).After-name-own))

pub add-requires : goal.add-requires
add-requires c = (search rules, (c.definitions.invariant.1, low (goal.at.add-requires c).After-name-own))

pub definitions-preserved-then-not-has-2 : goal.definitions-preserved-then-not-has-2
definitions-preserved-then-not-has-2 c =
    let fresh = sym c.has-in-definitions.ensures ∙ c.if-not-has-2.true in (
      linked-still (goal.at.definitions-preserved-then-not-has-2 c).In-Some,
      c.add.array_long,
      resolves (goal.at.definitions-preserved-then-not-has-2 c).After-name-own _ c.add.ensures.1,
      growing_adds c.definitions.invariant.3 c.name-own.result fresh c.add.ensures.1,
    )

pub definitions-preserved : goal.definitions-preserved
definitions-preserved c =
    let there = sym c.has-in-definitions.ensures ∙ c.if-not-has-2.false in (
      linked-still (goal.at.definitions-preserved c).In-Some,
      c.definitions.invariant.1,
      resolves (goal.at.definitions-preserved c).After-name-own _ (inserted_there _ c.name-own.result there),
      c.definitions.invariant.3,
    )

pub returns-then-not-waiting : goal.returns-then-not-waiting
returns-then-not-waiting c =
    let inv = c.definitions.invariant in
    (inv.1, rw c.if-not-waiting.true at (passing_end _ _ _ _ c.requires.linked.1 _ _ inv.2 c.in-None.ensures.steps.1 (growing_end inv.3)))

pub returns-then-grew : goal.returns-then-grew
returns-then-grew c =
    let inv = c.definitions.invariant in
    (inv.1, rw (c.if-not-waiting.false, c.if-grew.true) at (passing_end _ _ _ _ c.requires.linked.1 _ _ inv.2 c.in-None.ensures.steps.1 (growing_end inv.3)))

pub returns-else-grew : goal.returns-else-grew
returns-else-grew c =
    let inv = c.definitions.invariant in
    (inv.1, rw (c.if-not-waiting.false, c.if-grew.false) at (passing_end _ _ _ _ c.requires.linked.1 _ _ inv.2 c.in-None.ensures.steps.1 (growing_end inv.3)))
