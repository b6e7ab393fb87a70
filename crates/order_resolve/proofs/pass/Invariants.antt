-- The loops' invariants: `Passing` at the definitions; at the used names of one, those that are left decide whether all are seen.
use mathlib.Core.Path.{◌≡◌}
use lib.ListN.{length}
use Rattle.base.specs.Lists.{all}
use Rattle.base.specs.Sets.{member, members}
use Rattle.names_width.specs.Inner.Widths.{row_words}
use Rattle.order.specs.Call.{used_words_at}
use Rattle.names.proofs.Laws.Listing.{members_from}
use Rattle.order_resolve.proofs.Laws.Growing.{Growing}
use Rattle.order_resolve.proofs.Laws.Passing.{Passing}
use Rattle.order_resolve.proofs.pass.Given as goal

abbrev pub invariant-loop-name : goal.invariant-loop-name
invariant-loop-name l =
    let used = used_words_at (row_words l.rows.width) l.rows.words.now l.k in
    (l.waiting ≡ l.initial.waiting) × (l.name-iterator.rows ≡ l.rows) × (l.name-iterator.k ≡ l.k)
    × (all (member l.seen.words) (members_from used l.name-iterator.from) ≡ all (member l.seen.words) (members used))

abbrev pub invariant-definitions : goal.invariant-definitions
invariant-definitions l =
    (l.k-iterator.links.now ≡ l.fn.links) × (length l.seen.words ≡ 8)
    × Passing (row_words l.rows.width) l.rows.words.now l.statement l.initial.seen.words l.k-iterator.at l.seen.words l.waiting
    × Growing l.initial.seen.words l.seen.words l.grew
