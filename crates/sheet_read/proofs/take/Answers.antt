-- The tables are zeros when they are lent, and the way out tells which of the laws it is.
use mathlib.Core.Path.{◌≡◌, sym, ap, ◌∙◌}
use mathlib.Core.Bool.{true, ◌&&◌}
use mathlib.Core.List.{List, ◌++◌}
use Prim.Native.Nat.{ℕ, ◌≤◌}
use native.Mathlib.Omega.{arith}
use lib.Dec.{leb}
use borrow.Author.Tests.{leb-true}
use Rattle.base.proofs.Laws.Truth.{and_left, and_right}
use Rattle.names_width.specs.Inner.Widths.{work}
use Rattle.names_width.proofs.Laws.Laws.{enough-work}
use Rattle.sheet_read.proofs.Laws.Leaving.{lent-blank, rest-zeros, no_room_lem, room-taken}
use Rattle.names_width.specs.declared.Width.{Width}
use Rattle.sheet_read.proofs.take.Goals as goal

-- What `has_room` answers of the lengths at entry: there is room for both.
module _ (room long : ℕ) (w : Width) (enough : (leb 8192 room && leb (work w) long) ≡ true) where
  tables-room : 8192 ≤ room
  tables-room = leb-true 8192 room (and_left _ _ enough)

  work-room : 8192 ≤ long
  work-room =
      let h = leb-true (work w) long (and_right (leb 8192 room) _ enough) in
      omega (arith, h, enough-work w)

pub returns-then-not-has_room : goal.returns-then-not-has_room
returns-then-not-has_room c =
    no_room_lem _ _ _ _ _ (rw c.clear.auto.buffer at (sym c.has_room.ensures ∙ c.if-not-has_room.true))

pub ask-requires : goal.ask-requires
ask-requires c =
    let enough = rw c.clear.auto.buffer at (sym c.has_room.ensures ∙ c.if-not-has_room.false) in
    (lent-blank _ _ c.clear.ensures (tables-room _ _ c.args.width enough), work-room _ _ c.args.width enough)

pub returns : goal.returns
returns c =
    let enough = rw c.clear.auto.buffer at (sym c.has_room.ensures ∙ c.if-not-has_room.false) in
    room-taken _ _ _ _ _ enough _ _ c.ask.ensures
    (ap (λ (l : List ℕ). c.ask.new.table ++ l) (rest-zeros _ _ c.clear.ensures (tables-room _ _ c.args.width enough)))
