-- The whole order is stored, and each of its statements has its mark.
use native.Mathlib.Omega.{arith}
use Rattle.answer_store.proofs.query.QueryAnswer.store_places.Goals as goal

pub store_places-requires : goal.store_places-requires
store_places-requires c = (c.requires.0, record { places-room = c.requires.1; ordered = omega arith; marked = c.args.self.now.marked })
