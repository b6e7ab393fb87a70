-- The loop's invariant: the places below k are written.
use Rattle.answer_store.specs.Inner.Writes.{Written}
use Rattle.answer_store.specs.Inner.Words.{place_word}
use Rattle.answer_store.proofs.places.store_places.Given as goal

abbrev pub invariant-loop-k : goal.invariant-loop-k
invariant-loop-k l = Written l.initial.answers l.answers l.first l.k (place_word l.order l.reached)
