-- What a call on a sheet can come to: refusals, each with where it lies, and a text that fits.
use Rattle.std.specs.Prelude.{List, ℕ, ◌≤◌, length}
use Rattle.answer.specs.Call.{Result, refused, answered}
use Rattle.promises.specs.Demand1.{Position}

-- A refusal with its position, or a text for which there is room.
pub data Outcomes (room : ℕ) : Result → Type 0 where
  refusal-at : {n l c : ℕ} → Position n l c → Outcomes room (refused n l c)
  a-text : {t : List ℕ} → length t ≤ room → Outcomes room (answered t)
