-- What the call leaves of the worked example, whose text has 114 bytes: question 8.
use mathlib.Core.Path.{◌≡◌, refl}
use mathlib.Core.List.{[], ◌∷◌, ◌++◌}
use Prim.Native.Nat.{ℕ}
use lib.ListN.{length, replicate}
use Rattle.base.specs.Limits.{library}
use Rattle.sheet.specs.Text.{bytes}
use Rattle.answer.specs.Call.{Left, left}
use Rattle.trials.proofs.Laws.Examples.{worked}
use Rattle.trials.proofs.Laws.Computed.{computed}

-- What is left where so many bytes are lent for the answer.
abbrev leaves : ℕ → Left
leaves room = left library (bytes worked.sheet) 8192 24576 room

text-length : length (bytes worked.answer) ≡ 114
unfolding bytes
text-length = refl

-- As many bytes are enough.
pub fits : (leaves 114).answer ≡ bytes worked.answer
unfolding left computed
fits = refl

-- Zeros stand behind the text.
pub zeros-after : (leaves 117).answer ≡ bytes worked.answer ++ (0 ∷ 0 ∷ 0 ∷ [])
unfolding left computed
zeros-after = refl

-- One fewer is refusal 7, and zeros.
pub too_short : leaves 113 ≡ record {
  number = 7;
  line = 0;
  col = 0;
  tables = replicate 8192 0;
  work = replicate 24576 0;
  answer = replicate 113 0;
}
unfolding left computed
too_short = refl
