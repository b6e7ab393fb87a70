-- How a text starts: bytes without a newline in front of it, and what stands at a place.
use Rattle.std.specs.Prelude.{Bool, not, List, ℕ, eqb}
use Rattle.base.specs.Lists.{all}
use Rattle.sheet.specs.Text.{newline}

-- ---- bytes without a newline

abbrev pub no_newline : List ℕ → Bool
no_newline = all (λ b. not (eqb b newline))
