-- The limits of the calls whose sets have two words, or eight.
-- Beside: docs/landings/U6.md.
use Rattle.base.specs.Limits.{Limits, library, printing}
use Rattle.names_width.specs.declared.Width.{Width}
use Rattle.names_width.specs.declared.Width.TheVariants.{Two, Eight}

-- The limits of the calls whose sets have so many words.
abbrev pub limits : Width → Limits
limits Two = printing
limits Eight = library
