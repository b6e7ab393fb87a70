-- A test that fails though its first part holds.
use mathlib.Core.Path.{◌≡◌}
use mathlib.Core.Bool.{Bool, true, false, ◌&&◌, false≢true}

-- Not both, and the first.
pub not-second : (a b : Bool) → (a && b) ≡ false → a ≡ true → b ≡ false
not-second true b h p = h
not-second false b h p = absurd (false≢true p)
