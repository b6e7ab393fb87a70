-- What a question answers: the first line at fault, if there is one.
use Rattle.std.specs.Prelude.{cond, ℕ, eqb, Result, Ok, Err}

-- Line 0 means none.
abbrev pub unless_fault : ℕ → Result Unit ℕ
unless_fault line = cond (eqb line 0) (Ok tt) (Err line)
