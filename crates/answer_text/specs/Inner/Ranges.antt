-- What a function gives at the numbers of a range, one after the other.
use Rattle.std.specs.Prelude.{List, [], ◌∷◌, ◌++◌, ℕ, ◌+◌, ◌≤◌}
use Rattle.std.specs.Borrow.{MutBor}
use Rattle.base.specs.Limits as limits
use Rattle.base.specs.Lists.{range, concat_map}
use Rattle.sheet.specs.Text.{newline}
use Rattle.answer_write.specs.declared.Text.{Text}
use Rattle.answer_write.specs.Inner.Texts.{Extends}

unfoldable pub texts : (ℕ → List ℕ) → ℕ → ℕ → List ℕ
texts f a e = concat_map f (range a e)

-- A heading, what is given of the queries 1 to n, and an empty line.
abbrev pub section_of : List ℕ → (ℕ → List ℕ) → ℕ → List ℕ
section_of heading f n = heading ++ (texts f 1 (n + 1) ++ (newline ∷ []))

-- Whatever a call can do, it adds f of the query to the text.
abbrev pub AddsEach : (MutBor Text → ℕ → MutBor Text → Type 0) → (ℕ → List ℕ) → Type 0
AddsEach call f = (t u : MutBor Text) (q : ℕ) → 1 ≤ q → q ≤ limits.most_queries → call t q u → Extends t.now (f q) u.now
