-- The scheduler's call over a lent run of records: the rows that they are, and its question.
-- Beside: document 01, Some places and their forms.
use Rattle.std.specs.Prelude.{List, [], ◌∷◌, ◌++◌, map, ℕ, Bool, ◌&&◌, leb, length}
use Rattle.base.specs.Sets.{members, words_at}
use Rattle.order.specs.Definitions as Turns
use Rattle.order_records.specs.declared.Definition.{Definition}
use Rattle.base.specs.Limits as limits
use Rattle.base.specs.Limits.{library}
use Rattle.base.specs.Lists.{all}
use Rattle.order.specs.Call.{within}

-- ---- the rows that records are

-- The eight words of a record's used set.
abbrev pub used_words : Definition → List ℕ
used_words d = words_at 8 d.used 0

-- The row of a record, ten words.
abbrev pub row_of_record : Definition → List ℕ
row_of_record d = d.statement ∷ d.name ∷ used_words d

-- A row for each record, in their order.
abbrev pub rows_of_records : List Definition → List ℕ
rows_of_records [] = []
rows_of_records (d ∷ ds) = row_of_record d ++ rows_of_records ds

-- The definition that a record is.
abbrev pub definition_of : Definition → Turns.Definition
definition_of d = record { statement = d.statement; var = d.name; used = members (used_words d) }

-- ---- the one question

-- Not too many statements or records; every record within; lent buffers, of lengths `room` and `marks`, not shorter than the count.
unfoldable pub accepts_records : List Definition → ℕ → ℕ → ℕ → Bool
accepts_records ds n room marks =
    leb n limits.most_statements
    && (leb (length ds) limits.most_definitions && (leb n room && (leb n marks && all (within library n) (map definition_of ds))))
