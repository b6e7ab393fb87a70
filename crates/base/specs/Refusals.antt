-- The numbers of refusals. The definitions say these numbers here alone; 0 says that nothing is refused.
-- Beside: document 01, Questions.
use Rattle.std.specs.Prelude.{ℕ}

-- ---- questions 1 to 6, put to a sheet

-- The tables or the work are too short.
abbrev pub no_room : ℕ
no_room = 1

-- The sheet is too long.
abbrev pub too_long : ℕ
too_long = 2

-- It has not the form.
abbrev pub bad_form : ℕ
bad_form = 3

-- A name is not well made, or not in its order.
abbrev pub bad_name : ℕ
bad_name = 4

-- A count is not in bounds.
abbrev pub bad_count : ℕ
bad_count = 5

-- A field, or the nesting, is not as it should be.
abbrev pub bad_field : ℕ
bad_field = 6

-- ---- question 8

-- The answer's text does not fit the lent bytes.
abbrev pub text_too_long : ℕ
text_too_long = 7

-- ---- the scheduler's own question

-- The list of definitions is not in bounds, or a lent buffer is too short.
abbrev pub bad_list : ℕ
bad_list = 8

-- ---- question 7: the first error of the analysis

-- A variable is not defined.
abbrev pub undefined_variable : ℕ
undefined_variable = 11

-- A variable is used before its definition.
abbrev pub used_before_definition : ℕ
used_before_definition = 12

-- The lengths of two arrays differ.
abbrev pub lengths_differ : ℕ
lengths_differ = 13

-- An index variable stands inside a some-in pattern.
abbrev pub index_in_pattern : ℕ
index_in_pattern = 14
