-- The number that a field says, and the size.
use Rattle.std.specs.Prelude.{cond, ℕ, Option, Some, None}
use Rattle.std.proofs.Math.Option as math
use Rattle.grammar.specs.Bytes.{Bytes}
use Rattle.grammar.specs.Refusals.{line_not_allowed}
use Rattle.grammar.specs.Fields.{digit, field, is_size, read_from}

-- Every number of so many decimal digits fits in 64 bits.
abbrev pub word_digits : ℕ
word_digits = 19

-- The number of 1 to n digits.
abbrev pub decimal_of : ℕ → Bytes → math.Option ℕ
decimal_of n w = cond (field digit n w) (math.some (read_from 0 w)) math.none

-- 01's number for each case: a proposal without a size is "a turn line that isn't allowed here"
abbrev pub size_number : Option ℕ → ℕ
size_number (Some n) = 0
size_number None = line_not_allowed

-- and what it is for a field: "size (1 to 9 digits)"
abbrev pub field_number : Bytes → ℕ
field_number w = cond (is_size w) 0 line_not_allowed
