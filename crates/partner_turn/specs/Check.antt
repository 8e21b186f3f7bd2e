-- The checksum behind F> and the sum so far.
use Rattle.std.specs.Prelude.{Option, Some, None, ℕ, ◌+◌, ◌%◌, Bool, true, ◌==◌}
use Rattle.grammar.specs.Bytes.{byte_values}

-- "plus HH must be 0 modulo 256. A bare `F>` is still taken." (02, Q-5); n: the sum so far
abbrev pub right_by : Option ℕ → ℕ → Bool
right_by (Some h) n = (n + h) % byte_values == 0
right_by None n = true
