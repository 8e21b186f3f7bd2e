-- What our lines and transfers have beside the texts that they carry.
use Rattle.std.specs.Prelude.{ℕ, ◌+◌, ◌-◌, ◌*◌, ◌/◌}
use Rattle.grammar.specs.Transfers.{data_max}
use Rattle.transfer_step.specs.Names.{block_head}

-- FF, FQ or F>, with its CR; an FS line, beside its signs.
abbrev pub fixed_length : ℕ
fixed_length = 3

abbrev pub beside_signs : ℕ
beside_signs = 4

-- A proposal, beside from, at, to, BID and size.
abbrev pub beside_proposal : ℕ
beside_proposal = 10

-- A plain transfer, beside title and body; a framed one, beside heading and blocks.
abbrev pub beside_plain : ℕ
beside_plain = 3

abbrev pub beside_framed : ℕ
beside_framed = 7

-- The bytes that begin the blocks of a body of n bytes.
abbrev pub block_heads : ℕ → ℕ
block_heads n = block_head * ((n + (data_max - 1)) / data_max)
