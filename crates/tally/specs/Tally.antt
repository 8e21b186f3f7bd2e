-- 02, Q-3, "how many records wait and the sum of their announced sizes", for one partner, on the bytes of the table.
use Rattle.std.specs.Prelude.{[], ℕ, ◌%◌}
use Rattle.grammar.specs.Bytes.{Bytes, four_byte_values}
use Rattle.mail.specs.Tally.{waiting_count, waiting_bytes}
use Rattle.entries.specs.Decoded.{records_of}
use Rattle.marking.specs.States.{states_of}
use Rattle.sheet.specs.declared.Sheet.{Sheet}
use Rattle.session_memory.specs.declared.Tally.{Tally}

unfoldable pub waiting_in : ℕ → Bytes → ℕ
waiting_in partner table = waiting_count (states_of partner table)

-- In four bytes: 64 sizes of 999,999 at most, as open demands, stay far below.
unfoldable pub sizes_in : ℕ → Bytes → ℕ
sizes_in partner table = waiting_bytes (records_of [] [] [] table) (states_of partner table) % four_byte_values

-- Both numbers, beside this sheet.
abbrev pub counted : ℕ → Bytes → Sheet → Tally
counted partner table sheet = record { waiting = waiting_in partner table; sizes = sizes_in partner table; sheet = sheet }
