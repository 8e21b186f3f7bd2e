-- Numbers of which a few are changed: those of the line, of the reader, of what waits for give.
use Rattle.std.specs.Prelude.{ℕ, false}
use Rattle.transfer_step.specs.declared.Reader.{Reader}
use Rattle.session_memory.specs.Setters.{with_first, with_then, with_pos}
use Rattle.numbers.specs.declared.Numbers.{Numbers}
use Rattle.numbers.specs.Setters as numbers

-- The line under way has n bytes, and the last byte was no CR.
abbrev pub with_line_length : ℕ → Numbers → Numbers
with_line_length n h = numbers.with_line (record { after_cr = false; len = n }) h

-- The transfer under way is read so far, and the last byte was no CR.
abbrev pub with_read_so_far : Reader → Numbers → Numbers
with_read_so_far r h = numbers.with_reader r (with_line_length h.line.len h)

-- These pieces wait, and pos of their bytes are given.
abbrev pub with_pieces : ℕ → ℕ → ℕ → Numbers → Numbers
with_pieces first then pos h = numbers.with_say (with_first first (with_then then (with_pos pos h.say))) h
