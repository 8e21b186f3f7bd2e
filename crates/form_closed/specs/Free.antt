-- The free bytes of session memory (docs/MEMORY.md): behind the numbers of the state, and behind its arrays.
use Rattle.std.specs.Prelude.{◌≡◌, ℕ, ◌+◌, ◌≤◌}
use Rattle.grammar.specs.Bytes.{Bytes}
use Rattle.grammar.specs.Transfers.{part_of}
use Rattle.places.specs.Places.{numbers_end, arrays_at, arrays_end}

-- Every part of them is after a call what it was before.
pub record FreeStays (before after : Bytes) : Type 0 where
  pub numbers : (start len : ℕ) → numbers_end ≤ start → start + len ≤ arrays_at → part_of after start len ≡ part_of before start len
  pub arrays : (start len : ℕ) → arrays_end ≤ start → part_of after start len ≡ part_of before start len
