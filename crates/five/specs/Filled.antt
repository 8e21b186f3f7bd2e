-- Up to five numbers as they are collected.
use Rattle.std.specs.Prelude.{◌≡◌}
use Rattle.session_memory.specs.State.{held, five_of}
use Rattle.session_memory.specs.declared.Five.{Five}

-- Zeros after the numbers held.
abbrev pub Filled : Five → Type 0
Filled f = f ≡ five_of (held f)
