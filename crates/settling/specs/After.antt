-- The numbers after a line or a message.
use Rattle.std.specs.Prelude.{Bool}
use Rattle.receive_defined.specs.Receiving.{unsaid}
use Rattle.numbers.specs.declared.Numbers.{Numbers}
use Rattle.numbers.specs.Setters.{with_say, with_line}

abbrev pub after_line : Numbers → Bool → Numbers
after_line h after_cr = with_say (unsaid h.say) (with_line (record { after_cr = after_cr; len = 0 }) h)
