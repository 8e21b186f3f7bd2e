-- Numbers with one part of them changed, the value first, so that changes chain; as crates/session_memory has them of the whole state.
use Rattle.transfer_step.specs.declared.Reader.{Reader}
use Rattle.session_memory.specs.declared.Say.{Say}
use Rattle.numbers.specs.declared.AwaitNumbers.{AwaitNumbers}
use Rattle.numbers.specs.declared.LineNumbers.{LineNumbers}
use Rattle.numbers.specs.declared.Numbers.{Numbers}

abbrev pub with_now : AwaitNumbers → Numbers → Numbers
with_now x h = record { now = x; say = h.say; keep = h.keep; reader = h.reader; line = h.line; tally = h.tally }

abbrev pub with_say : Say → Numbers → Numbers
with_say x h = record { now = h.now; say = x; keep = h.keep; reader = h.reader; line = h.line; tally = h.tally }

abbrev pub with_reader : Reader → Numbers → Numbers
with_reader x h = record { now = h.now; say = h.say; keep = h.keep; reader = x; line = h.line; tally = h.tally }

abbrev pub with_line : LineNumbers → Numbers → Numbers
with_line x h = record { now = h.now; say = h.say; keep = h.keep; reader = h.reader; line = x; tally = h.tally }
