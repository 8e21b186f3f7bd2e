-- Two texts put as one.
use Rattle.buffer.proofs.Laws.{takes_then}
use Rattle.buffer.proofs.Writer.put_line.Goals as goal

pub returns : goal.returns
returns c = takes_then c.put.ensures c.put_byte.ensures
