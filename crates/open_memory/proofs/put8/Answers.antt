-- Its eight bytes.
use Rattle.buffer.proofs.Laws.{takes_as}
use Rattle.open_memory.proofs.put8.Goals as goal

pub returns : goal.returns
returns c = takes_as c.bytes8.ensures c.put.ensures
