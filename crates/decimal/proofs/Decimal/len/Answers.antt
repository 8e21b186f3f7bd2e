-- As many as from the start on.
use Rattle.std.proofs.Common.{arith, length-drop}
use Rattle.decimal.proofs.Decimal.len.Goals as goal

pub returns-clause-value : goal.returns-clause-value
returns-clause-value c = rw (← c.self.view_is) (simp length-drop (omega arith))
