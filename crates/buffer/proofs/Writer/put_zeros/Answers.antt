-- Three ways, as in `put`.
use Rattle.std.proofs.Common.{refl, replicate}
use Rattle.buffer.specs.Put.{Takes}
use Rattle.buffer.proofs.Laws.{puts_full, zeros_past, puts_zeros}
use Rattle.buffer.proofs.Writer.put_zeros.Goals as goal

pub returns-then-self-at : goal.returns-then-self-at
returns-then-self-at c = let s = c.args.self.now in record { same = refl; puts = puts_full s.buf.now s.cursor (replicate c.args.zeros 0) c.if-self-at.true }

pub returns-then-zeros-skip : goal.returns-then-zeros-skip
returns-then-zeros-skip c = let s = c.args.self.now in record { same = refl; puts = zeros_past s.buf.now s.cursor c.args.zeros c.if-self-at.false c.if-zeros-skip.true }

pub returns : goal.returns
returns c =
    let s = c.args.self.now in
    record { same = refl; puts = puts_zeros s.buf.now s.cursor c.args.zeros c.if-self-at.false c.if-zeros-skip.false _ _ c.min-count.ensures c.clear.ensures }
