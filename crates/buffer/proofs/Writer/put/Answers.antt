-- Three ways: a full buffer, a text passed over whole, and what `fill` did from the place on. Each is a law.
use Rattle.std.proofs.Common.{refl}
use Rattle.buffer.specs.Put.{Takes}
use Rattle.buffer.proofs.Laws.{puts_full, puts_past, puts_some}
use Rattle.buffer.proofs.Writer.put.Goals as goal

pub returns-then-self-at : goal.returns-then-self-at
returns-then-self-at c = let s = c.args.self.now in record { same = refl; puts = puts_full s.buf.now s.cursor c.args.text.now c.if-self-at.true }

pub returns-then-text-skip : goal.returns-then-text-skip
returns-then-text-skip c = let s = c.args.self.now in record { same = refl; puts = puts_past s.buf.now s.cursor c.args.text.now c.if-self-at.false c.if-text-skip.true }

pub returns : goal.returns
returns c =
    let s = c.args.self.now in
    let f = c.fill-written in
    record { same = refl; puts = puts_some s.buf.now c.args.text.now s.cursor c.if-self-at.false c.if-text-skip.false _ _ f.ensures.0 f.ensures.1 }
