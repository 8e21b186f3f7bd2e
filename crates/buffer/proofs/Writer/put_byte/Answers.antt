-- Three ways: a full buffer, a byte passed over, and the byte written. Each is a law.
use Rattle.std.proofs.Common.{◌≡◌, refl, [], ◌∷◌, arith}
use Rattle.buffer.specs.Put.{Takes, Puts, cursor}
use Rattle.buffer.proofs.Laws.{puts_full, puts_past, puts_byte}
use Rattle.buffer.proofs.Writer.put_byte.Goals as goal

pub returns-then-self-at : goal.returns-then-self-at
returns-then-self-at c = let s = c.args.self.now in record { same = refl; puts = puts_full s.buf.now s.cursor (c.args.b ∷ []) c.if-self-at.true }

pub returns-then-skip-gt0 : goal.returns-then-skip-gt0
returns-then-skip-gt0 c = let s = c.args.self.now in record { same = refl; puts = puts_past s.buf.now s.cursor (c.args.b ∷ []) c.if-self-at.false (omega arith) }

pub returns : goal.returns
returns c =
    let s = c.args.self.now in
    record { same = refl; puts = puts_byte s.buf.now s.cursor c.args.b c.if-self-at.false (omega arith) }
