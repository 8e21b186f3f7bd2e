-- A full buffer passes nothing over any more; in any other, no text changes nothing.
use Rattle.std.proofs.Common.{sym, ap, refl, [], ◌<◌, ◌∙◌, arith}
use native.Mathlib.Nat.{sub-zero}
use lib.ListN.{length}
use borrow.Author.Tests.{leb-true, leb-false}
use Rattle.grammar.specs.Bytes.{Bytes}
use Rattle.buffer.specs.declared.Cursor.{Cursor}
use Rattle.buffer.specs.Put.{Puts, cursor}
use Rattle.buffer.proofs.Laws.{puts_full, puts_past}
use Rattle.waiting_write.proofs.write_nothing.Goals as goal

no_text : (d : Bytes) (c : Cursor) → c.at < length d → Puts d c [] c d
no_text d c h = let p = puts_past d c [] h (omega arith) in (ap (cursor c.at) (sym (sub-zero c.skip)) ∙ p.0, p.1)

pub returns-then-is_full : goal.returns-then-is_full
returns-then-is_full c =
    let w = c.args.w.now in
    record { same = refl; puts = puts_full w.buf.now w.cursor [] (leb-true (length w.buf.now) w.cursor.at (sym c.is_full.ensures ∙ c.if-is_full.true)) }

pub returns-else-is_full : goal.returns-else-is_full
returns-else-is_full c =
    let w = c.args.w.now in
    record { same = refl; puts = no_text w.buf.now w.cursor (leb-false (length w.buf.now) w.cursor.at (sym c.is_full.ensures ∙ c.if-is_full.false)) }
