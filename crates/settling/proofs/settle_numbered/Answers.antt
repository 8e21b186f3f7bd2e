-- By the number 0 a line is taken; by any other it is refused.
use borrow.Author.Tests.{ne_eqb}
use Rattle.numbers.specs.Whole.{whole_of}
use Rattle.line_effect.specs.Judge.{judged}
use Rattle.settling.proofs.Laws.{settle_no}
use Rattle.settling.proofs.settle_numbered.Goals as goal

pub returns-else-told-eq-NONE : goal.returns-else-told-eq-NONE
returns-else-told-eq-NONE c =
    let a = c.args in
    settle_no (judged a.told.answer a.told.speaks a.told.marks (whole_of a.s.now a.mem.now)) a.after_cr a.table.now _ (ne_eqb _ _ c.if-told-eq-NONE.false) (c.refuse.ensures a.mem.now)
