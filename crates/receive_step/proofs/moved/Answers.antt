-- A transfer that is refused ends the session with its number.
use Rattle.numbers.specs.Whole.{whole_of}
use Rattle.receive_step.proofs.Laws.{moved_refused}
use Rattle.receive_step.proofs.moved.Goals as goal

pub returns-in-Err : goal.returns-in-Err
returns-in-Err c = λ st.
    let a = c.args in
    rw c.in-Err.is
    (moved_refused c.in-Err.why (whole_of a.s.now a.mem.now) (whole_of c.refuse.new.s a.mem.now) a.table.now a.inbox.now st _ c.refusal_of-refusal.ensures (rw (← c.from.ensures) (c.refuse.ensures a.mem.now)))
