-- Our turn, or the next transfer.
use native.Mathlib.Omega.{arith}
use Rattle.numbers.specs.Whole.{arrays_in, whole_of}
use Rattle.kept_message.proofs.Laws.{next_turn, next_transfer, reader_by_lem}
use Rattle.kept_message.proofs.after_kept.Goals as goal

pub returns-in_default : goal.returns-in_default
unfolding whole_of
returns-in_default c = let a = c.args in next_turn (whole_of a.s.now a.mem.now) _ c.unmarked.ensures c.in_default.ensures.first

pub returns : goal.returns
unfolding whole_of
returns c =
    let a = c.args in
    let m = a.mem.now in
    next_transfer (whole_of a.s.now m) c.in-Some.i c.in-Some.ensures.first (λ z. omega (arith, c.in-Some.ensures.within)) _ _ (c.went.ensures _ (arrays_in m)) (c.to_transfer.ensures (arrays_in m)) (reader_by_lem a.s.now m c.in-Some.i _ (c.reader_for-s.ensures a.s.now.now (arrays_in m)))
