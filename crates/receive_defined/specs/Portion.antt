-- What receive takes at once: one byte, or the run of a transfer's bytes up to its end or the input's. That this is byte after byte as
-- Receiving has it is proved in proofs/Portions; the run is there for speed.
use Rattle.std.specs.Prelude.{Bool, cond, not, ◌&&◌, [], ◌∷◌, ◌++◌, ℕ, eqb, take, drop}
use Rattle.grammar.specs.Bytes.{Bytes, LF}
use Rattle.phase.specs.Phase.{phase_transfer}
use Rattle.transfer_read.specs.Feed as transfer
use Rattle.transfer_read.specs.Feed.{room_of, feed_of}
use Rattle.pending.specs.Pending.{waits}
use Rattle.receive_defined.specs.Receiving.{Cs, Moved, Run, run_with, reading, transfer_moved, byte_of}

-- The room that the message under way has in the store: what kept messages leave, 65,535 bytes at most.
abbrev pub room_left : Cs → ℕ
room_left c = room_of (drop c.session.keep.used c.store)

-- The bytes of a transfer, read to its end or theirs.
abbrev pub transfer_fed : Cs → Bytes → transfer.PortionRead
transfer_fed c bs = feed_of (room_left c) c.session.reading.reader bs c.session.reading.heading (drop c.session.keep.used c.store)

-- What they leave.
abbrev pub transfer_left : Cs → transfer.PortionRead → Moved
transfer_left c u =
    transfer_moved u.fed.outcome (reading c.session u.fed.reader u.heading) c.table c.inbox
    (take c.session.keep.used c.store ++ u.store)

abbrev pub ran_for : ℕ → Moved → Run
ran_for n m = run_with m.answer n m.cs

unfoldable pub transfer_portion_of : Cs → Bytes → Run
transfer_portion_of c bs = ran_for (transfer_fed c bs).fed.count (transfer_left c (transfer_fed c bs))

-- The byte is a transfer's.
abbrev pub of_transfer : Cs → ℕ → Bool
of_transfer c b = not (c.session.line.after_cr && eqb b LF) && (not (waits c.session.say) && eqb c.session.now.phase phase_transfer)

unfoldable pub portion_of : Bytes → Cs → Bytes → Run
portion_of known c [] = run_with 0 0 c
portion_of known c (b ∷ bs) = cond (of_transfer c b) (transfer_portion_of c (b ∷ bs)) (ran_for 1 (byte_of known c b))
