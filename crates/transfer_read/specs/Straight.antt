-- Bytes that go to the body as they come, many at a time: those of a block, and those of a plain body before its 0x1A.
-- Only the speed of the code rests on this: that feeding them is what the bytes one by one come to is proved (proofs/Runs).
use Rattle.std.specs.Prelude.{ℕ, suc, ◌+◌, ◌-◌, ◌%◌, min, cond, [], ◌∷◌, length, take, ◌==◌, nat_lt}
use Rattle.grammar.specs.Bytes.{Bytes, CTRLZ, byte_values}
use Rattle.grammar.specs.Transfers.{byte_sum}
use Rattle.transfer_step.specs.declared.Reader.{Reader}
use Rattle.transfer_step.specs.Step.{reader}
use Rattle.transfer_step.specs.Names.{body_place, data_place}

-- How many bytes stand before the first 0x1A.
unfoldable pub before_mark : Bytes → ℕ
before_mark [] = 0
before_mark (x ∷ xs) = cond (x == CTRLZ) 0 (suc (before_mark xs))

-- How many of the bytes at hand go to the body as they come; no more than the block still has and the store takes.
unfoldable pub straight_of : ℕ → Reader → Bytes → ℕ
straight_of room r bs =
    cond (nat_lt r.body room)
    (cond (r.place == data_place) (min r.left (min (room - r.body) (length bs)))
    (cond (r.place == body_place) (before_mark (take (min (room - r.body) (length bs)) bs)) 0))
    0

-- The reading after the bytes w of the body.
unfoldable pub along : Reader → Bytes → Reader
along r w =
    cond (r.place == data_place)
    (reader r.place r.len r.head r.off (r.left - length w) ((r.sum + byte_sum w) % byte_values) (r.body + length w))
    (reader r.place r.len r.head r.off r.left r.sum (r.body + length w))
