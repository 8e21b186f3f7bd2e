-- Sums of bytes beside each other: what they sum together.
use Rattle.std.specs.Prelude.{ℕ, ◌+◌, ◌*◌}
use Rattle.checksum.specs.declared.Lanes.{Lanes}
use Rattle.checksum.specs.declared.Four.{Four}

-- Bytes of a round, one for each lane; and of a turn, four rounds.
abbrev pub round_size : ℕ
round_size = 8

abbrev pub turn_size : ℕ
turn_size = 4 * round_size

unfoldable pub lanes_sum : Lanes → ℕ
lanes_sum t = t.a + t.b + (t.c + t.d) + (t.e + t.f + (t.g + t.h))

unfoldable pub four_sum : Four → ℕ
four_sum f = lanes_sum f.t + lanes_sum f.u + (lanes_sum f.v + lanes_sum f.w)
