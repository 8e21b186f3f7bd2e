-- The eight bytes in their order.
use Rattle.std.specs.Prelude.{[], ◌∷◌, ℕ, ◌*◌}
use Rattle.grammar.specs.Bytes.{Bytes}
use Rattle.copying.specs.declared.Eight.{Eight}

-- Half a round, a round, and a turn of the loop.
abbrev pub half_size : ℕ
half_size = 8

abbrev pub pair_size : ℕ
pair_size = 2 * half_size

abbrev pub stride_size : ℕ
stride_size = 2 * pair_size

abbrev pub bytes_of : Eight → Bytes
bytes_of e = e.a ∷ e.b ∷ e.c ∷ e.d ∷ e.e ∷ e.f ∷ e.g ∷ e.h ∷ []
