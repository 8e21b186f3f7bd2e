-- Byte pos of what waits, in the pieces that wait.
use Rattle.std.specs.Prelude.{◌≡◌, false, List, ℕ, ◌<◌, ◌≤◌, ltb, length, drop, Option, Some, None}
use Rattle.grammar.specs.Bytes.{Bytes}
use Rattle.waiting.specs.Pieces.{pieces_joined}
use Rattle.give_place.specs.declared.Place.{Place}

-- p is the place of a byte that is there: what waits from it on is what waits from byte pos on, and so many bytes are there from its piece on
pub record PlaceOfByte (ps : List Bytes) (pos : ℕ) (p : Place) : Type 0 where
  pub rest : drop pos (pieces_joined ps) ≡ drop p.offset (pieces_joined (drop p.piece ps))
  pub few : p.length ≤ length (pieces_joined (drop p.piece ps))
  pub before : p.offset ≤ pos
  pub there : pos < length (pieces_joined ps)

-- where it is; none exactly if it is not there
abbrev pub Located : List Bytes → ℕ → Option Place → Type 0
Located ps pos (Some p) = PlaceOfByte ps pos p
Located ps pos None = ltb pos (length (pieces_joined ps)) ≡ false
