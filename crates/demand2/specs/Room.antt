-- DEMAND 2, ROOM FOR A BODY: 01, "body byte without room, the 65,536th included". Laws: proofs/Room.
use Rattle.std.specs.Prelude.{ℕ, ◌+◌, ◌-◌, ◌≤◌, min, List, [], ◌∷◌, length}
use Rattle.grammar.specs.Bytes.{Bytes}
use Rattle.mail.specs.Mail.{Message}
use Rattle.session.specs.Choices.{Shelf}
use Rattle.demand2.specs.Limits.{body_max}

-- "bodies lie one after another in a lent store": so many bytes of it are used
abbrev pub kept_bytes : List Message → ℕ
kept_bytes [] = 0
kept_bytes (x ∷ xs) = length x.body + kept_bytes xs

-- There is no room for one byte more of this body: it has 65,535 bytes, or with the bodies that are kept it fills the store.
pub data Full (E : Shelf) (inbox : List Message) (body : Bytes) : Type 0 where
  longest : body_max ≤ length body → Full E inbox body
  store_used : E.bytes ≤ kept_bytes inbox + length body → Full E inbox body

-- The whole body has room: "A body has at most 65,535 bytes", and the store has as many bytes free beside the bodies that are kept.
pub record Fits (E : Shelf) (inbox : List Message) (body : Bytes) : Type 0 where
  pub short : length body ≤ body_max
  pub stored : length body ≤ E.bytes - kept_bytes inbox

-- How many bytes of a body have room, as a number, for the reading of a transfer (`Full` and `Fits` say the same, see proofs/Room).
abbrev pub room : Shelf → List Message → ℕ
room E inbox = min body_max (E.bytes - kept_bytes inbox)
