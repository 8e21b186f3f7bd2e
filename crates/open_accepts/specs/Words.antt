-- 01, "Fields", as facts about bytes: what a callsign, an at field, a BID, a title or name and a body are. When two BIDs are one stands in the
-- grammar's Bids. Nothing here is a test; that the tests of the grammar decide these facts is proved in proofs/Words.
use Rattle.std.specs.Prelude.{◌≡◌, List, [], ◌∷◌, ◌++◌, ◌≢◌, ℕ, ◌+◌, ◌≤◌, ◌<◌, length, get_or}
use Rattle.grammar.specs.Bytes.{Bytes, CTRLZ}
use Rattle.grammar.specs.Fields.{Form, plain, message, file}
use Rattle.layout.specs.Layout.{Extent}

-- ---------------------------------------------------------------- kinds of bytes

-- "0x21-0x7E": both ends are in
pub record Between (least most b : ℕ) : Type 0 where
  pub low : least ≤ b
  pub high : b ≤ most

-- the bytes `.` and `@`
abbrev pub point : ℕ
point = 0x2E

abbrev pub at_sign : ℕ
at_sign = 0x40

-- "bytes in 0x21-0x7E without `@` and `.`"
pub record CallByte (b : ℕ) : Type 0 where
  pub range : Between 0x21 0x7E b
  pub no_at_sign : b ≢ at_sign
  pub no_point : b ≢ point

-- "bytes in 0x21-0xFF"
abbrev pub BidByte : ℕ → Type 0
BidByte b = Between 0x21 0xFF b

-- "bytes in 0x20-0xFF"
abbrev pub HeadingByte : ℕ → Type 0
HeadingByte b = Between 0x20 0xFF b

-- ---------------------------------------------------------------- the most bytes of each, said here once and shared with no other definition

-- "from and to have 1 to 6 bytes"
abbrev pub call_most : ℕ
call_most = 6

-- "38 bytes in all and 31 after the first `.` at most"
abbrev pub at_most : ℕ
at_most = 38

abbrev pub after_point_most : ℕ
after_point_most = 31

-- "A BID has 1 to 12 bytes"
abbrev pub bid_most : ℕ
bid_most = 12

-- "A title or name has 1 to 80 bytes"
abbrev pub heading_most : ℕ
heading_most = 80

-- "A body has at most 65,535 bytes"
abbrev pub body_most : ℕ
body_most = 65535

-- ---------------------------------------------------------------- fields

-- 1 to so many bytes of a kind.
pub record Text (Kind : ℕ → Type 0) (most : ℕ) (w : Bytes) : Type 0 where
  pub not_empty : 1 ≤ length w
  pub short : length w ≤ most
  pub bytes : (k : ℕ) → k < length w → Kind (get_or w k 0)

-- "from and to have 1 to 6 bytes in 0x21-0x7E without `@` and `.`"
abbrev pub Callsign : Bytes → Type 0
Callsign w = Text CallByte call_most w

-- "A BID has 1 to 12 bytes in 0x21-0xFF."
abbrev pub Bid : Bytes → Type 0
Bid w = Text BidByte bid_most w

-- "A title or name has 1 to 80 bytes in 0x20-0xFF."
abbrev pub Heading : Bytes → Type 0
Heading w = Text HeadingByte heading_most w

-- "joined by `.`": a first part, and the others each after a point
abbrev pub joined_by_points : Bytes → List Bytes → Bytes
joined_by_points first [] = first
joined_by_points first (next ∷ others) = first ++ (point ∷ joined_by_points next others)

-- what stands "after the first `.`"
abbrev pub after_point : List Bytes → Bytes
after_point [] = []
after_point (next ∷ others) = joined_by_points next others

abbrev pub AllParts : List Bytes → Type 0
AllParts [] = Unit {0}
AllParts (p ∷ ps) = Callsign p × AllParts ps

-- "At is one to several parts of 1 to 6 such bytes joined by `.`, 38 bytes in all and 31 after the first `.` at most."
pub record AtField (w : Bytes) : Type 0 where
  pub first : Bytes
  pub others : List Bytes
  pub parts : w ≡ joined_by_points first others
  pub first_part : Callsign first
  pub other_parts : AllParts others
  pub short : length w ≤ at_most
  pub short_after : length (after_point others) ≤ after_point_most

-- ---------------------------------------------------------------- fields as they lie in lent memory

-- A field in its entry: "one byte for its length, then its bytes" (docs/MEMORY.md). w, the bytes read, has as many as that byte says, so the room
-- of the entry is not passed; and they obey a rule.
pub record EntryField (Rule : Bytes → Type 0) (says : ℕ) (w : Bytes) : Type 0 where
  pub whole : length w ≡ says
  pub rule : Rule w

-- "Forms 0 and 1 need a title, form 2 a name"
abbrev pub NeedsTitle : Form → Type 0
NeedsTitle plain = Unit {0}
NeedsTitle message = Unit {0}
NeedsTitle file = ⊥

abbrev pub NeedsName : Form → Type 0
NeedsName plain = ⊥
NeedsName message = ⊥
NeedsName file = Unit {0}

-- "Title, name and body are a start and a length in three lent stores."
abbrev pub InStore : Bytes → Extent → Type 0
InStore store e = e.start + e.len ≤ length store

-- A title or name: one that is needed is not empty; "the unused one may be empty, else the same bytes and length hold."
pub record Headed (Needed : Type 0) (store : Bytes) (e : Extent) (w : Bytes) : Type 0 where
  pub lies : InStore store e
  pub needed : Needed → 1 ≤ length w
  pub heading : 1 ≤ length w → Heading w

-- "A body has at most 65,535 bytes; a plain body holds no 0x1A."
pub record Bodied (form : Form) (store : Bytes) (e : Extent) (w : Bytes) : Type 0 where
  pub lies : InStore store e
  pub short : length w ≤ body_most
  pub fair : form ≡ plain → (k : ℕ) → k < length w → get_or w k 0 ≢ CTRLZ
