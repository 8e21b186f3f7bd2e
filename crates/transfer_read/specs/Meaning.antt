-- What the numbers, the heading's array and the store mean in the words of the grammar's scan (grammar, specs/Scan).
use Rattle.std.specs.Prelude.{◌≡◌, ℕ, zero, suc, ◌+◌, ◌%◌, ◌≤◌, true, cond, List, [], ◌∷◌, ◌++◌, length, take, drop, ◌==◌}
use Rattle.grammar.specs.Bytes.{Bytes, CR, CTRLZ, byte_values, NUL}
use Rattle.grammar.specs.Transfers.{Parsed, byte_sum}
use Rattle.grammar.specs.Scan.{Scan, in_title, in_body, in_mark, at_start, at_len, in_head, in_off, in_data, at_size, at_sum, Scanned, goes, got, malformed, wrong_sum, no_room, scan_byte, scan_on, body_of}
use Rattle.transfer_step.specs.declared.Reader.{Reader}
use Rattle.transfer_step.specs.Outcome.{ReadOutcome, More, Whole, Malformed, WrongSum, NoRoom, ReadStep}
use Rattle.transfer_step.specs.Step.{goes_on, reader, reading_goes_on, reading_ends}
use Rattle.transfer_read.specs.Feed.{PortionRead, after_bytes, feed_of}
use Rattle.transfer_step.specs.Names.{title_place, body_place, mark_place, start_place, length_place, heading_place, offset_place, data_place, size_place, checksum_place, nowhere, to_heading, to_body}
use Rattle.places.specs.Places.{heading_max}

-- ---------------------------------------------------------------- one byte

-- The heading so far.
abbrev pub heading_so_far : Scan → Bytes
heading_so_far (in_title t) = t
heading_so_far (in_body t x) = t
heading_so_far (in_mark t x) = t
heading_so_far at_start = []
heading_so_far at_len = []
heading_so_far (in_head len h) = h
heading_so_far (in_off len h o) = h
heading_so_far (in_data h x k) = h
heading_so_far (at_size h x) = h
heading_so_far (at_sum h x) = h

-- A scan in numbers: place, L, bytes of heading, of offset, of the block to come, sum of the data modulo 256, bytes of the body.
abbrev pub numbers_of : Scan → Reader
numbers_of (in_title t) = reader title_place 0 (length t) 0 0 0 0
numbers_of (in_body t x) = reader body_place 0 (length t) 0 0 0 (length x)
numbers_of (in_mark t x) = reader mark_place 0 (length t) 0 0 0 (length x)
numbers_of at_start = reader start_place 0 0 0 0 0 0
numbers_of at_len = reader length_place 0 0 0 0 0 0
numbers_of (in_head len h) = reader heading_place len (length h) 0 0 0 0
numbers_of (in_off len h o) = reader offset_place len (length h) (length o) 0 0 0
numbers_of (in_data h x k) = reader data_place 0 (length h) 0 k (byte_sum x % byte_values) (length x)
numbers_of (at_size h x) = reader size_place 0 (length h) 0 0 (byte_sum x % byte_values) (length x)
numbers_of (at_sum h x) = reader checksum_place 0 (length h) 0 0 (byte_sum x % byte_values) (length x)

-- Where a byte goes at which the scan goes on.
abbrev pub byte_goes_to : Scan → ℕ → ℕ
byte_goes_to (in_title t) b = cond (b == CR) nowhere to_heading
byte_goes_to (in_body t x) b = cond (b == CTRLZ) nowhere to_body
byte_goes_to (in_mark t x) b = nowhere
byte_goes_to at_start b = nowhere
byte_goes_to at_len b = nowhere
byte_goes_to (in_head len h) b = cond (b == NUL) nowhere to_heading
byte_goes_to (in_off len h o) b = nowhere
byte_goes_to (in_data h x zero) b = nowhere
byte_goes_to (in_data h x (suc k)) b = to_body
byte_goes_to (at_size h x) b = nowhere
byte_goes_to (at_sum h x) b = nowhere

-- The code's name for each outcome of the scan.
abbrev pub outcome_of : Scanned → ReadOutcome
outcome_of (goes sc) = More
outcome_of (got h x) = Whole
outcome_of malformed = Malformed
outcome_of wrong_sum = WrongSum
outcome_of no_room = NoRoom

-- What the step on the numbers of sc must give where the scan of sc gives this.
abbrev pub stepped_of : Scan → ℕ → Scanned → ReadStep
stepped_of sc b (goes sc') = reading_goes_on (numbers_of sc') (byte_goes_to sc b)
stepped_of sc b (got h x) = reading_ends (numbers_of sc) Whole
stepped_of sc b malformed = reading_ends (numbers_of sc) Malformed
stepped_of sc b wrong_sum = reading_ends (numbers_of sc) WrongSum
stepped_of sc b no_room = reading_ends (numbers_of sc) NoRoom

-- ---------------------------------------------------------------- a portion

-- A reader, a heading's array and a store stand where the scan does: the numbers are its numbers, and the bytes so far lie in the buffers.
pub record Stands (room : ℕ) (r : Reader) (hd st : Bytes) (sc : Scan) : Type 0 where
  pub numbers : r ≡ numbers_of sc
  pub heading : take r.head hd ≡ heading_so_far sc
  pub body : take r.body st ≡ body_of sc
  pub short : r.head ≤ heading_max
  pub fits : r.body ≤ room
  pub array : length hd ≡ heading_max
  pub store : room ≤ length st

-- A portion bs, read from the scan sc on, that has come to an outcome o: at which byte, where the reading stood before it,
-- and that this is what was reported, counted, and left in the buffers.
pub record Ended (room : ℕ) (sc : Scan) (bs : Bytes) (o : Scanned) (u : PortionRead) : Type 0 where
  pub before : Bytes
  pub byte : ℕ
  pub rest : Bytes
  pub last : Scan
  pub bytes : bs ≡ before ++ byte ∷ rest
  pub onto : scan_on room (goes sc) before ≡ goes last
  pub judged : scan_byte room last byte ≡ o
  pub outcome : u.fed.outcome ≡ outcome_of o
  pub count : u.fed.count ≡ length before + 1
  pub stands : Stands room u.fed.reader u.heading u.store last

-- A whole transfer lies in the buffers.
pub record TransferLies (h x : Bytes) (u : PortionRead) : Type 0 where
  pub heading : take u.fed.reader.head u.heading ≡ h
  pub body : take u.fed.reader.body u.store ≡ x
  pub heading_length : u.fed.reader.head ≡ length h
  pub body_length : u.fed.reader.body ≡ length x

-- A whole transfer has come, its last byte the n-th, and lies in the buffers.
pub record ReceivedWhole (n : ℕ) (h x : Bytes) (u : PortionRead) : Type 0 where
  pub outcome : u.fed.outcome ≡ Whole
  pub count : u.fed.count ≡ n
  pub holds : TransferLies h x u

-- What lies in the buffers, as a right transfer.
abbrev pub contents : PortionRead → Parsed
contents u = record { heading = take u.fed.reader.head u.heading; body = take u.fed.reader.body u.store; right = true }

-- What a portion bs, read from the scan sc on, must come to where the scan of the same bytes gives this.
abbrev pub FedAs : ℕ → Scan → Bytes → PortionRead → Scanned → Type 0
FedAs room sc bs u (goes sc') = (u.fed.outcome ≡ More) × (u.fed.count ≡ length bs) × Stands room u.fed.reader u.heading u.store sc'
FedAs room sc bs u (got h x) = Ended room sc bs (got h x) u × TransferLies h x u
FedAs room sc bs u malformed = Ended room sc bs malformed u
FedAs room sc bs u wrong_sum = Ended room sc bs wrong_sum u
FedAs room sc bs u no_room = Ended room sc bs no_room u

-- Of a buffer: what lay before index i, and from index j on, is as it was.
pub record SameOutside (i j : ℕ) (was is : Bytes) : Type 0 where
  pub on : i ≤ j
  pub before : take i is ≡ take i was
  pub past : drop j is ≡ drop j was
  pub size : length is ≡ length was

-- Both buffers after a portion: what lay before the heading and the body that it brings, and past them, is as it was.
abbrev pub Untouched : Reader → Bytes → Bytes → PortionRead → Type 0
Untouched r hd st u = SameOutside r.head u.fed.reader.head hd u.heading × SameOutside r.body u.fed.reader.body st u.store

-- A portion more, where the one before goes on.
abbrev pub then_feed : ℕ → PortionRead → Bytes → PortionRead
then_feed room u ys = cond (goes_on u.fed.outcome) (after_bytes u.fed.count (feed_of room u.fed.reader ys u.heading u.store)) u

-- Any portions, one after the other.
abbrev pub feed_each : ℕ → PortionRead → List Bytes → PortionRead
feed_each room u [] = u
feed_each room u (p ∷ ps) = feed_each room (then_feed room u p) ps
