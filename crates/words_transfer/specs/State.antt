-- A transfer under way as eight numbers, and a portion's outcome as a number, for callers from C and Rust.
use Rattle.std.specs.Prelude.{◌≡◌, ℕ, ◌*◌, ◌%◌, List, [], ◌∷◌, ◌++◌, length, take, drop, slice_index}
use Rattle.grammar.specs.Bytes.{Bytes, byte_values, two_byte_values, four_byte_values}
use Rattle.grammar.specs.Refusals.{bad_transfer, bad_checksum, store_full}
use Rattle.transfer_step.specs.declared.Reader.{Reader}
use Rattle.transfer_step.specs.Outcome.{ReadOutcome, More, Whole, Malformed, WrongSum, NoRoom}
use Rattle.transfer_step.specs.Step.{reader}
use Rattle.transfer_read.specs.Feed.{PortionRead, feed_of, room_of}

-- A reader's numbers in the order: place, L, bytes of heading, of offset, of the body, of the block to come, sum; and how many bytes were consumed.
abbrev pub reading_state : Reader → ℕ → List ℕ
reading_state r n = r.place ∷ r.len ∷ r.head ∷ r.off ∷ r.body ∷ r.left ∷ r.sum ∷ n ∷ []

-- The places of these numbers.
abbrev pub place_number : ℕ
place_number = 0

abbrev pub length_number : ℕ
length_number = 1

abbrev pub head_number : ℕ
head_number = 2

abbrev pub offset_number : ℕ
offset_number = 3

abbrev pub body_number : ℕ
body_number = 4

abbrev pub left_number : ℕ
left_number = 5

abbrev pub sum_number : ℕ
sum_number = 6

-- The reader that such numbers stand for, each taken modulo what its field holds.
unfoldable pub reader_by : List ℕ → Reader
reader_by s =
    reader (slice_index s place_number % byte_values) (slice_index s length_number % byte_values) (slice_index s head_number % byte_values) (slice_index s offset_number % byte_values)
    (slice_index s left_number % two_byte_values) (slice_index s sum_number % byte_values) (slice_index s body_number % four_byte_values)

-- 0 goes on, 1 whole, else 01's number of the refusal.
abbrev pub outcome_code : ReadOutcome → ℕ
outcome_code More = 0
outcome_code Whole = 1
outcome_code Malformed = bad_transfer
outcome_code WrongSum = bad_checksum
outcome_code NoRoom = store_full

-- A portion read from a state on, into the heading's array and the store.
abbrev pub portion : List ℕ → Bytes → Bytes → Bytes → PortionRead
portion s bs heading store = feed_of (room_of store) (reader_by s) bs heading store

-- What is answered and left of a portion: its outcome, the state after it, the heading's array and the store.
abbrev pub PortionLeaves : PortionRead → ℕ → List ℕ → Bytes → Bytes → Type 0
PortionLeaves u r s heading store =
    (r ≡ outcome_code u.fed.outcome) × (s ≡ reading_state u.fed.reader u.fed.count) × (heading ≡ u.heading) × (store ≡ u.store)

-- The buffer d with what fits of p over its start is e; n bytes fit.
abbrev pub Copied : Bytes → Bytes → ℕ → Bytes → Type 0
Copied d p n e = (n ≡ length (take (length d) p)) × (e ≡ take (length d) p ++ drop n d)
