-- 01, "Receive and give answer 1 .. exactly if a lent size isn't the one open kept in session memory or the lent memory fails a form test.
-- The test is listed in docs/": here it is, in the order of docs/MEMORY.md.
use Rattle.std.specs.Prelude.{◌≡◌, Bool, true, false, Option, Some, None, cond, not, ◌&&◌, ◌||◌, List, [], ◌∷◌, ℕ, zero, suc, ◌+◌, eqb, ltb, leb, length, get_or, drop}
use Rattle.grammar.specs.Bytes.{Bytes}
use Rattle.layout.specs.Layout.{byte_at, entry_at, body_length, le4_at}
use Rattle.session_memory.specs.State.{held, load_of, load_sizes}
use Rattle.session_memory.specs.Session.{Session}
use Rattle.session_memory.specs.declared.Sizes.{Sizes}
use Rattle.entries.specs.Decoded.{place_count}
use Rattle.waiting.specs.Waiting.{waiting_of}
use Rattle.waiting.specs.Pieces.{pieces_of}
use Rattle.give_place.specs.Located.{PlaceOfByte}
use Rattle.give_place.specs.declared.Place.{Place}
use Rattle.pending.specs.Pending.{waits}
use Rattle.phase.specs.Phase.{phase_turn, phase_transfer, is_closed, piece_none, piece_protocol_error, piece_checksum_error}
use Rattle.places.specs.Places.{line_len, heading_len, partners, entry_len, session_len}
use Rattle.grammar.specs.Turns.{block_limit}
use Rattle.grammar.specs.Answers.{plus_sign}
use Rattle.grammar.specs.Fields.{body_max}
use Rattle.grammar.specs.Ascii.{text}
use Rattle.mail.specs.Mail.{place_limit}

-- The mark that open leaves, and the number that its letters make, the first the lowest byte.
abbrev pub mark : Bytes
mark = text "FM01"

abbrev pub mark_number : ℕ
mark_number = le4_at mark 0

abbrev pub mark_ok : Bytes → Bool
mark_ok sm = eqb (byte_at sm 0) (byte_at mark 0) && (eqb (byte_at sm 1) (byte_at mark 1) && (eqb (byte_at sm 2) (byte_at mark 2) && eqb (byte_at sm 3) (byte_at mark 3)))

unfoldable pub same_sizes : Sizes → Sizes → Bool
same_sizes a b =
    eqb a.table b.table && (eqb a.titles b.titles && (eqb a.names b.names && (eqb a.bodies b.bodies
    && (eqb a.known b.known && (eqb a.inbox b.inbox && eqb a.store b.store)))))

-- Counts within their arrays, and a partner that has a column.
unfoldable pub counts_ok : Session → Bool
counts_ok s =
    leb s.line.len line_len && (leb s.now.ours.count block_limit && (leb s.say.signs.count block_limit && (leb s.keep.sending.count block_limit
    && (leb s.now.proposals block_limit && (leb s.reading.reader.head heading_len && ltb s.keep.terms.partner partners)))))

-- How many store bytes the first n messages of the inbox use, from message i on.
abbrev pub used_from : Bytes → ℕ → ℕ → ℕ
used_from inbox i zero = 0
used_from inbox i (suc n) = body_length (entry_at entry_len inbox i) + used_from inbox (suc i) n

unfoldable pub used_by : Bytes → ℕ → ℕ
used_by inbox n = used_from inbox 0 n

-- The messages kept have their places, and their bodies' bytes are those that the session counts.
unfoldable pub inbox_ok : Session → Bytes → Bytes → Bool
inbox_ok s inbox store =
    leb (place_count inbox) place_limit && (leb s.keep.kept (place_count inbox)
    && (eqb (used_by inbox s.keep.kept) s.keep.used && leb s.keep.used (length store)))

-- Where something waits, not all of it is given.
unfoldable pub waiting_ok : Session → Bytes → Bytes → Bytes → Bytes → Bool
waiting_ok s table titles names bodies = not (waits s.say) || ltb s.say.pos (length (waiting_of s table titles names bodies))

-- How many `+` are among the sign bytes.
abbrev pub pluses : List ℕ → ℕ
pluses [] = 0
pluses (x ∷ xs) = cond (eqb x plus_sign) (suc (pluses xs)) (pluses xs)

-- A transfer under way is that of an accepted proposal, and it and those after it have their places and room.
unfoldable pub transfer_ok : Session → Bytes → Bytes → Bool
transfer_ok s inbox store =
    ltb s.now.current s.now.proposals && (eqb s.say.signs.count s.now.proposals
    && (eqb (get_or s.say.signs.items s.now.current 0) plus_sign
    && (leb (s.keep.kept + pluses (drop s.now.current (held s.say.signs))) (place_count inbox)
    && (leb s.reading.reader.body body_max && leb (s.keep.used + s.reading.reader.body) (length store)))))

-- A line that says why we hang up (02, Q-1), or nothing
abbrev pub is_last : ℕ → Bool
is_last first = eqb first piece_none || (eqb first piece_protocol_error || eqb first piece_checksum_error)

-- A session that is closed has nothing to give but that line.
unfoldable pub closed_ok : Session → Bool
closed_ok s = cond (is_closed s.now.phase) (eqb s.say.then piece_none && is_last s.say.first) true

-- Records are being sent only while the partner's turn, our leaving or nothing is awaited.
unfoldable pub phase_ok : Session → Bytes → Bytes → Bool
phase_ok s inbox store =
    cond (eqb s.now.phase phase_turn) true
    (cond (ltb phase_transfer s.now.phase) (closed_ok s)
    (eqb s.keep.sending.count 0 && cond (eqb s.now.phase phase_transfer) (transfer_ok s inbox store) true))

-- The state, read from session memory.
unfoldable pub state_ok : Session → Bytes → Bytes → Bytes → Bytes → Bytes → Bytes → Bool
state_ok s table titles names bodies inbox store =
    counts_ok s && (inbox_ok s inbox store && (phase_ok s inbox store && waiting_ok s table titles names bodies))

abbrev pub lent_sizes : Bytes → Bytes → Bytes → Bytes → Bytes → Bytes → Bytes → Sizes
lent_sizes table titles names bodies known inbox store =
    record { table = length table; titles = length titles; names = length names; bodies = length bodies; known = length known; inbox = length inbox; store = length store }

-- THE FORM TEST
unfoldable pub form_of : Bytes → Bytes → Bytes → Bytes → Bytes → Bytes → Bytes → Bytes → Bool
form_of sm table titles names bodies known inbox store =
    eqb (length sm) session_len && (mark_ok sm && (same_sizes (load_sizes sm) (lent_sizes table titles names bodies known inbox store)
    && state_ok (load_of sm) table titles names bodies inbox store))

-- What give needs of a memory that passes: where the next byte to give is; none where nothing waits.
abbrev pub NextToGive : Session → Bytes → Bytes → Bytes → Bytes → Option Place → Type 0
NextToGive s table titles names bodies None = waits s.say ≡ false
NextToGive s table titles names bodies (Some p) = (waits s.say ≡ true) × PlaceOfByte (pieces_of s table titles names bodies) s.say.pos p
