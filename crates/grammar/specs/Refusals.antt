-- 01, "The numbers given back": one name for each number. 0 is no refusal.
use Rattle.std.specs.Prelude.{ℕ}

-- "place = first bad record, from 0; 255 for role, sizes, known BIDs or changed memory": no record
abbrev pub no_place : ℕ
no_place = 255

-- "open: bad table or buffers; receive or give: as under Lent memory"
abbrev pub bad_memory : ℕ
bad_memory = 1

-- "a 257th byte of a line comes before CR"
abbrev pub line_too_long : ℕ
line_too_long = 2

-- "first line isn't a valid SID"
abbrev pub not_sid : ℕ
not_sid = 3

-- "partner's SID has no F"
abbrev pub no_forwarding : ℕ
no_forwarding = 4

-- "a turn line that isn't allowed here"
abbrev pub line_not_allowed : ℕ
line_not_allowed = 5

-- "sixth proposal, or F> with none"
abbrev pub proposal_count : ℕ
proposal_count = 6

-- "FS line wrong in form or count"
abbrev pub bad_answer : ℕ
bad_answer = 7

-- "transfer wrong in header, title, offset or mark"
abbrev pub bad_transfer : ℕ
bad_transfer = 8

-- "checksum wrong"
abbrev pub bad_checksum : ℕ
bad_checksum = 9

-- "body byte without room, the 65,536th included"
abbrev pub store_full : ℕ
store_full = 10

-- "a byte arrives while bytes wait for give"
abbrev pub bytes_wait : ℕ
bytes_wait = 11

-- "receive on an ended session"
abbrev pub session_ended : ℕ
session_ended = 12

-- "wrong proposal checksum" (02, Q-5)
abbrev pub wrong_block_sum : ℕ
wrong_block_sum = 13
