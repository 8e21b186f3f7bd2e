-- What lies in the buffers that open is lent, as read.
use Rattle.std.specs.Prelude.{List, [], ℕ, get_or}
use Rattle.grammar.specs.Bytes.{Bytes}
use Rattle.mail.specs.Mail.{Record, record_at}
use Rattle.layout.specs.Layout.{entry_at}
use Rattle.entries.specs.Decoded.{records_of, known_bids}
use Rattle.marking.specs.States.{states_of}
use Rattle.open.specs.Lending.{Lending}
use Rattle.places.specs.Places.{known_len, record_len}

-- The records of the table; each as read, its state for partner p, and the bytes where it stands.
abbrev pub records_in : Lending → List Record
records_in L = records_of L.titles L.names L.bodies L.table

abbrev pub record_in : Lending → ℕ → Record
record_in L i = record_at (records_in L) i

abbrev pub state_in : Lending → ℕ → ℕ → ℕ
state_in L p i = get_or (states_of p L.table) i 0

abbrev pub record_bytes : Lending → ℕ → Bytes
record_bytes L i = entry_at record_len L.table i

-- The known BIDs, each as read, and the bytes where it stands.
abbrev pub known_in : Lending → List Bytes
known_in L = known_bids L.known

abbrev pub bid_in : Lending → ℕ → Bytes
bid_in L j = get_or (known_in L) j []

abbrev pub known_bytes_in : Lending → ℕ → Bytes
known_bytes_in L j = entry_at known_len L.known j
