-- The entries of lent memory as lists.
use Rattle.std.specs.Prelude.{List, [], ◌∷◌, ℕ, zero, suc, ◌/◌, min, length}
use Rattle.grammar.specs.Bytes.{Bytes}
use Rattle.grammar.specs.Turns.{Proposal}
use Rattle.mail.specs.Mail.{Record, Message, record_limit}
use Rattle.layout.specs.Layout.{entry_at, record_of, known_of, proposal_in, message_in}
use Rattle.places.specs.Places.{entry_len, known_len, proposal_len, record_len}

-- What f makes of n entries of this size, from entry i on.
abbrev pub entries_from : {A : Type 0} → (Bytes → A) → ℕ → Bytes → ℕ → ℕ → List A
entries_from f size s i zero = []
entries_from f size s i (suc n) = f (entry_at size s i) ∷ entries_from f size s (suc i) n

abbrev pub entries : {A : Type 0} → (Bytes → A) → ℕ → Bytes → ℕ → List A
entries f size s n = entries_from f size s 0 n

-- 01, "Lent memory": the most known BIDs
abbrev pub known_limit : ℕ
known_limit = 1024

-- "0 to 64 records"; open refuses more
abbrev pub record_count : Bytes → ℕ
record_count table = min record_limit (length table / record_len)

abbrev pub known_count : Bytes → ℕ
known_count known = min known_limit (length known / known_len)

abbrev pub place_count : Bytes → ℕ
place_count inbox = length inbox / entry_len

-- The table's records, with their titles, names and bodies from three stores.
unfoldable pub records_of : Bytes → Bytes → Bytes → Bytes → List Record
records_of titles names bodies table = entries (record_of titles names bodies) record_len table (record_count table)

unfoldable pub known_bids : Bytes → List Bytes
known_bids known = entries known_of known_len known (known_count known)

-- The first n messages of the inbox, without their bodies.
unfoldable pub heads_of : Bytes → ℕ → List Message
heads_of inbox n = entries (λ (c : Bytes). message_in c []) entry_len inbox n

-- The first n proposals of a block.
unfoldable pub proposals_of : Bytes → ℕ → List Proposal
proposals_of block n = entries proposal_in proposal_len block n
