-- "A record's state becomes one state a partner, 0 to 7": where the table has it, read and set. Column p is what the records hold for partner p. Others
-- cite the laws of crates/marking/proofs, not the place.
use Rattle.std.specs.Prelude.{◌≡◌, List, [], ◌∷◌, ℕ, suc, ◌+◌, ◌*◌, ◌%◌, length, set}
use Rattle.grammar.specs.Bytes.{Bytes}
use Rattle.layout.specs.Layout.{byte_at, state_place, state_for}
use Rattle.entries.specs.Decoded.{entries, record_count}
use Rattle.places.specs.Places.{record_len}

-- The table's states for partner p, a state a record.
unfoldable pub states_of : ℕ → Bytes → List ℕ
states_of p table = entries (state_for p) record_len table (record_count table)

-- Byte i of the table is a state for partner p.
abbrev pub InColumn : ℕ → ℕ → Type 0
InColumn p i = i % record_len ≡ state_place p

-- Record i gets this state for partner p.
unfoldable pub set_state : ℕ → Bytes → ℕ → ℕ → Bytes
set_state p table i v = set table (i * record_len + state_place p) v

-- The records at these places get this state for partner p; "Nothing else in the table changes."
abbrev pub mark_all : ℕ → List ℕ → ℕ → Bytes → Bytes
mark_all p [] v table = table
mark_all p (i ∷ is) v table = mark_all p is v (set_state p table i v)

-- The table with these states for partner p, from the record at place i on.
abbrev pub with_states_from : ℕ → ℕ → List ℕ → Bytes → Bytes
with_states_from p i [] table = table
with_states_from p i (v ∷ vs) table = with_states_from p (suc i) vs (set_state p table i v)

-- "the table is as open found it but with the log's states"
unfoldable pub with_states : ℕ → List ℕ → Bytes → Bytes
with_states p states table = with_states_from p 0 states table

-- A table of whole records.
abbrev pub Whole : Bytes → Type 0
Whole t = length t ≡ record_count t * record_len

-- Of two tables: only states for partner p may differ.
pub record StatesOnly (p : ℕ) (was is : Bytes) : Type 0 where
  pub size : length is ≡ length was
  pub bytes : (i : ℕ) → (InColumn p i → ⊥) → byte_at is i ≡ byte_at was i
