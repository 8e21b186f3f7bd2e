-- THE OTHER COLUMNS, on whatever memory that passes the form test, whoever wrote it, and after every list of calls: 02, "the other seven columns come out
-- of any session unaltered". The proof is proofs/Columns.
use Rattle.std.specs.Prelude.{◌≡◌, List, ℕ, ◌<◌}
use Rattle.grammar.specs.Bytes.{Bytes}
use Rattle.places.specs.Places.{partners}
use Rattle.layout.specs.Layout.{state_of}
use Rattle.session_memory.specs.State.{load_sizes}
use Rattle.marking.specs.States.{StatesOnly}
use Rattle.form_closed.specs.Fixed.{Fixed}
use Rattle.form_closed.specs.InForm.{InForm}
use Rattle.main_theorem.specs.Calls.{Lent, Call, partner_in, run}

-- Of two tables: no byte has changed but states for partner p; of every record the states for the others are what they were.
pub record Unaltered (p : ℕ) (was is : Bytes) : Type 0 where
  pub only : StatesOnly p was is
  pub others : (q : ℕ) → q < partners → (q ≡ p → ⊥) → (i : ℕ) → state_of q is i ≡ state_of q was i

-- THE CLAIM. The sizes are those that session memory has kept; p is the partner that it names.
abbrev pub ColumnsClaim : Type 0
ColumnsClaim =
    (F : Fixed) (m : Lent) → InForm F m.sm m.table m.inbox m.store → (cs : List (Call (load_sizes m.sm)))
    → Unaltered (partner_in m) m.table (run F m cs).0.table
