-- "the other seven columns come out of any session unaltered": what a call leaves of the table, whatever the memory means.
use Rattle.std.specs.Prelude.{◌≡◌, ℕ}
use Rattle.session_memory.specs.Session.{Session}
use Rattle.marking.specs.States.{StatesOnly}
use Rattle.receive_defined.specs.Receiving.{Cs}

-- The partner that the state names.
abbrev pub partner_of : Session → ℕ
partner_of s = s.keep.terms.partner

-- From c to d the partner is the same, and only states for that partner have changed in the table.
pub record OneColumn (c d : Cs) : Type 0 where
  pub partner : partner_of d.session ≡ partner_of c.session
  pub table : StatesOnly (partner_of c.session) c.table d.table
