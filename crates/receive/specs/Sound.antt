-- The facts of the form test hold of a state and the lent bytes, whatever the sizes and the stores that no call changes.
use Rattle.std.specs.Prelude.{ℕ}
use Rattle.receive_defined.specs.Receiving.{Cs}
use Rattle.form_closed.specs.Fixed.{Fixed}
use Rattle.form_closed.specs.Facts.{Good}

pub record FormHolds (c : Cs) : Type 0 where
  pub fixed : Fixed
  pub table : ℕ
  pub inbox : ℕ
  pub store : ℕ
  pub good : Good fixed table inbox store c
