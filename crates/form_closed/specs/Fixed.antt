-- The lent bytes that no call changes.
use Rattle.grammar.specs.Bytes.{Bytes}
use Rattle.open.specs.Lending.{Lending}

pub record Fixed : Type 0 where
  pub titles : Bytes
  pub names : Bytes
  pub bodies : Bytes
  pub known : Bytes

-- Those that open is lent.
abbrev pub fixed_of : Lending → Fixed
fixed_of L = record { titles = L.titles; names = L.names; bodies = L.bodies; known = L.known }
