-- What the theorems of this crate are about: lent memory that passes the form test. proofs/Closed: an accepted open leaves such memory, and a receive
-- or give that is lent such memory leaves such memory. proofs/Answers: they answer 1 exactly on memory that does not pass.
use Rattle.std.specs.Prelude.{◌≡◌, true}
use Rattle.grammar.specs.Bytes.{Bytes}
use Rattle.form_test.specs.Form.{form_of}
use Rattle.form_closed.specs.Fixed.{Fixed}
use Rattle.form_closed.specs.Facts.{Octets}

-- Lent memory of bytes that passes the form test; F: the stores and the known BIDs, which no call changes.
pub record InForm (F : Fixed) (sm table inbox store : Bytes) : Type 0 where
  pub form : form_of sm table F.titles F.names F.bodies F.known inbox store ≡ true
  pub sm_octets : Octets sm
  pub table_octets : Octets table
  pub inbox_octets : Octets inbox
  pub store_octets : Octets store
