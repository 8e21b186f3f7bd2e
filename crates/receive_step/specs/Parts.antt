-- What the parts of a transfer's run leave.
use Rattle.std.specs.Prelude.{◌≡◌, ◌++◌, ℕ, take, Result}
use Rattle.grammar.specs.Bytes.{Bytes}
use Rattle.refusal.specs.declared.Refusal.{Refusal}
use Rattle.transfer_step.specs.Outcome.{ReadOutcome}
use Rattle.transfer_read.specs.declared.Fed.{Fed}
use Rattle.transfer_read.specs.Told.{outcome_of_reached}
use Rattle.numbers.specs.declared.Numbers.{Numbers}
use Rattle.numbers.specs.Whole.{whole_of}
use Rattle.receive_defined.specs.Receiving.{Cs, cs, moved, reading, transfer_moved}
use Rattle.receive_defined.specs.Portion.{transfer_fed}
use Rattle.receive_step.specs.declared.Taken.{Taken}

abbrev pub taken : Result (Unit {0}) Refusal → ℕ → Taken
taken end count = record { end = end; count = count }

-- The bytes are read: s are the numbers, m the arrays and st the store then.
pub record ReadOn (c : Cs) (bs : Bytes) (r : Fed) (s : Numbers) (m st : Bytes) : Type 0 where
  pub outcome : outcome_of_reached r.outcome ≡ (transfer_fed c bs).fed.outcome
  pub count : r.count ≡ (transfer_fed c bs).fed.count
  pub session : whole_of s m ≡ reading c.session (transfer_fed c bs).fed.reader (transfer_fed c bs).heading
  pub store : st ≡ take c.session.keep.used c.store ++ (transfer_fed c bs).store

-- 01's number, the numbers, table and inbox after what they came to; the store does not matter.
abbrev pub Leaves : ReadOutcome → Numbers → Bytes → Bytes → Bytes → ℕ → Numbers → Bytes → Bytes → Type 0
Leaves o s m table inbox n s' table' inbox' =
    (st : Bytes) → moved n (cs (whole_of s' m) table' inbox' st) ≡ transfer_moved o (whole_of s m) table inbox st
