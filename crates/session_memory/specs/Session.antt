-- THE SESSION'S STATE as session memory holds it: its numbers and its arrays. Records of the definitions alone: code holds the numbers by value
-- (crates/numbers) and leaves the arrays where they stand.
use Rattle.std.specs.Prelude.{Bool, ℕ}
use Rattle.grammar.specs.Bytes.{Bytes}
use Rattle.transfer_step.specs.declared.Reader.{Reader}
use Rattle.session_memory.specs.declared.Five.{Five}
use Rattle.session_memory.specs.declared.Say.{Say}
use Rattle.session_memory.specs.declared.Terms.{Terms}
use Rattle.session_memory.specs.declared.Tally.{Tally}

-- What is awaited. phase: crates/phase; ff: our turn just now was FF; ours: the records that we proposed; proposals: how many of the partner's are in
-- block; sum: of their lines as received, modulo 256; current: the one whose transfer is under way.
pub record Await : Type 0 where
  pub phase : ℕ
  pub ff : Bool
  pub current : ℕ
  pub proposals : ℕ
  pub ours : Five
  pub sum : ℕ
  pub block : Bytes

-- The mode, what else is settled with this partner, the messages kept and the store bytes that they use, the records being sent, a flag for each record deferred.
pub record Keep : Type 0 where
  pub framed : Bool
  pub terms : Terms
  pub kept : ℕ
  pub used : ℕ
  pub sending : Five
  pub deferred : Bytes

-- The transfer under way.
pub record Reading : Type 0 where
  pub reader : Reader
  pub heading : Bytes

-- The line under way; after_cr: an LF now is dropped.
pub record Line : Type 0 where
  pub after_cr : Bool
  pub len : ℕ
  pub bytes : Bytes

pub record Session : Type 0 where
  pub now : Await
  pub say : Say
  pub keep : Keep
  pub reading : Reading
  pub line : Line
  pub tally : Tally
