-- What the code's answers say in the words of Feed.
use Rattle.std.specs.Prelude.{◌≡◌, ℕ, true, false, Result, Ok, Err, Option, Some, None}
use Rattle.grammar.specs.Bytes.{Bytes}
use Rattle.transfer_step.specs.declared.Reader.{Reader}
use Rattle.transfer_step.specs.declared.Put.{Put}
use Rattle.transfer_step.specs.declared.Refused.{Refused}
use Rattle.transfer_step.specs.Names.{nowhere, to_heading, to_body}
use Rattle.transfer_step.specs.Outcome.{ReadOutcome, More, Whole}
use Rattle.transfer_step.specs.Step.{step_of}
use Rattle.transfer_step.specs.Told.{refused_as}
use Rattle.transfer_read.specs.declared.Reached.{Reached}
use Rattle.transfer_read.specs.declared.Fed.{Fed}
use Rattle.transfer_read.specs.Feed.{FedPortion, heading_put, store_put, RunsOn}

-- Where a byte goes, as a number.
abbrev pub goes_to : Put → ℕ
goes_to Put.Nowhere = nowhere
goes_to Put.Heading = to_heading
goes_to Put.Body = to_body
goes_to Put.Whole = nowhere

abbrev pub outcome_of_reached : Result Reached Refused → ReadOutcome
outcome_of_reached (Ok Reached.More) = More
outcome_of_reached (Ok Reached.Whole) = Whole
outcome_of_reached (Err why) = refused_as why

-- A portion's answer, with the reading after it.
abbrev pub fed_portion : Fed → Reader → FedPortion
fed_portion f r = record { outcome = outcome_of_reached f.outcome; reader = r; count = f.count }

-- One byte b is read: s what it comes to, hd and st the heading's array and the store before it, hd' and st' after it.
pub record ByteRead (room b : ℕ) (r r' : Reader) (o : ReadOutcome) (hd hd' st st' : Bytes) : Type 0 where
  pub outcome : o ≡ (step_of room r b).outcome
  pub reader : r' ≡ (step_of room r b).reader
  pub heading : hd' ≡ heading_put (step_of room r b).put r b hd
  pub store : st' ≡ store_put (step_of room r b).put r b st

-- All of the bytes go to the body as they come, and the answer is the reading after them; or none is read.
abbrev pub RanOn : Option Reader → Reader → Bytes → Bytes → Bytes → Type 0
RanOn (Some q) r bs st st' = RunsOn true q r bs st st'
RanOn None r bs st st' = RunsOn false r r bs st st'
