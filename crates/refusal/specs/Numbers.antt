-- Each refusal's number, by the grammar's names.
use Rattle.std.specs.Prelude.{ℕ}
use Rattle.grammar.specs.Refusals as numbers
use Rattle.refusal.specs.declared.Refusal.{Refusal}

abbrev pub refusal_number : Refusal → ℕ
refusal_number Refusal.BadMemory = numbers.bad_memory
refusal_number Refusal.LineTooLong = numbers.line_too_long
refusal_number Refusal.NotSid = numbers.not_sid
refusal_number Refusal.NoForwarding = numbers.no_forwarding
refusal_number Refusal.LineNotAllowed = numbers.line_not_allowed
refusal_number Refusal.ProposalCount = numbers.proposal_count
refusal_number Refusal.BadAnswer = numbers.bad_answer
refusal_number Refusal.BadTransfer = numbers.bad_transfer
refusal_number Refusal.BadChecksum = numbers.bad_checksum
refusal_number Refusal.StoreFull = numbers.store_full
refusal_number Refusal.BytesWait = numbers.bytes_wait
refusal_number Refusal.SessionEnded = numbers.session_ended
refusal_number Refusal.WrongBlockSum = numbers.wrong_block_sum
