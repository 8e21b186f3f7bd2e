-- What a line comes to, from what its rule answers, the numbers after it and the state's arrays.
use Rattle.std.specs.Prelude.{ℕ, Result, Ok, Err}
use Rattle.grammar.specs.Bytes.{Bytes}
use Rattle.refusal.specs.Numbers.{refusal_number}
use Rattle.refusal.specs.declared.Refusal.{Refusal}
use Rattle.phase.specs.Phase.{not_our_turn, our_turn_now, our_turn_after_ff}
use Rattle.numbers.specs.declared.Numbers.{Numbers}
use Rattle.numbers.specs.Whole.{Arrays, session_of, whole_of}
use Rattle.session_memory.specs.Session.{Session}
use Rattle.line_effect.specs.declared.Turn.{Turn}
use Rattle.line_effect.specs.declared.Verdict.{Verdict}
use Rattle.line_effect.specs.Judge.{judged, refusal}
use Rattle.line_effect.specs.Judged.{Judged}

abbrev pub turn_number : Turn → ℕ
turn_number Turn.Theirs = not_our_turn
turn_number Turn.Ours = our_turn_now
turn_number Turn.OursAfterFf = our_turn_after_ff

-- A line that is refused leaves the state that is handed over here.
abbrev pub judged_as : Result Verdict Refusal → Session → Judged
judged_as (Ok v) s = judged 0 (turn_number v.turn) v.marks s
judged_as (Err why) s = refusal (refusal_number why) s

abbrev pub judged_of : Result Verdict Refusal → Numbers → Arrays → Judged
judged_of r s a = judged_as r (session_of s a)

-- m: the arrays' part of session memory
abbrev pub judged_in : Result Verdict Refusal → Numbers → Bytes → Judged
judged_in r s m = judged_as r (whole_of s m)
