-- Our turn, on lent memory. No choice depends on titles, names and bodies, so these are left out.
use Rattle.std.specs.Prelude.{Bool, true, cond, [], eqb, ℕ}
use Rattle.grammar.specs.Bytes.{Bytes}
use Rattle.session.specs.Choices.{chosen}
use Rattle.phase.specs.Phase.{phase_leaving, piece_ff, piece_fq, piece_block, not_our_turn, our_turn_after_ff}
use Rattle.session_memory.specs.State.{five_of}
use Rattle.session_memory.specs.declared.Five.{Five}
use Rattle.session_memory.specs.Session.{Session}
use Rattle.session_memory.specs.Setters.{with_now, with_say}
use Rattle.entries.specs.Decoded.{records_of}
use Rattle.marking.specs.States.{states_of}
use Rattle.line_effect.specs.Judge.{in_phase, to_turn, to_answer, says_then}

-- The places of the records that we propose to this partner now.
unfoldable pub choose_of : ℕ → Bytes → Bool → Bytes → Five
choose_of partner table framed deferred = five_of (chosen (records_of [] [] [] table) framed (states_of partner table) deferred)

-- Our turn with these records: what we await after it, and what we say in it. speaks: which turn it is (crates/phase, `our_turn` and so on)
abbrev pub speaking : Five → ℕ → Session → Session
speaking places speaks s =
    cond (eqb places.count 0)
    (cond (eqb speaks our_turn_after_ff) (with_now (in_phase phase_leaving s.now) (with_say (says_then piece_fq s.say) s)) (with_now (to_turn true s.now) (with_say (says_then piece_ff s.say) s)))
    (with_now (to_answer places s.now) (with_say (says_then piece_block s.say) s))

-- What was judged says whether it is our turn, and which; where it isn't, we say nothing more.
unfoldable pub speak_of : ℕ → Session → Bytes → Session
speak_of speaks s table =
    cond (eqb speaks not_our_turn) s (speaking (choose_of s.keep.terms.partner table s.keep.framed s.keep.deferred) speaks s)
