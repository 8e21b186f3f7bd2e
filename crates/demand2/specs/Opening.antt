-- DEMAND 2, AT OPEN: the session right after an accepted open, in 01's words. Theorems: proofs/Opening.
use Rattle.std.specs.Prelude.{◌≡◌, Bool, true, false, List, [], ◌++◌, ℕ, ◌<◌, length, get_or}
use Rattle.grammar.specs.Ascii.{text}
use Rattle.grammar.specs.Turns.{with_cr}
use Rattle.grammar.specs.Answers.{level0}
use Rattle.session.specs.Session.{awaits_sid, a_line, Session}
use Rattle.demand2.specs.Limits.{record_limit, not_deferred}

-- caller: the role (true: 1, caller); states: those of the records, as open found them
pub record OpenExact (caller : Bool) (states : List ℕ) (s : Session) : Type 0 where
  -- "Called: we send it, CR, `>`, CR, and await the caller's SID"; "Caller: we await the SID"
  pub awaits : s.phase ≡ a_line (awaits_sid caller)
  pub called : caller ≡ false → s.out ≡ with_cr (text "[NOD-1-B1FH$]") ++ with_cr (text ">")
  pub calling : caller ≡ true → s.out ≡ []
  -- no line is begun, and no CR came after which an LF is dropped
  pub part : s.part ≡ []
  pub no_cr : s.after_cr ≡ false
  -- "each record's state, as open found it"; none is being sent, none was deferred
  pub marks : s.memory.states ≡ states
  pub sending : s.memory.sending ≡ []
  pub flag : (k : ℕ) → k < record_limit → get_or s.memory.deferred k 0 ≡ not_deferred
  pub flags : length s.memory.deferred ≡ record_limit
  -- "Its count stands in session memory, 0 once open accepts."
  pub inbox : s.memory.inbox ≡ []
  -- "a tally sheet: records proposed, forwarded, declined, deferred, .. all 0 when open accepts" (02, Q-3)
  pub proposed : s.memory.counts.proposed ≡ 0
  pub forwarded : s.memory.counts.forwarded ≡ 0
  pub declined : s.memory.counts.declined ≡ 0
  pub deferred : s.memory.counts.deferred ≡ 0
  -- "Partner has B: framed mode, .. Otherwise plain mode.": nothing is known of it yet
  pub mode : s.memory.framed ≡ false
  pub level : s.memory.terms.level ≡ level0
