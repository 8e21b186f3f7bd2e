-- The state with one part of it changed, the value first, so that changes chain. Projections of them compute, so no law is needed.
use Rattle.std.specs.Prelude.{Bool, ℕ}
use Rattle.grammar.specs.Bytes.{Bytes}
use Rattle.transfer_step.specs.declared.Reader.{Reader}
use Rattle.session_memory.specs.declared.Five.{Five}
use Rattle.session_memory.specs.Session.{Await}
use Rattle.session_memory.specs.declared.Say.{Say}
use Rattle.session_memory.specs.declared.Terms.{Terms}
use Rattle.session_memory.specs.declared.Tally.{Tally}
use Rattle.session_memory.specs.Session.{Keep}
use Rattle.session_memory.specs.Session.{Reading}
use Rattle.session_memory.specs.Session.{Line}
use Rattle.session_memory.specs.Session.{Session}

-- ---------------------------------------------------------------- what is awaited

abbrev pub with_phase : ℕ → Await → Await
with_phase x w = record { phase = x; ff = w.ff; current = w.current; proposals = w.proposals; ours = w.ours; sum = w.sum; block = w.block }

abbrev pub with_ff : Bool → Await → Await
with_ff x w = record { phase = w.phase; ff = x; current = w.current; proposals = w.proposals; ours = w.ours; sum = w.sum; block = w.block }

abbrev pub with_current : ℕ → Await → Await
with_current x w = record { phase = w.phase; ff = w.ff; current = x; proposals = w.proposals; ours = w.ours; sum = w.sum; block = w.block }

-- how many there are, and where they stand
abbrev pub with_proposals : ℕ → Bytes → Await → Await
with_proposals x b w = record { phase = w.phase; ff = w.ff; current = w.current; proposals = x; ours = w.ours; sum = w.sum; block = b }

abbrev pub with_ours : Five → Await → Await
with_ours x w = record { phase = w.phase; ff = w.ff; current = w.current; proposals = w.proposals; ours = x; sum = w.sum; block = w.block }

-- the sum of the lines of the partner's proposals
abbrev pub with_sum : ℕ → Await → Await
with_sum x w = record { phase = w.phase; ff = w.ff; current = w.current; proposals = w.proposals; ours = w.ours; sum = x; block = w.block }

-- ---------------------------------------------------------------- what waits for give

abbrev pub with_first : ℕ → Say → Say
with_first x y = record { first = x; then = y.then; pos = y.pos; signs = y.signs }

abbrev pub with_then : ℕ → Say → Say
with_then x y = record { first = y.first; then = x; pos = y.pos; signs = y.signs }

abbrev pub with_pos : ℕ → Say → Say
with_pos x y = record { first = y.first; then = y.then; pos = x; signs = y.signs }

abbrev pub with_signs : Five → Say → Say
with_signs x y = record { first = y.first; then = y.then; pos = y.pos; signs = x }

-- ---------------------------------------------------------------- what is kept, sent and deferred

abbrev pub with_framed : Bool → Keep → Keep
with_framed x k = record { framed = x; terms = k.terms; kept = k.kept; used = k.used; sending = k.sending; deferred = k.deferred }

-- what is settled with this partner
abbrev pub with_terms : Terms → Keep → Keep
with_terms x k = record { framed = k.framed; terms = x; kept = k.kept; used = k.used; sending = k.sending; deferred = k.deferred }

-- the level in force, and nothing else of the terms
abbrev pub with_level : ℕ → Keep → Keep
with_level x k = with_terms (record { level = x; partner = k.terms.partner }) k

-- how many messages, and how many store bytes they use
abbrev pub with_kept : ℕ → ℕ → Keep → Keep
with_kept x u k = record { framed = k.framed; terms = k.terms; kept = x; used = u; sending = k.sending; deferred = k.deferred }

-- the records being sent, and the flags of the deferred ones
abbrev pub with_sending : Five → Bytes → Keep → Keep
with_sending x flags k = record { framed = k.framed; terms = k.terms; kept = k.kept; used = k.used; sending = x; deferred = flags }

-- ---------------------------------------------------------------- the transfer and the line under way

abbrev pub with_reader : Reader → Reading → Reading
with_reader x r = record { reader = x; heading = r.heading }

-- so many bytes of a line, these
abbrev pub with_bytes : ℕ → Bytes → Line → Line
with_bytes x bytes l = record { after_cr = l.after_cr; len = x; bytes = bytes }

-- an LF now is dropped, or not
abbrev pub with_after_cr : Bool → Line → Line
with_after_cr x l = record { after_cr = x; len = l.len; bytes = l.bytes }

-- ---------------------------------------------------------------- the session

abbrev pub with_now : Await → Session → Session
with_now x s = record { now = x; say = s.say; keep = s.keep; reading = s.reading; line = s.line; tally = s.tally }

abbrev pub with_say : Say → Session → Session
with_say x s = record { now = s.now; say = x; keep = s.keep; reading = s.reading; line = s.line; tally = s.tally }

abbrev pub with_keep : Keep → Session → Session
with_keep x s = record { now = s.now; say = s.say; keep = x; reading = s.reading; line = s.line; tally = s.tally }

abbrev pub with_reading : Reading → Session → Session
with_reading x s = record { now = s.now; say = s.say; keep = s.keep; reading = x; line = s.line; tally = s.tally }

abbrev pub with_line : Line → Session → Session
with_line x s = record { now = s.now; say = s.say; keep = s.keep; reading = s.reading; line = x; tally = s.tally }

-- what is counted
abbrev pub with_tally : Tally → Session → Session
with_tally x s = record { now = s.now; say = s.say; keep = s.keep; reading = s.reading; line = s.line; tally = x }
