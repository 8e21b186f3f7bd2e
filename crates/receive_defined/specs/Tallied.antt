-- 02, Q-3: what a judged line or a kept message counts, beside its marks and our turn. Refusals count nothing.
use Rattle.std.specs.Prelude.{cond, ℕ, eqb}
use Rattle.grammar.specs.Bytes.{Bytes}
use Rattle.phase.specs.Phase.{phase_fs, not_our_turn, state_forwarded, state_declined}
use Rattle.sheet.specs.declared.Sheet.{Sheet}
use Rattle.sheet.specs.Sheet.{count_proposed, count_forwarded, count_declined, count_deferred}
use Rattle.session_memory.specs.declared.Tally.{Tally}
use Rattle.session_memory.specs.Session.{Await}
use Rattle.tally.specs.Tally.{counted}
use Rattle.line_effect.specs.declared.Marks.{Marks}
use Rattle.line_effect.specs.Judged.{Judged}

-- At the end of the partner's turn what was being sent is forwarded; at its FS line so many are declined and so many deferred.
abbrev pub sheet_marked : Sheet → Marks → Sheet
sheet_marked h m =
    cond (eqb m.state state_forwarded) (count_forwarded h m.places.count)
    (cond (eqb m.state state_declined) (count_deferred (count_declined h m.places.count) m.deferred) h)

-- "Proposed counts at the received byte that our turn answers": the records on which an FS line is then awaited
abbrev pub proposes_of : ℕ → Await → ℕ
proposes_of speaks w = cond (eqb speaks not_our_turn) 0 (cond (eqb w.phase phase_fs) w.ours.count 0)

-- What waits is counted anew where records were marked.
abbrev pub recounted_of : Tally → Marks → ℕ → Bytes → Sheet → Tally
recounted_of t m partner table h = cond (eqb m.places.count 0) (record { waiting = t.waiting; sizes = t.sizes; sheet = h }) (counted partner table h)

-- After what was judged, with the table marked; w: what is awaited once it was our turn, if it was.
unfoldable pub tallied_of : Judged → Await → Bytes → Tally
tallied_of j w table =
    recounted_of j.next.tally j.marks j.next.keep.terms.partner table (count_proposed (sheet_marked j.next.tally.sheet j.marks) (proposes_of j.speaks w))
