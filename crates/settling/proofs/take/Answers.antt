-- Marks first, then our turn, if it is.
use mathlib.Core.Path.{refl, sym}
use native.Mathlib.Omega.{arith}
use lib.Seq.{length-take-le}
use Rattle.places.specs.Places.{heading_at}
use Rattle.numbers.specs.Whole.{await_of, arrays_in, whole_of}
use Rattle.line_effect.specs.Judge.{judged}
use Rattle.settling.proofs.Laws.{spoken_by, settle_yes, tallied_are}
use Rattle.settling.proofs.take.Goals as goal

pub slice_bounds-speak-end : goal.slice_bounds-speak-end
slice_bounds-speak-end c = sym (length-take-le heading_at c.args.mem.now (omega (arith, c.requires)))

pub returns : goal.returns
unfolding whole_of
returns c =
    let a = c.args in
    let j = judged 0 a.speaks a.marks (whole_of a.s.now a.mem.now) in
    settle_yes j a.after_cr a.table.now (whole_of c.after_line.new.s a.mem.now) _ _ refl c.mark_all.ensures
    (spoken_by a.speaks a.marks a.s.now a.after_cr a.mem.now _ c.speak.ensures c.after_line.ensures)
    (tallied_are j (await_of c.after_line.new.s.now (arrays_in a.mem.now)) _ c.mark_sheet.ensures (c.proposes.ensures (arrays_in a.mem.now)) c.note_proposed.ensures c.recount.ensures)
