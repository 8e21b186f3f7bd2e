-- The loop: the first bad record of all is the first bad one from record i on.
use mathlib.Core.Path.{sym, ◌∙◌}
use native.Mathlib.Omega.{arith}
use Rattle.entries.specs.Decoded.{record_count}
use Rattle.open.specs.Opening.{table_fault}
use Rattle.open.proofs.Laws.{fault_more, fault_stop, fault_end}
use Rattle.open.proofs.table_ok.Goals as goal

pub returns-then-not-place_ok : goal.returns-then-not-place_ok
unfolding table_fault
returns-then-not-place_ok c =
    let a = c.args in
    let e = fault_stop a.records.now.table.now a.records.now.titles.now a.records.now.names.now a.records.now.bodies.now _ (record_count a.records.now.table.now) (omega arith) c.place_ok.ensures c.if-not-place_ok.true-raw ∙ sym c.loop-i.invariant in
    (e, λ f. omega (arith, e, f))

pub loop-i-preserved : goal.loop-i-preserved
loop-i-preserved c =
    let a = c.args in
    c.loop-i.invariant ∙ fault_more a.records.now.table.now a.records.now.titles.now a.records.now.names.now a.records.now.bodies.now _ (record_count a.records.now.table.now) (omega arith) c.place_ok.ensures c.if-not-place_ok.false-raw

pub returns : goal.returns
unfolding table_fault
returns c =
    let a = c.args in
    c.loop-i.invariant ∙ sym (fault_end a.records.now.table.now a.records.now.titles.now a.records.now.names.now a.records.now.bodies.now _ (record_count a.records.now.table.now) (omega arith))
