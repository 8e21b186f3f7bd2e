-- The loop: the first bad record of all is the first bad one from record i on.
use mathlib.Core.Path.{◌≡◌}
use Prim.Native.Nat.{◌-◌}
use Rattle.entries.specs.Decoded.{record_count}
use Rattle.open.specs.Opening.{fault_from}
use Rattle.open.proofs.table_ok.Given as goal

abbrev pub invariant-loop-i : goal.invariant-loop-i
invariant-loop-i l = fault_from l.records.table.now l.records.titles.now l.records.names.now l.records.bodies.now 0 (record_count l.records.table.now) ≡ fault_from l.records.table.now l.records.titles.now l.records.names.now l.records.bodies.now l.i (record_count l.records.table.now - l.i)
