-- A part that goes to the end of the ten bytes.
use Rattle.std.proofs.Common.{◌-◌, drop, arith, length-drop}
use lib.Seq.{take_all}
use Rattle.grammar.specs.Fields.{decimal_digits}
use Rattle.decimal.proofs.Decimal.as_bytes.Goals as goal

pub returns : goal.returns
returns c =
    let i = c.self.inside in
    rw (← c.self.view_is) (take_all (decimal_digits - i.start) (drop i.start i.bytes) (simp length-drop (omega arith)))
