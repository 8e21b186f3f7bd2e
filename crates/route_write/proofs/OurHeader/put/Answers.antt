-- Four pieces put one after the other are the line.
use Rattle.std.proofs.Common.{◌∙◌}
use Rattle.route_write.proofs.Laws.{route_takes}
use Rattle.route_write.specs.Meaning.{ours_is}
use Rattle.decimal.proofs.Laws.{nine_digits}
use Rattle.route_write.proofs.OurHeader.put.Goals as goal

pub returns : goal.returns
returns c =
    let h = c.args.self.now in
    route_takes (ours_is h) _ _ c.stamp_text.ensures (c.as_bytes.ensures ∙ c.digits-d.ensures ∙ nine_digits h.number c.requires)
    c.put.ensures c.put-2.ensures c.put_byte.ensures c.put_line.ensures
