use Rattle.std.proofs.Common.{ap, ◌∙◌, ◌+◌}
use Rattle.route_write.proofs.Laws.{line_count}
use Rattle.route_write.proofs.OurHeader.line_length.Goals as goal

pub returns : goal.returns
returns c = rw c.len.ensures.value (line_count c.digits.result c.args.self.now.number _ c.digits.ensures c.requires)
