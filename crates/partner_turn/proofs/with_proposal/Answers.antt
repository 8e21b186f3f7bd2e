-- What the writer put is the proposal.
use Rattle.std.proofs.Common.{rules}
use Rattle.partner_turn.proofs.with_proposal.Goals as goal

pub returns : goal.returns
returns c = search (rules, c.put_proposal.ensures.puts.1)
