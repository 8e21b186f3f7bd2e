-- The bracket, and what follows it (`sid_by`).
use borrow.Author.Tests.{eq-eqb, ne_eqb}
use Rattle.sid.proofs.Laws.{sid_empty, sid_by}
use Rattle.sid.proofs.sid_features.Goals as goal

pub returns-in-len1-up : goal.returns-in-len1-up
returns-in-len1-up c = rw (sid_by c.args.line.now c.in-len1-up.len_at_least, eq-eqb _ _ c.if-first-eq91.true) c.read_author.ensures

pub returns-in_default : goal.returns-in_default
returns-in_default c = sid_empty c.args.line.now c.in_default.len_below

pub returns-in_default-2 : goal.returns-in_default-2
returns-in_default-2 c = rw (sid_by c.args.line.now c.in-len1-up.len_at_least, ne_eqb _ _ c.if-first-eq91.false)
