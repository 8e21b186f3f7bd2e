-- One law for each answer.
use Rattle.page_whence.proofs.Laws.{no_town, town_within, town_more, town_is}
use Rattle.page_whence.proofs.town_in.Goals as goal

pub returns-then-byte_at-ne34 : goal.returns-then-byte_at-ne34
returns-then-byte_at-ne34 c = no_town c.args.line.now c.args.start c.requires _ c.byte_at.ensures c.if-byte_at-ne34.true

pub overflow_sub-line : goal.overflow_sub-line
overflow_sub-line c = town_within c.args.line.now c.args.start c.requires _ c.byte_at.ensures c.if-byte_at-ne34.false _ c.quoted_at-quoted.ensures

pub returns-then-line-town-ne1 : goal.returns-then-line-town-ne1
returns-then-line-town-ne1 c = town_more c.args.line.now c.args.start c.requires _ c.byte_at.ensures c.if-byte_at-ne34.false _ c.quoted_at-quoted.ensures c.if-line-town-ne1.true

pub returns : goal.returns
returns c = town_is c.args.line.now c.args.start c.requires _ c.byte_at.ensures c.if-byte_at-ne34.false _ c.quoted_at-quoted.ensures c.if-line-town-ne1.false
