-- One law for each answer.
use Rattle.page_whence.proofs.Laws.{no_name, no_space, name_is}
use Rattle.page_whence.proofs.name_in.Goals as goal

pub returns-then-byte_at-ne34 : goal.returns-then-byte_at-ne34
returns-then-byte_at-ne34 c = no_name c.args.line.now c.args.at c.requires _ c.byte_at.ensures c.if-byte_at-ne34.true

pub returns-then-byte_at-ne32 : goal.returns-then-byte_at-ne32
returns-then-byte_at-ne32 c = no_space c.args.line.now c.args.at c.requires _ c.byte_at.ensures c.if-byte_at-ne34.false _ c.quoted_at-quoted.ensures _ c.byte_at-2.ensures c.if-byte_at-ne32.true

pub returns : goal.returns
returns c = name_is c.args.line.now c.args.at c.requires _ c.byte_at.ensures c.if-byte_at-ne34.false _ c.quoted_at-quoted.ensures _ c.byte_at-2.ensures c.if-byte_at-ne32.false
