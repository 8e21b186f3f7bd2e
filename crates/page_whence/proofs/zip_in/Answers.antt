-- One law for each answer.
use Rattle.page_whence.proofs.Laws.{no_zip, zip_is}
use Rattle.page_whence.proofs.zip_in.Goals as goal

pub returns-then-zip-at : goal.returns-then-zip-at
returns-then-zip-at c = no_zip c.args.line.now c.args.at c.requires _ c.word_at-zip.ensures c.if-zip-at.true

pub returns : goal.returns
returns c = zip_is c.args.line.now c.args.at c.requires _ c.word_at-zip.ensures c.if-zip-at.false
