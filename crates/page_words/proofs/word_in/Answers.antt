use Rattle.page_words.proofs.Laws.{word_there}
use Rattle.page_words.proofs.word_in.Goals as goal

pub returns : goal.returns
returns c = word_there c.args.line.now c.args.at _ c.word_at.ensures c.requires
