-- A line that is refused says no sign.
use Rattle.std.proofs.Common.{sym, ap, ◌∙◌}
use Rattle.fs_line.specs.Answers.{number_given}
use Rattle.fs_line.proofs.Laws.{no_signs}
use Rattle.words_read.proofs.words_read_fs.Goals as goal

pub returns-in-Err : goal.returns-in-Err
returns-in-Err c =
    let e = sym (ap number_given c.in-Err.is) ∙ c.read_fs.ensures.number in
    (c.from.ensures ∙ e, no_signs c.args.level c.args.proposals c.args.line.now c.in-Err.cause e)
