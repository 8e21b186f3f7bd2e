-- One message more.
use native.Mathlib.Omega.{arith}
use borrow.Author.Rules.{rules}
use Rattle.form_test.proofs.Laws.{used_more}
use Rattle.form_test.proofs.used_from.Goals as goal

pub loop-k-preserved : goal.loop-k-preserved
loop-k-preserved c = let l = c.loop-k in let a = c.args in (search rules, used_more a.inbox.now a.i l.k _ l.used _ (omega (arith, c.wide.ensures.0)) l.invariant.1 c.body_length-used.ensures.0)
