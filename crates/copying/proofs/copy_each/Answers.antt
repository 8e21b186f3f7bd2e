-- A byte more; at the end all n.
use Rattle.std.proofs.Common.{◌≡◌, ◌++◌, ℕ, take, drop, arith, subst}
use Rattle.copying.proofs.Laws.{copy_next}
use Rattle.copying.proofs.copy_each.Goals as goal

pub loop-i-preserved : goal.loop-i-preserved
loop-i-preserved c =
    let l = c.loop-i in
    let a = c.args in
    copy_next a.src.now a.dst.now l.dst l.i l.invariant (omega arith) (omega arith)

pub returns : goal.returns
returns c =
    let l = c.loop-i in
    let a = c.args in
    let e : l.i ≡ a.n = omega arith in
    subst (λ (m : ℕ). l.dst ≡ take m a.src.now ++ drop m a.dst.now) e l.invariant
