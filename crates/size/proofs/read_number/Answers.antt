use Rattle.std.proofs.Common.{◌≡◌, ◌≤◌, ◌^◌, length, arith}
use Rattle.std.proofs.Math.Nat.{pow-le-pow_right}
use Rattle.size.proofs.Laws.{most}
use Rattle.size.proofs.read_number.Goals as goal

pub returns-clause-below : goal.returns-clause-below
returns-clause-below g c =
    let m : length c.args.s.now ≤ g.row.MOST = grind arith in
    let k : 10 ^ length c.args.s.now ≤ 10 ^ g.row.MOST = pow-le-pow_right (omega arith) m in
    omega (arith, k, c.number.ensures.below)
