use Rattle.std.proofs.Common.{rules, ◌==◌, ℕ}
use Rattle.std.specs.Prelude.{not}
use Rattle.span.proofs.Places.{or_length}
use Rattle.span.proofs.spaces.Goals as goal

pub returns-clause-value : goal.returns-clause-value
returns-clause-value c = search (rules, or_length (λ (x : ℕ). not (x == 32)) c.args.line.now)
