-- The loop's invariant: what k messages from i on use, each at most 65,535.
use Prim.Native.Nat.{◌≤◌, ◌*◌}
use mathlib.Core.Path.{◌≡◌}
use Rattle.form_test.specs.Form.{used_from}
use Rattle.grammar.specs.Fields.{body_max}
use Rattle.form_test.proofs.used_from.Given as goal

abbrev pub invariant-loop-k : goal.invariant-loop-k
invariant-loop-k l = (l.used ≤ body_max * l.k) × (l.used ≡ used_from l.inbox l.i l.k)
