-- A byte of the array, or none.
use mathlib.Core.Path.{◌∙◌, ap}
use Prim.Native.Nat.{ℕ, ◌+◌}
use Rattle.layout.specs.Layout.{byte_at}
use Rattle.places.specs.Places.{signs_at}
use Rattle.session_memory.specs.State.{load_of, load_say}
use Rattle.form_test.proofs.Laws.{sign_read, sign_none}
use Rattle.form_test.proofs.sign_at.Goals as goal

pub returns-then-i-lt-BLOCK_LIMIT : goal.returns-then-i-lt-BLOCK_LIMIT
unfolding load_of load_say
returns-then-i-lt-BLOCK_LIMIT c = let a = c.args in ap (λ (k : ℕ). byte_at a.sm.now (signs_at + 1 + k)) c.wide.ensures.0 ∙ sign_read a.sm.now a.i c.requires c.if-i-lt-BLOCK_LIMIT.true

pub returns : goal.returns
unfolding load_of load_say
returns c = sign_none c.args.sm.now c.args.i c.if-i-lt-BLOCK_LIMIT.false
