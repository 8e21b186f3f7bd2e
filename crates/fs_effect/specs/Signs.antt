-- A place of our block goes to those accepted, declined or deferred, by the grammar's sign of its byte.
use Rattle.std.proofs.Math.Option.{Option, none, some}
use Rattle.std.specs.Prelude.{[], ◌∷◌, ◌++◌, ℕ, ◌<◌}
use Rattle.grammar.specs.Answers.{Sign, accept, decline, defer, sign_of}
use Rattle.phase.specs.Phase.{block_limit}
use Rattle.session_memory.specs.State.{held, five_of}
use Rattle.session_memory.specs.declared.Five.{Five}
use Rattle.five.specs.Filled.{Filled}
use Rattle.fs_effect.specs.declared.Answered.{Answered}

-- There is room for one place more.
abbrev pub RoomForOne : Five → Type 0
RoomForOne f = Filled f × (f.count < block_limit)

-- One place more.
abbrev pub with_place : Five → ℕ → Five
with_place f x = five_of (held f ++ (x ∷ []))

-- "`+` accept, `-` decline, `=` defer"; what is no sign answers nothing
abbrev pub placed : Answered → Option Sign → ℕ → Answered
placed a none x = a
placed a (some accept) x = record { accepted = with_place a.accepted x; declined = a.declined; deferred = a.deferred }
placed a (some decline) x = record { accepted = a.accepted; declined = with_place a.declined x; deferred = a.deferred }
placed a (some defer) x = record { accepted = a.accepted; declined = a.declined; deferred = with_place a.deferred x }

unfoldable pub answered_by : Answered → ℕ → ℕ → Answered
answered_by a b x = placed a (sign_of b) x
