-- The first accepted proposal, if there is one, by the state's number for it.
use Rattle.std.specs.Prelude.{ℕ, Option, Some, None}
use Rattle.phase.specs.Phase.{no_proposal}

abbrev pub accepted_at : Option ℕ → ℕ
accepted_at (Some i) = i
accepted_at None = no_proposal
