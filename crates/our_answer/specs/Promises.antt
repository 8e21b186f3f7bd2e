-- For the functions within: what is promised in a block so far.
use Rattle.std.specs.Prelude.{◌≡◌, Bool, not, ◌||◌, List, [], ◌∷◌, ℕ, ◌+◌, ◌-◌, ◌≤◌, ltb}
use Rattle.grammar.specs.Bytes.{Bytes}
use Rattle.grammar.specs.Turns.{Proposal}
use Rattle.grammar.specs.Fields.{body_max}
use Rattle.phase.specs.Phase.{block_limit}
use Rattle.session.specs.Choices.{announced}
use Rattle.layout.specs.Layout.{entry_at, proposal_in}
use Rattle.session_memory.specs.State.{held}
use Rattle.five.specs.Filled.{Filled}
use Rattle.our_answer.specs.declared.Promised.{Promised}
use Rattle.places.specs.Places.{proposal_len}

-- The proposals at these places of a block.
abbrev pub block_proposals : Bytes → List ℕ → List Proposal
block_proposals block [] = []
block_proposals block (i ∷ is) = proposal_in (entry_at proposal_len block i) ∷ block_proposals block is

-- "accepted earlier in this block"
abbrev pub promised_in : Bytes → Promised → List Proposal
promised_in block p = block_proposals block (held p.places)

-- The sizes promised are counted right, and the free bytes of the store hold them.
pub record Promises (block : Bytes) (free : ℕ) (p : Promised) : Type 0 where
  pub filled : Filled p.places
  pub few : p.places.count ≤ block_limit
  pub sum : announced (promised_in block p) ≡ p.bytes
  pub room : p.bytes ≤ free

-- "over 65,535, or over the free store less the sizes accepted in this block, or no inbox place is free for it", in numbers
abbrev pub no_room_by : ℕ → ℕ → ℕ → ℕ → Promised → Bool
no_room_by size free places kept p =
    ltb body_max size || (ltb (free - p.bytes) size || not (ltb (kept + p.places.count) places))
