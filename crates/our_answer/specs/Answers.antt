-- Our answers to the proposals of a block, on lent memory. None depends on titles, names and bodies, so these are left out.
use Rattle.std.specs.Prelude.{[], map, ℕ, ◌-◌, min}
use Rattle.grammar.specs.Bytes.{Bytes}
use Rattle.grammar.specs.Answers.{write_sign}
use Rattle.session.specs.Choices.{Shelf, shelf_with, answers_to}
use Rattle.phase.specs.Phase.{block_limit}
use Rattle.session_memory.specs.State.{five_of}
use Rattle.session_memory.specs.declared.Five.{Five}
use Rattle.session_memory.specs.Session.{Await}
use Rattle.session_memory.specs.Session.{Keep}
use Rattle.entries.specs.Decoded.{records_of, known_bids, heads_of, proposals_of, place_count}

-- A shelf whose store has so many bytes left for bodies.
abbrev pub shelf_with_free : Bytes → Bytes → Bytes → ℕ → Shelf
shelf_with_free table known inbox free = shelf_with (records_of [] [] [] table) (known_bids known) (place_count inbox) free

-- The sign bytes of our answers to the proposals in the block; store: how many bytes the inbox store has
unfoldable pub answers_of : Await → Keep → Bytes → Bytes → Bytes → ℕ → Five
answers_of w k table known inbox store =
    five_of (map write_sign (answers_to (shelf_with_free table known inbox (store - k.used)) (heads_of inbox k.kept) (proposals_of w.block (min block_limit w.proposals))))
