-- What waits for give, piece by piece: the first piece, which may be empty, then each line or transfer after it. Put together they are
-- `waiting_of` (proofs/Pieces).
use Rattle.std.specs.Prelude.{cond, List, [], ◌∷◌, ◌++◌, ℕ, ◌+◌, eqb}
use Rattle.grammar.specs.Bytes.{Bytes}
use Rattle.grammar.specs.Turns.{fixed_text, with_cr, proposal_line, our_ff, our_fq, our_end}
use Rattle.mail.specs.Mail.{transfer_of}
use Rattle.layout.specs.Layout.{entry_at, record_of}
use Rattle.session_memory.specs.State.{held}
use Rattle.session_memory.specs.Session.{Session}
use Rattle.phase.specs.Phase.{piece_none, piece_ff, piece_fq, piece_block}
use Rattle.waiting.specs.Waiting.{table_proposal, first_text}
use Rattle.places.specs.Places.{record_len}

unfoldable pub pieces_joined : List Bytes → Bytes
pieces_joined [] = []
pieces_joined (p ∷ ps) = p ++ pieces_joined ps

-- the proposals of the records at these places, and `F>`
unfoldable pub block_pieces : Bytes → List ℕ → List Bytes
block_pieces table [] = with_cr (fixed_text our_end) ∷ []
block_pieces table (i ∷ is) = with_cr (proposal_line (table_proposal table i)) ∷ block_pieces table is

-- the transfers of the records at these places
unfoldable pub sending_pieces : Bytes → Bytes → Bytes → Bytes → List ℕ → List Bytes
sending_pieces table titles names bodies [] = []
sending_pieces table titles names bodies (i ∷ is) =
    transfer_of (record_of titles names bodies (entry_at record_len table i)) ∷ sending_pieces table titles names bodies is

-- the pieces after the first, by this number
unfoldable pub then_pieces : ℕ → Session → Bytes → Bytes → Bytes → Bytes → List Bytes
then_pieces n s table titles names bodies =
    cond (eqb n piece_none) []
    (cond (eqb n piece_ff) (with_cr (fixed_text our_ff) ∷ [])
    (cond (eqb n piece_fq) (with_cr (fixed_text our_fq) ∷ [])
    (cond (eqb n piece_block) (block_pieces table (held s.now.ours))
    (sending_pieces table titles names bodies (held s.keep.sending)))))

-- The first piece is always there; so many pieces are it and `FF`, `FQ` or `F>`.
abbrev pub first_piece : ℕ
first_piece = 1

abbrev pub first_and_line : ℕ
first_and_line = first_piece + 1

-- ALL PIECES THAT WAIT
unfoldable pub pieces_of : Session → Bytes → Bytes → Bytes → Bytes → List Bytes
pieces_of s table titles names bodies = first_text s ∷ then_pieces s.say.then s table titles names bodies
