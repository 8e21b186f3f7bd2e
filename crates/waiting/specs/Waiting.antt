-- What waits for give, as pieces: a first one and one after it. The bytes themselves are not kept, but written anew from the table and
-- its stores at each give.
use Rattle.std.specs.Prelude.{cond, List, [], ◌∷◌, ◌++◌, map, ℕ, eqb}
use Rattle.grammar.specs.Bytes.{Bytes}
use Rattle.grammar.specs.Turns.{fixed_text, with_cr, our_sid, our_prompt, our_ff, our_fq, protocol_error, checksum_error, Proposal}
use Rattle.mail.specs.Mail as mail
use Rattle.mail.specs.Mail.{turn_text}
use Rattle.layout.specs.Layout.{entry_at, record_of}
use Rattle.phase.specs.Phase.{piece_none, piece_sid_and_prompt, piece_sid, piece_protocol_error, piece_checksum_error, piece_ff, piece_fq, piece_block}
use Rattle.places.specs.Places.{record_len}
use Rattle.our_line.specs.Lines.{fs_text}
use Rattle.session_memory.specs.State.{held}
use Rattle.session_memory.specs.Session.{Session}

-- The proposal of the record at a place of the table.
abbrev pub table_proposal : Bytes → ℕ → Proposal
table_proposal table i = mail.proposal_of (record_of [] [] [] (entry_at record_len table i))

-- What is said first by this number; any without a name of its own: the FS line of our signs
abbrev pub first_by : ℕ → Session → Bytes
first_by n s =
    cond (eqb n piece_none) []
    (cond (eqb n piece_sid_and_prompt) (with_cr (fixed_text our_sid) ++ with_cr (fixed_text our_prompt))
    (cond (eqb n piece_sid) (with_cr (fixed_text our_sid))
    (cond (eqb n piece_protocol_error) (with_cr (fixed_text protocol_error))
    (cond (eqb n piece_checksum_error) (with_cr (fixed_text checksum_error))
    (fs_text (held s.say.signs))))))

unfoldable pub first_text : Session → Bytes
first_text s = first_by s.say.first s

-- "one to five proposals and `F>`"
unfoldable pub block_text : Bytes → List ℕ → Bytes
block_text table is = turn_text (map (table_proposal table) is)

-- The transfers of the records at these places, in order.
unfoldable pub sending_text : Bytes → Bytes → Bytes → Bytes → List ℕ → Bytes
sending_text table titles names bodies [] = []
sending_text table titles names bodies (i ∷ is) =
    mail.transfer_of (record_of titles names bodies (entry_at record_len table i)) ++ sending_text table titles names bodies is

-- What is said after it by this number; any without a name of its own: the transfers of the records being sent
abbrev pub then_by : ℕ → Session → Bytes → Bytes → Bytes → Bytes → Bytes
then_by n s table titles names bodies =
    cond (eqb n piece_none) []
    (cond (eqb n piece_ff) (with_cr (fixed_text our_ff))
    (cond (eqb n piece_fq) (with_cr (fixed_text our_fq))
    (cond (eqb n piece_block) (block_text table (held s.now.ours))
    (sending_text table titles names bodies (held s.keep.sending)))))

unfoldable pub then_text : Session → Bytes → Bytes → Bytes → Bytes → Bytes
then_text s table titles names bodies = then_by s.say.then s table titles names bodies

-- All that waits, given bytes included.
unfoldable pub waiting_of : Session → Bytes → Bytes → Bytes → Bytes → Bytes
waiting_of s table titles names bodies = first_text s ++ then_text s table titles names bodies
