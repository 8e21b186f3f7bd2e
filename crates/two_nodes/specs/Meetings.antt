-- MORE MEETINGS of two nodes, each whole and proved by computation (proofs/Meetings), with the bytes of both directions: a file and an empty body; a
-- record deferred for want of room, which goes in the next; a body longer than announced; a BID at both ends, spelt alike and not; mail at the called end alone; and a
-- series of three, cut in the FS line, cut in the body with the roles exchanged, and whole: the premises of the claim are met by it, one by one.
use Rattle.std.specs.Prelude.{Bool, true, false, List, [], ◌∷◌, ◌++◌, ℕ, ◌+◌, length}
use Rattle.session.specs.Sessions.{greeted}
use Rattle.grammar.specs.Bytes.{Bytes}
use Rattle.grammar.specs.Ascii.{text}
use Rattle.grammar.specs.Fields.{Form, message, file}
use Rattle.mail.specs.Mail.{Record, Message}
use Rattle.demand3.specs.Demand.{Call, receiving, giving}
use Rattle.two_nodes.specs.Fates.{message_for}
use Rattle.two_nodes.specs.Series.{Node, Meeting}
use Rattle.two_nodes.specs.Examples.{node_letter, accepts, proposes, proposes_back, packed}

-- a record of this form, BID, announced size and body
abbrev pub mail : Form → Bytes → ℕ → Bytes → Record
mail f bid size body =
    record { form = f; type = 66; from = text "A"; at = text "B"; to = text "C"; bid = bid; size = size; title = text "T"; name = text "N.X"; body = body }

abbrev pub node_with : List Record → List ℕ → Node
node_with T states = record { table = T; states = states; known = []; kept = [] }

-- who calls (true: the first), the store bytes that each is lent, and the calls at each
abbrev pub meeting_in : Bool → ℕ → ℕ → List Call → List Call → Meeting
meeting_in calls bytes_here bytes_there cs ds =
    record { calls = calls; places_here = 9; bytes_here = bytes_here; calls_here = cs; places_there = 9; bytes_there = bytes_there; calls_there = ds }

-- a transfer with this heading, these blocks and this checksum
abbrev pub transfer : Bytes → Bytes → ℕ → Bytes
transfer h blocks sum = 1 ∷ (length h + 3) ∷ (h ++ 0 ∷ 48 ∷ 0 ∷ (blocks ++ 4 ∷ sum ∷ []))

abbrev pub our_sid_line : Bytes
our_sid_line = text "[NOD-1-B1FH$]\r"

-- a node that has nothing to send
abbrev pub nothing_to_send : Node
nothing_to_send = node_with [] []

-- ---------------------------------------------------------------- a file with its name, and an empty body

abbrev pub packets : List Record
packets = mail file (text "F1") 3 (text "abc") ∷ mail message (text "E1") 0 [] ∷ []

abbrev pub sender : Node
sender = node_with packets (0 ∷ 0 ∷ [])

abbrev pub two_proposed : Bytes
two_proposed = our_sid_line ++ text "FB B A B C F1 3\rFA B A B C E1 0\rF>\r"

abbrev pub two_transfers : Bytes
two_transfers = transfer (text "N.X") (2 ∷ 3 ∷ text "abc") 218 ++ transfer (text "T") [] 0

abbrev pub packets_go : Meeting
packets_go =
    meeting_in true 99 99
    (receiving greeted ∷ giving 99 ∷ receiving (text "FS ++\r") ∷ giving 99 ∷ receiving (text "FF\r") ∷ giving 99 ∷ [])
    (giving 99 ∷ receiving two_proposed ∷ giving 99 ∷ receiving two_transfers ∷ giving 99 ∷ receiving (text "FQ\r") ∷ [])

abbrev pub packets_kept : List Message
packets_kept = message_for (mail file (text "F1") 3 (text "abc")) ∷ message_for (mail message (text "E1") 0 []) ∷ []

-- ---------------------------------------------------------------- deferred for want of room; then with room

abbrev pub one_to_send : Node
one_to_send = node_with (node_letter message (text "X1") (text "hi") ∷ []) (0 ∷ [])

-- the other end is lent a store of one byte
abbrev pub short : Meeting
short =
    meeting_in true 99 1
    (receiving greeted ∷ giving 99 ∷ receiving (text "FS =\rFF\r") ∷ giving 99 ∷ [])
    (giving 99 ∷ receiving proposes ∷ giving 99 ∷ receiving (text "FQ\r") ∷ [])

abbrev pub roomy : Meeting
roomy =
    meeting_in true 99 99
    (receiving greeted ∷ giving 99 ∷ receiving accepts ∷ giving 99 ∷ receiving (text "FF\r") ∷ giving 99 ∷ [])
    (giving 99 ∷ receiving proposes ∷ giving 99 ∷ receiving (packed (text "hi") 47) ∷ giving 99 ∷ receiving (text "FQ\r") ∷ [])

-- ---------------------------------------------------------------- a body longer than announced

-- two bytes announced, three to send
abbrev pub longer_than_said : Node
longer_than_said = node_with (node_letter message (text "X1") (text "abc") ∷ []) (0 ∷ [])

abbrev pub long_transfer : Bytes
long_transfer = transfer (text "T") (2 ∷ 3 ∷ text "abc") 218

abbrev pub says_why : Bytes
says_why = text "*** Protocol error\r"

-- the other end has the room that was announced: the third byte is refused with 10, and it says why; at the sender its line is none of a turn, 5, and the
-- sender says why too, to an end that takes nothing more
abbrev pub overrun : Meeting
overrun =
    meeting_in true 99 2
    (receiving greeted ∷ giving 99 ∷ receiving accepts ∷ giving 99 ∷ receiving says_why ∷ giving 99 ∷ [])
    (giving 99 ∷ receiving proposes ∷ giving 99 ∷ receiving long_transfer ∷ giving 99 ∷ receiving says_why ∷ giving 99 ∷ [])

-- what it took of the transfer: the refused byte is the last one
abbrev pub overrun_took : Bytes
overrun_took = 1 ∷ 4 ∷ 84 ∷ 0 ∷ 48 ∷ 0 ∷ 2 ∷ 3 ∷ text "abc"

-- the link drops in the middle of the line, which came while the sender's last bytes waited: 11, and it says nothing
abbrev pub overrun_cut : Meeting
overrun_cut =
    meeting_in true 99 2
    (receiving greeted ∷ giving 99 ∷ receiving accepts ∷ giving 11 ∷ receiving (text "*") ∷ giving 99 ∷ [])
    (giving 99 ∷ receiving proposes ∷ giving 99 ∷ receiving overrun_took ∷ giving 7 ∷ [])

-- ---------------------------------------------------------------- a BID at both ends

abbrev pub twin : Node
twin = node_with (node_letter message (text "X1") (text "no") ∷ []) (0 ∷ [])

-- each declines the other's
abbrev pub both_have : Meeting
both_have =
    meeting_in true 99 99
    (receiving greeted ∷ giving 99 ∷ receiving (text "FS -\rFA P A B C X1 2\rF>\r") ∷ giving 99 ∷ receiving (text "FQ\r") ∷ [])
    (giving 99 ∷ receiving proposes ∷ giving 99 ∷ receiving (text "FS -\rFF\r") ∷ giving 99 ∷ [])

-- a BID at both ends, spelt in small letters at the called one
abbrev pub small_twin : Node
small_twin = node_with (node_letter message (text "x1") (text "no") ∷ []) (0 ∷ [])

-- each declines the other's, and sends its own spelling
abbrev pub both_have_it : Meeting
both_have_it =
    meeting_in true 99 99
    (receiving greeted ∷ giving 99 ∷ receiving (text "FS -\rFA P A B C x1 2\rF>\r") ∷ giving 99 ∷ receiving (text "FQ\r") ∷ [])
    (giving 99 ∷ receiving proposes ∷ giving 99 ∷ receiving (text "FS -\rFF\r") ∷ giving 99 ∷ [])

-- ---------------------------------------------------------------- mail at the called end alone

abbrev pub holder : Node
holder = node_with (node_letter message (text "Y1") (text "yo") ∷ []) (0 ∷ [])

abbrev pub called_sends : Meeting
called_sends =
    meeting_in true 99 99
    (receiving greeted ∷ giving 99 ∷ receiving proposes_back ∷ giving 99 ∷ receiving (packed (text "yo") 24) ∷ giving 99 ∷ receiving (text "FQ\r") ∷ [])
    (giving 99 ∷ receiving (our_sid_line ++ text "FF\r") ∷ giving 99 ∷ receiving accepts ∷ giving 99 ∷ receiving (text "FF\r") ∷ giving 99 ∷ [])

abbrev pub yo_kept : List Message
yo_kept = message_for (node_letter message (text "Y1") (text "yo")) ∷ []

-- ---------------------------------------------------------------- cut twice in a row, and then whole

-- of the FS line two bytes come
abbrev pub cut_in_answer : Meeting
cut_in_answer =
    meeting_in true 99 99
    (receiving greeted ∷ giving 99 ∷ receiving (text "FS") ∷ [])
    (giving 99 ∷ receiving proposes ∷ giving 99 ∷ [])

-- the other end calls; of the body one byte comes
abbrev pub cut_in_body : Meeting
cut_in_body =
    meeting_in false 99 99
    (giving 99 ∷ receiving (our_sid_line ++ text "FF\r") ∷ giving 99 ∷ receiving accepts ∷ giving 99 ∷ [])
    (receiving greeted ∷ giving 99 ∷ receiving (text "FA P A B C X1 2\rF>\r") ∷ giving 99 ∷ receiving (1 ∷ 4 ∷ 84 ∷ 0 ∷ 48 ∷ 0 ∷ 2 ∷ 2 ∷ text "h") ∷ [])

abbrev pub three_meetings : List Meeting
three_meetings = cut_in_answer ∷ cut_in_body ∷ roomy ∷ []

abbrev pub hi_kept : List Message
hi_kept = message_for (node_letter message (text "X1") (text "hi")) ∷ []
