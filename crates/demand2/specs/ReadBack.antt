-- DEMAND 2, READ BACK: "A proposal or transfer that we write reads back as the same fields and the same bytes." (mission, demand 2). Written is what
-- our turn and our transfers are made of (Mail's `turn_text` and `transfers_text`); read is 01's, by whole lines and transfers. Theorems: proofs/ReadBack.
use Rattle.std.specs.Prelude.{◌≡◌, Bool, true, false, List, [], ◌≤◌, length}
use Rattle.std.proofs.Math.Option.{some}
use Rattle.grammar.specs.Bytes.{Bytes, CR, split_at}
use Rattle.grammar.specs.Fields.{Form, plain, message, file}
use Rattle.grammar.specs.Lines.{trim, is_comment}
use Rattle.grammar.specs.Turns.{proposes, read_turn_line, proposal_line, with_cr}
use Rattle.grammar.specs.Answers.{Sign, read_fs, fs_line, Level}
use Rattle.grammar.specs.Transfers.{kind_of, read_transfer}
use Rattle.mail.specs.Mail.{Record, proposal_of, transfer_of}
use Rattle.demand2.specs.Limits.{line_limit}

-- "form 0 in plain mode, 1 and 2 in framed mode": whether the mode in which such a record is proposed is framed
abbrev pub mode_of : Form → Bool
mode_of plain = false
mode_of message = true
mode_of file = true

-- "The heading of a transfer is the title for a message or the file name for a file"
abbrev pub heading_by : Form → Bytes → Bytes → Bytes
heading_by plain title name = title
heading_by message title name = title
heading_by file title name = name

-- 01, "Lines", for a line that we write with its CR: a reader cuts it at that CR and nowhere before, finds it short enough, removes nothing of it
-- and doesn't ignore it
pub record HeardWhole (line : Bytes) : Type 0 where
  pub cut : split_at CR (with_cr line) ≡ some (line, [])
  pub short : length line ≤ line_limit
  pub spaces : trim line ≡ line
  pub heeded : is_comment line ≡ false

-- "Seven fields ..: letters, type, from, at, to, BID, size"; "heading", "body": those of the record, each as it stands there
pub record ReadsBack (r : Record) : Type 0 where
  pub line : HeardWhole (proposal_line (proposal_of r))
  pub proposal : read_turn_line (mode_of r.form) (proposal_line (proposal_of r))
      ≡ proposes (record { form = r.form; type = r.type; from = r.from; at = r.at; to = r.to; bid = r.bid; size = r.size })
  pub transfer : read_transfer (kind_of r.form) (transfer_of r)
      ≡ some (record { heading = heading_by r.form r.title r.name; body = r.body })

-- "FS, one space, one sign a proposal": our answer reads back as these signs, at every level
pub record AnswerReadsBack (signs : List Sign) : Type 0 where
  pub line : HeardWhole (fs_line signs)
  pub answer : (v : Level) → read_fs v (length signs) (fs_line signs) ≡ some signs
