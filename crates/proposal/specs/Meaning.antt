-- The answers of the readers of a turn's lines.
use Rattle.std.specs.Prelude.{◌≡◌, Bool, false, cond, ◌&&◌, List, [], ◌∷◌, map, ℕ, ◌+◌, ◌≤◌, eqb, length}
use Rattle.std.proofs.Math.Option.{Option, none, some}
use Rattle.std.specs.Prelude as std
use Rattle.grammar.specs.Bytes.{Bytes, same}
use Rattle.grammar.specs.Fields.{Form, file, form_number, form_is, upper, words, is_call, is_at, is_bid}
use Rattle.grammar.specs.Turns as turns
use Rattle.span.specs.Places.{part, Lies}
use Rattle.proposal.specs.declared.Proposal.{Proposal}
use Rattle.proposal.specs.declared.TurnLine.{TurnLine}
use Rattle.proposal.specs.declared.Seven.{Seven}

-- ---------------------------------------------------------------- what a caller gets

-- A proposal as read, by the places of its fields in the line.
abbrev pub proposal_is : Bytes → Proposal → turns.Proposal
proposal_is l p =
    record { form = form_is p.form; type = p.kind; from = part l p.from; at = part l p.at; to = part l p.to; bid = part l p.bid; size = p.size }

-- A proposal that is read, or none.
abbrev pub proposal_said : Bytes → std.Option Proposal → Option turns.Proposal
proposal_said l (std.Some p) = some (proposal_is l p)
proposal_said l std.None = none

-- F> with a checksum, or with none.
abbrev pub end_is : std.Option ℕ → turns.TurnLine
end_is (std.Some h) = turns.ends_summed h
end_is std.None = turns.ends_block

-- What each answer says in the words of the grammar, whose `turn_line_number` gives 01's number.
abbrev pub turn_line_is : Bytes → TurnLine → turns.TurnLine
turn_line_is l TurnLine.FF = turns.says_ff
turn_line_is l TurnLine.FQ = turns.says_fq
turn_line_is l (TurnLine.End check) = end_is check
turn_line_is l TurnLine.NotAllowed = turns.not_allowed
turn_line_is l (TurnLine.Proposed p) = turns.proposes (proposal_is l p)

-- The form is one of 01's three numbers, and the fields lie in the line.
pub record ProposalLies (l : Bytes) (p : Proposal) : Type 0 where
  pub form : p.form ≤ form_number file
  pub from : Lies l p.from
  pub at : Lies l p.at
  pub to : Lies l p.to
  pub bid : Lies l p.bid

-- So it is with a proposal that is answered.
abbrev pub LiesIn : Bytes → TurnLine → Type 0
LiesIn l TurnLine.FF = Unit {0}
LiesIn l TurnLine.FQ = Unit {0}
LiesIn l (TurnLine.End check) = Unit {0}
LiesIn l TurnLine.NotAllowed = Unit {0}
LiesIn l (TurnLine.Proposed p) = ProposalLies l p

-- ---------------------------------------------------------------- on the way there

-- The bytes are this word, in either case; the word is given in capitals.
abbrev pub is_word : Bytes → Bytes → Bool
is_word word s = same (map upper s) word

-- "Seven fields .. letters, type, from, at, to, BID, size"
abbrev pub field_count : ℕ
field_count = 7

-- "F> HH": `F>`, a space, and two digits
abbrev pub end_length : ℕ
end_length = 3

abbrev pub summed_length : ℕ
summed_length = end_length + 2

-- The form that form_of answers.
abbrev pub form_by : std.Option ℕ → Option Form
form_by (std.Some n) = some (form_is n)
form_by std.None = none

-- The seven fields lie in the line.
pub record SevenLie (l : Bytes) (w : Seven) : Type 0 where
  pub letters : Lies l w.letters
  pub kind : Lies l w.kind
  pub from : Lies l w.from
  pub at : Lies l w.at
  pub to : Lies l w.to
  pub bid : Lies l w.bid
  pub size : Lies l w.size

-- The seven words by their places.
abbrev pub words_of : Bytes → Seven → List Bytes
words_of l w =
    part l w.letters ∷ part l w.kind ∷ part l w.from ∷ part l w.at ∷ part l w.to ∷ part l w.bid ∷ part l w.size ∷ []

-- The words of the line are these seven, or they are not seven.
abbrev pub SplitIs : Bytes → std.Option Seven → Type 0
SplitIs l (std.Some w) = (words l ≡ words_of l w) × SevenLie l w
SplitIs l std.None = eqb (length (words l)) field_count ≡ false

-- From, at, to and BID obey their rules.
abbrev pub fields_hold : Bytes → Seven → Bool
fields_hold l w = (is_call (part l w.from) && is_at (part l w.at)) && (is_call (part l w.to) && is_bid (part l w.bid))

-- The proposal that seven words say.
unfoldable pub seven_by : Bool → Bytes → Seven → Option turns.Proposal
seven_by framed l w = turns.seven_read framed (words_of l w)
