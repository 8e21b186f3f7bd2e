-- The questions and answers of the readers as numbers, for callers from C and Rust.
use Rattle.std.specs.Prelude.{◌≡◌, Bool, not, List, [], ◌∷◌, ℕ, ◌-◌, eqb, replicate}
use Rattle.std.proofs.Math.Option.{Option, none, some}
use Rattle.std.specs.Prelude as std
use Rattle.grammar.specs.Bytes.{Bytes}
use Rattle.grammar.specs.Fields.{form_number}
use Rattle.grammar.specs.Lines.{LineByte, dropped, ends, grows, overruns}
use Rattle.grammar.specs.Sid.{no_features}
use Rattle.grammar.specs.Turns.{Proposal, TurnLine, says_ff, says_fq, ends_block, not_allowed, proposes, ends_summed, turn_line_number}
use Rattle.span.specs.declared.Span.{Span}
use Rattle.span.specs.Places.{part, Lies}
use Rattle.proposal.specs.declared.Proposal as code
use Rattle.proposal.specs.declared.TurnLine as told

-- A flag that is lent: any number but 0 says that it holds.
abbrev pub holds : ℕ → Bool
holds n = not (eqb n 0)

-- What a byte does where a line is awaited: it is dropped, it ends the line, it is one byte more, it is the 257th.
abbrev pub code_dropped : ℕ
code_dropped = 0

abbrev pub code_ends : ℕ
code_ends = 1

abbrev pub code_grows : ℕ
code_grows = 2

abbrev pub code_overruns : ℕ
code_overruns = 3

abbrev pub line_byte_code : LineByte → ℕ
line_byte_code dropped = code_dropped
line_byte_code ends = code_ends
line_byte_code grows = code_grows
line_byte_code overruns = code_overruns

-- The 27 levels of a SID; zeros where the line is none.
abbrev pub sid_levels : Option (List ℕ) → List ℕ
sid_levels none = no_features
sid_levels (some fs) = fs

-- What a line says in a turn: FF, FQ, F>, a proposal, F> with a checksum; 01's number of a line that is not allowed.
abbrev pub code_ff : ℕ
code_ff = 0

abbrev pub code_fq : ℕ
code_fq = 1

abbrev pub code_end : ℕ
code_end = 2

abbrev pub code_proposal : ℕ
code_proposal = 3

abbrev pub code_summed : ℕ
code_summed = 4

abbrev pub turn_line_code : TurnLine → ℕ
turn_line_code says_ff = code_ff
turn_line_code says_fq = code_fq
turn_line_code ends_block = code_end
turn_line_code (proposes p) = code_proposal
turn_line_code (ends_summed h) = code_summed
turn_line_code not_allowed = turn_line_number not_allowed

-- The eleven numbers of a proposal: form, type, start and end of from, at, to and BID, and size.
abbrev pub eleven : ℕ → ℕ → Span → Span → Span → Span → ℕ → List ℕ
eleven form type from at to bid size =
    form ∷ type ∷ from.start ∷ from.end ∷ at.start ∷ at.end ∷ to.start ∷ to.end ∷ bid.start ∷ bid.end ∷ size ∷ []

-- The field w lies in the line l from a start to an end.
abbrev pub FieldLies : Bytes → Bytes → Span → Type 0
FieldLies l w s = (part l s ≡ w) × Lies l s

-- The eleven numbers are those of the proposal p in the line l: its form, type and size, and where its fields lie.
pub record ProposalNumbers (l : Bytes) (p : Proposal) (out : List ℕ) : Type 0 where
  pub from : Span
  pub at : Span
  pub to : Span
  pub bid : Span
  pub numbers : out ≡ eleven (form_number p.form) p.type from at to bid p.size
  pub from_lies : FieldLies l p.from from
  pub at_lies : FieldLies l p.at at
  pub to_lies : FieldLies l p.to to
  pub bid_lies : FieldLies l p.bid bid

-- So many they are.
abbrev pub number_count : ℕ
number_count = 11

abbrev pub zeros : List ℕ
zeros = replicate number_count 0

-- A checksum behind F>, and zeros.
abbrev pub summed_numbers : ℕ → List ℕ
summed_numbers h = h ∷ replicate (number_count - 1) 0

-- The eleven numbers of what a line says: those of a proposal, a checksum, else zeros.
abbrev pub NumbersOf : Bytes → TurnLine → List ℕ → Type 0
NumbersOf l says_ff out = out ≡ zeros
NumbersOf l says_fq out = out ≡ zeros
NumbersOf l ends_block out = out ≡ zeros
NumbersOf l not_allowed out = out ≡ zeros
NumbersOf l (proposes p) out = ProposalNumbers l p out
NumbersOf l (ends_summed h) out = out ≡ summed_numbers h

-- ---------------------------------------------------------------- on the way there: the same of the code's own answer

abbrev pub proposal_numbers : code.Proposal → List ℕ
proposal_numbers p = eleven p.form p.kind p.from p.at p.to p.bid p.size

abbrev pub end_numbers : std.Option ℕ → List ℕ
end_numbers (std.Some h) = summed_numbers h
end_numbers std.None = zeros

abbrev pub end_code : std.Option ℕ → ℕ
end_code (std.Some h) = code_summed
end_code std.None = code_end

abbrev pub told_numbers : told.TurnLine → List ℕ
told_numbers told.TurnLine.FF = zeros
told_numbers told.TurnLine.FQ = zeros
told_numbers (told.TurnLine.End check) = end_numbers check
told_numbers told.TurnLine.NotAllowed = zeros
told_numbers (told.TurnLine.Proposed p) = proposal_numbers p

abbrev pub told_code : told.TurnLine → ℕ
told_code told.TurnLine.FF = code_ff
told_code told.TurnLine.FQ = code_fq
told_code (told.TurnLine.End check) = end_code check
told_code (told.TurnLine.Proposed p) = code_proposal
told_code told.TurnLine.NotAllowed = turn_line_number not_allowed
