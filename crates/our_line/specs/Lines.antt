-- What the writers of our lines are given, in the grammar's terms. A line's text itself is the grammar's.
use Rattle.std.specs.Prelude.{ℕ, [], ◌∷◌, ◌++◌}
use Rattle.grammar.specs.Bytes.{Bytes, CR}
use Rattle.grammar.specs.Ascii.{text}
use Rattle.grammar.specs.Fields.{form_is}
use Rattle.grammar.specs.Turns.{FixedLine, our_sid, our_prompt, our_ff, our_fq, our_end, protocol_error, checksum_error, Proposal}
use Rattle.our_line.specs.declared.FixedKind.{FixedKind}
use Rattle.our_line.specs.declared.FixedKind.TheVariants.{Sid, Prompt, FF, FQ, End, ProtocolError, ChecksumError}

-- The lines that never differ: SID, prompt, `FF`, `FQ`, `F>`, and the two that say why we hang up.
abbrev pub fixed_is : FixedKind → FixedLine
fixed_is Sid = our_sid
fixed_is Prompt = our_prompt
fixed_is FF = our_ff
fixed_is FQ = our_fq
fixed_is End = our_end
fixed_is ProtocolError = protocol_error
fixed_is ChecksumError = checksum_error

-- The proposal with these fields: form, type, from, at, to, BID, size.
abbrev pub proposal_of_fields : ℕ → ℕ → Bytes → Bytes → Bytes → Bytes → ℕ → Proposal
proposal_of_fields form kind from at to bid size = record { form = form_is form; type = kind; from = from; at = at; to = to; bid = bid; size = size }

-- "FS, one space, one sign a proposal" and the CR, for any sign bytes.
unfoldable pub fs_text : Bytes → Bytes
fs_text signs = text "FS " ++ (signs ++ (CR ∷ []))
