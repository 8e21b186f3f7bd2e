-- Pieces of a line by their places.
use Rattle.std.specs.Prelude.{Bool, cond, ℕ, ◌+◌, leb, length, drop}
use Rattle.grammar.specs.Bytes.{Bytes, SP}
use Rattle.grammar.specs.Fields.{is_call, is_at, is_bid}
use Rattle.span.specs.Places.{upto}
use Rattle.pages.specs.Fields.{QUOTE}
use Rattle.page_cut.specs.declared.Piece.{Piece}
use Rattle.page_cut.specs.declared.Rule.{Rule}

-- The place behind the byte at a place; the line's end has none behind it.
abbrev pub behind_of : Bytes → ℕ → ℕ
behind_of l at = cond (leb (length l) at) at (at + 1)

-- From start up to the next c.
unfoldable pub piece_to : ℕ → Bytes → ℕ → Piece
piece_to c l start =
    let end = start + upto c (drop start l) in
    record { span = record { start = start; end = end }; next = behind_of l end }

abbrev pub word_at : Bytes → ℕ → Piece
word_at l at = piece_to SP l at

abbrev pub quoted_at : Bytes → ℕ → Piece
quoted_at l at = piece_to QUOTE l (behind_of l at)

-- The rule of 01 that a name of the code stands for.
abbrev pub rule_of : Rule → Bytes → Bool
rule_of Rule.Call w = is_call w
rule_of Rule.Mailbox w = is_at w
rule_of Rule.Bid w = is_bid w
