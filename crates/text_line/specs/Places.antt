-- A line of a body by its places.
use Rattle.std.specs.Prelude.{Option, Some, None, cond, List, [], ◌∷◌, ℕ, ◌+◌, eqb, leb, length, drop}
use Rattle.grammar.specs.Bytes.{Bytes, CR, LF}
use Rattle.span.specs.Places.{bytes_between, upto}
use Rattle.text_line.specs.TextLines.{body_lines}
use Rattle.text_line.specs.declared.TextLine.{TextLine}

-- How many bytes of the LF that may follow a CR are there.
abbrev pub leading_lf : Bytes → ℕ
leading_lf [] = 0
leading_lf (x ∷ xs) = cond (eqb x LF) 1 0

-- The line that begins at start: it runs up to end, and the next one is read from next on.
abbrev pub line_from : Bytes → ℕ → TextLine
line_from body start =
    let end = start + upto CR (drop start body) in
    record { start = start; end = end; next = cond (leb (length body) end) end (end + 1) }

-- What is read at a place that follows the title's CR or a body CR.
unfoldable pub text_line_at : Bytes → ℕ → Option TextLine
text_line_at body at = let start = at + leading_lf (drop at body) in cond (leb (length body) start) None (Some (line_from body start))

abbrev pub line_bytes : Bytes → TextLine → Bytes
line_bytes body t = bytes_between body t.start t.end

-- The lines of a body by the first of them.
abbrev pub lines_by : Bytes → Option TextLine → List Bytes
lines_by body None = []
lines_by body (Some t) = line_bytes body t ∷ body_lines (drop t.next body)
