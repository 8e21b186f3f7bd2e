-- Fields by their places in a line.
use Rattle.std.specs.Prelude.{cond, List, [], ◌∷◌, ℕ, suc, ◌-◌, ◌≤◌, eqb, ltb, take, drop, length}
use Rattle.grammar.specs.Bytes.{Bytes}
use Rattle.grammar.specs.Fields.{words}
use Rattle.span.specs.declared.Span.{Span}

-- The bytes of a line from a to e.
abbrev pub bytes_between : Bytes → ℕ → ℕ → Bytes
bytes_between l a e = take (e - a) (drop a l)

abbrev pub part : Bytes → Span → Bytes
part l s = bytes_between l s.start s.end

-- How many bytes stand before the first c.
unfoldable pub upto : ℕ → Bytes → ℕ
upto c [] = 0
upto c (x ∷ xs) = cond (eqb x c) 0 (suc (upto c xs))

-- The words of a line from a place on, by the span of the first of them. Where there is none the span is empty; where an
-- empty span lies is left free, but it lies in the line.
abbrev pub words_by : Bytes → Span → List Bytes
words_by l s = cond (ltb s.start s.end) (part l s ∷ words (drop s.end l)) []

-- The span lies in the line.
abbrev pub Lies : Bytes → Span → Type 0
Lies l s = (s.start ≤ s.end) × (s.end ≤ length l)
