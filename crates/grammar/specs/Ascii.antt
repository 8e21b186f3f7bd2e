-- A text's characters as bytes, so that definitions and examples can show lines as 01 shows them.
use Rattle.std.specs.Prelude.{ℕ}
use Prim.Native.Char.{code}
use Prim.Native.String.{String, [], ◌∷◌}
use Rattle.grammar.specs.Bytes.{Bytes, nil, cons}

abbrev pub text : String → Bytes
text [] = nil
text (c ∷ s) = cons (code c) (text s)

-- The byte of a text's first character, so that a rule can show the character that it is about.
abbrev pub char : String → ℕ
char [] = 0
char (c ∷ s) = code c
