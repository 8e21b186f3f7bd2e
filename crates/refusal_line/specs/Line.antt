-- 02, Q-11: "After those bytes it writes a line `refusal N` ended by LF, N in decimal, with 0 if there was none".
use Rattle.std.specs.Prelude.{◌≡◌, refl, [], ◌∷◌, ◌++◌, ℕ, ◌+◌, length}
use Rattle.grammar.specs.Bytes.{Bytes, LF}
use Rattle.grammar.specs.Ascii.{text}
use Rattle.grammar.specs.Fields.{decimal, write_num, decimal_digits}

unfoldable pub refusal_line : ℕ → Bytes
refusal_line n = text "refusal " ++ (decimal n ++ (LF ∷ []))

-- So many bytes it has at most.
abbrev pub line_most : ℕ
line_most = length (text "refusal \n") + decimal_digits

no_refusal : refusal_line 0 ≡ text "refusal 0\n"
unfolding refusal_line write_num
no_refusal = refl

two_digits_lem : refusal_line 13 ≡ text "refusal 13\n"
unfolding refusal_line write_num
two_digits_lem = refl
