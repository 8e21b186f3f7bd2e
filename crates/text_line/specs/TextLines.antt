-- The lines of a body, for every request that reads one.
use Rattle.std.specs.Prelude.{◌≡◌, refl, Bool, true, false, cond, ◌&&◌, List, [], ◌∷◌, eqb}
use Rattle.grammar.specs.Bytes.{Bytes, CR, LF}
use Rattle.grammar.specs.Fields.{to_first}

-- after_cr: the byte before was a CR, the title's or one of the body.
abbrev pub lines_from : Bool → Bytes → List Bytes
lines_from after_cr [] = [] ∷ []
lines_from after_cr (b ∷ bs) = cond (after_cr && eqb b LF) (lines_from false bs) (cond (eqb b CR) ([] ∷ lines_from true bs) (to_first b (lines_from false bs)))

-- "A line here follows the title's CR or a body CR, less one LF, and runs to the next CR or the body's end."
unfoldable pub text_lines : Bytes → List Bytes
text_lines x = lines_from true x

abbrev pub without_last : Bytes → List Bytes → List Bytes
without_last [] [] = []
without_last (x ∷ w) [] = (x ∷ w) ∷ []
without_last w (v ∷ ws) = w ∷ without_last v ws

abbrev pub less_empty_end : List Bytes → List Bytes
less_empty_end [] = []
less_empty_end (w ∷ ws) = without_last w ws

-- "Lines in a body, here and later, are Q-4's, an empty one at the body's end left out."
unfoldable pub body_lines : Bytes → List Bytes
body_lines x = less_empty_end (text_lines x)

-- ---------------------------------------------------------------- computed

example_none : body_lines [] ≡ []
unfolding body_lines text_lines
example_none = refl

-- The same lines by CR and by CR LF, the last one ended or not; one LF of the body follows the title's CR.
example_cr : body_lines (79 ∷ CR ∷ 75 ∷ CR ∷ []) ≡ (79 ∷ []) ∷ (75 ∷ []) ∷ []
unfolding body_lines text_lines
example_cr = refl

example_crlf : body_lines (LF ∷ 79 ∷ CR ∷ LF ∷ 75 ∷ CR ∷ LF ∷ []) ≡ (79 ∷ []) ∷ (75 ∷ []) ∷ []
unfolding body_lines text_lines
example_crlf = refl

example_open : body_lines (79 ∷ CR ∷ 75 ∷ []) ≡ (79 ∷ []) ∷ (75 ∷ []) ∷ []
unfolding body_lines text_lines
example_open = refl

-- Of two LFs one is dropped; an empty line before the end stays, one at the end goes.
example_two_lf : body_lines (CR ∷ LF ∷ LF ∷ CR ∷ CR ∷ []) ≡ [] ∷ (LF ∷ []) ∷ [] ∷ []
unfolding body_lines text_lines
example_two_lf = refl

-- Q-4's own lines keep the empty one at the end.
example_kept : text_lines (79 ∷ CR ∷ []) ≡ (79 ∷ []) ∷ [] ∷ []
unfolding text_lines
example_kept = refl
