-- 01, "Lines": reading a line byte by byte, against the whole line.
use Rattle.std.specs.Prelude.{◌≡◌, Bool, true, false, not, ◌&&◌, [], ◌↔◌, ℕ, suc, eqb, ltb, length, take}
use Rattle.std.proofs.Math.Option.{none, some}
use Rattle.grammar.specs.Bytes.{Bytes, CR, every}
use Rattle.grammar.specs.Lines.{unfinished, line, refused, line_steps, line_limit, drop_lf, whole_line}

-- The byte is no CR.
abbrev pub not_cr : ℕ → Bool
not_cr b = not (eqb b CR)

-- "a 257th byte of a line comes before CR": there are 257 bytes, and no CR is among the first 257
unfoldable pub overlong : Bytes → Bool
overlong d = ltb line_limit (length d) && every not_cr (take (suc line_limit) d)

-- What reading byte by byte says, it says exactly when the whole line does: a line where there is a whole one; a refusal where it is
-- too long, an LF that is dropped not counted; else all that came, but for that LF.
pub record StepsAgree (after_cr : Bool) (bs : Bytes) : Type 0 where
  pub whole : (w rest : Bytes) → (line_steps after_cr [] bs ≡ line w rest) ↔ (whole_line after_cr bs ≡ some (w, rest))
  pub too_long : (line_steps after_cr [] bs ≡ refused) ↔ (overlong (drop_lf after_cr bs) ≡ true)
  pub not_yet : (w : Bytes) →
      (line_steps after_cr [] bs ≡ unfinished w) ↔
      ((whole_line after_cr bs ≡ none) × (overlong (drop_lf after_cr bs) ≡ false) × (w ≡ drop_lf after_cr bs))
