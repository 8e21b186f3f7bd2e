-- The fields of a line as a reader hands them out, one after another.
use Rattle.std.specs.Prelude.{cond, List, [], ◌∷◌, ℕ, zero, suc, ◌+◌, min, eqb, ltb, length, drop}
use Rattle.grammar.specs.Bytes.{Bytes, SP}
use Rattle.span.specs.declared.Span.{Span}
use Rattle.span.specs.Places.{part, upto}

-- How many spaces stand in front.
unfoldable pub spaces : Bytes → ℕ
spaces [] = 0
spaces (x ∷ xs) = cond (eqb x SP) (suc (spaces xs)) 0

-- From a place up to the next space, or to the line's end.
abbrev pub up_to_space : Bytes → ℕ → Span
up_to_space l a = record { start = a; end = a + upto SP (drop a l) }

-- The first field from a place on: the spaces in front of it are passed over. Where there is none, it is empty and lies at
-- the line's end.
unfoldable pub field_at : Bytes → ℕ → Span
field_at l p = up_to_space l (min p (length l) + spaces (drop p l))

-- The fields that n calls of a reader hand out, from a place on, up to the first empty one: each call goes on at the end of the
-- field before, as `hand_out` promises.
unfoldable pub next_fields : ℕ → Bytes → ℕ → List Bytes
next_fields zero l p = []
next_fields (suc n) l p =
    let s = field_at l p in
    cond (ltb s.start s.end) (part l s ∷ next_fields n l s.end) []
