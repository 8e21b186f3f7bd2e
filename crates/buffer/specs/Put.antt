-- 01: "Give writes into the caller's buffer from a given place to its end at most, and reports how many; a place beyond the end writes
-- nothing and reports 0. It writes as many waiting bytes as fit, and no other byte of the buffer changes."
use Rattle.std.specs.Prelude.{ℕ, ◌+◌, ◌-◌, ◌≡◌, refl, cond, [], ◌∷◌, ◌++◌, ltb, length, take, drop}
use Rattle.grammar.specs.Bytes.{Bytes}
use Rattle.buffer.specs.declared.Cursor.{Cursor}
use Rattle.buffer.specs.declared.Writer.{Writer}

-- d with p written over it from index at on: "no other byte of the buffer changes"
abbrev pub wrote : Bytes → ℕ → Bytes → Bytes
wrote d at p = take at d ++ (p ++ drop (at + length p) d)

-- what of s from index i on fits in n: "as many waiting bytes as fit"
abbrev pub cut : ℕ → ℕ → Bytes → Bytes
cut n i s = take n (drop i s)

-- The buffer d after the text p at the cursor c.
unfoldable pub put_bytes : Bytes → Cursor → Bytes → Bytes
put_bytes d c p = wrote d c.at (cut (length d - c.at) c.skip p)

-- The cursor after it, in a buffer of n bytes; a full buffer passes nothing over.
unfoldable pub put_cursor : ℕ → Cursor → Bytes → Cursor
put_cursor n c p = record { at = c.at + length (cut (n - c.at) c.skip p); skip = cond (ltb c.at n) (c.skip - length p) 0 }

-- Two bytes of the text were handed out before; the rest fits, from index 1 on.
example_bytes : put_bytes (9 ∷ 9 ∷ 9 ∷ 9 ∷ []) (record { at = 1; skip = 2 }) (5 ∷ 6 ∷ 7 ∷ 8 ∷ []) ≡ 9 ∷ 7 ∷ 8 ∷ 9 ∷ []
unfolding put_bytes
example_bytes = refl

example_cursor : put_cursor 4 (record { at = 1; skip = 2 }) (5 ∷ 6 ∷ 7 ∷ 8 ∷ []) ≡ record { at = 3; skip = 0 }
unfolding put_cursor
example_cursor = refl

-- The contract of every writer: the text p, put into the buffer d at the cursor c, leaves the cursor r and the buffer e.
abbrev pub Puts : Bytes → Cursor → Bytes → Cursor → Bytes → Type 0
Puts d c p r e = (r ≡ put_cursor (length d) c p) × (e ≡ put_bytes d c p)

-- The same of a writer: the text p leaves the writer v, which writes into the same lent buffer.
pub record Takes (w : Writer) (p : Bytes) (v : Writer) : Type 0 where
  pub same : v.buf.ghost_name ≡ w.buf.ghost_name
  pub puts : Puts w.buf.now w.cursor p v.cursor v.buf.now

-- The place where the next byte goes, and how many bytes of the text are passed over.
abbrev pub cursor : ℕ → ℕ → Cursor
cursor place skip = record { at = place; skip = skip }
