-- Bytes that only make the line or the body under way longer, taken where the state stands in session memory.
use Rattle.std.specs.Prelude.{◌≡◌, Bool, true, false, cond, ◌&&◌, [], ◌∷◌, eqb, length}
use Rattle.grammar.specs.Bytes.{Bytes, CR, LF}
use Rattle.places.specs.Places.{session_len}
use Rattle.layout.specs.Layout.{byte_at}
use Rattle.session_memory.specs.State.{load_of}
use Rattle.numbers.specs.declared.Numbers.{Numbers}
use Rattle.numbers.specs.Whole.{numbers_at}
use Rattle.pending.specs.Pending.{waits, over_of}
use Rattle.give.specs.Giving.{reply}
use Rattle.receive_defined.specs.Receiving.{cs, receive_from, saved}

-- One of the bytes ends a line.
unfoldable pub has_cr : Bytes → Bool
has_cr [] = false
has_cr (b ∷ bs) = cond (eqb b CR) true (has_cr bs)

-- ALL BYTES ARE TAKEN: what receive answers and leaves, whatever it is that these bytes don't touch; or nothing is changed.
abbrev pub Takes : Bool → Bytes → Bytes → Bytes → Bytes → Bytes → Type 0
Takes true sm store bs sm' store' =
    (known table inbox : Bytes) → saved sm (receive_from known (cs (load_of sm) table inbox store) 0 bs)
    ≡ record { reply = reply 0 0 (length bs); sm = sm'; table = table; inbox = inbox; store = store' }
Takes false sm store bs sm' store' = (sm' ≡ sm) × (store' ≡ store)

-- Session memory sm with the numbers h takes bytes: they are there, and the session has not ended.
pub record TakesBytes (h : Numbers) (sm bs : Bytes) : Type 0 where
  pub size : length sm ≡ session_len
  pub numbers : h ≡ numbers_at sm
  pub going : over_of (load_of sm) ≡ false
  pub some : length bs ≡ 0 → ⊥

-- Nothing stands before the rule of the line or the transfer: no LF is to be dropped, nothing waits for give.
pub record Quiet (h : Numbers) (bs : Bytes) : Type 0 where
  pub no_lf : h.line.after_cr && eqb (byte_at bs 0) LF ≡ false
  pub silent : waits h.say ≡ false
