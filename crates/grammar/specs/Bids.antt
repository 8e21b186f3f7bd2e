-- When two BIDs are one, in words: "Two BIDs are now equal when they agree after A-Z and a-z are taken as one. Bytes from 0x80 still compare
-- exactly." Nothing here is folded; claims say it so, and proofs/Bids shows that `same_bid` decides it.
use Rattle.std.specs.Prelude.{◌≡◌, ℕ, ◌+◌, ◌≤◌, ◌<◌, length, get_or}
use Rattle.grammar.specs.Bytes.{Bytes}
use Rattle.grammar.specs.Ascii.{char}

-- The capital letters; a small one stands so much further on.
abbrev pub capital_a : ℕ
capital_a = char "A"

abbrev pub capital_z : ℕ
capital_z = char "Z"

abbrev pub to_small : ℕ
to_small = 32

-- "A-Z and a-z are taken as one": two bytes are one if they are the same byte, or a capital and its small letter, in whichever order.
pub data AsOne (a b : ℕ) : Type 0 where
  same_byte : a ≡ b → AsOne a b
  capital_first : capital_a ≤ a → a ≤ capital_z → b ≡ a + to_small → AsOne a b
  small_first : capital_a ≤ b → b ≤ capital_z → a ≡ b + to_small → AsOne a b

-- Two BIDs are one if they are equally long and at each place their bytes are one.
pub record OneBid (v w : Bytes) : Type 0 where
  pub long : length v ≡ length w
  pub each : (i : ℕ) → i < length v → AsOne (get_or v i 0) (get_or w i 0)
