-- AN FS LINE IN WORDS (01, "Turns"; 02, Q-6): which bytes say which sign at a level, and which lines answer. Nothing is read here: proofs/Signs shows that
-- `read_fs` reads these lines so, and no other.
use Rattle.std.specs.Prelude.{◌≡◌, true, List, [], ◌∷◌, ◌++◌, ℕ, ◌≤◌, length}
use Rattle.grammar.specs.Bytes.{Bytes, SP, every}
use Rattle.grammar.specs.Ascii.{char}
use Rattle.grammar.specs.Fields.{upper, digit, read_from}
use Rattle.grammar.specs.Answers.{Sign, accept, decline, defer, Level}

-- "`+` accept, `-` decline, `=` defer"
pub data Sign01 : ℕ → Sign → Type 0 where
  plus : Sign01 (char "+") accept
  minus : Sign01 (char "-") decline
  equal : Sign01 (char "=") defer

-- "`Y` as `+`, `N` as `-`, `L` as `=`, `H` as accepted though held over there, `R` as declined, and `E` as deferred"; 002's words for them
pub data Letter : ℕ → Sign → Type 0 where
  yes : Letter (char "Y") accept
  held : Letter (char "H") accept
  no : Letter (char "N") decline
  rejected : Letter (char "R") decline
  later : Letter (char "L") defer
  failed : Letter (char "E") defer

-- "`!` or `A`"
pub data Mark : ℕ → Type 0 where
  bang : Mark (char "!")
  offset : Mark (char "A")

-- "with 1 to 6 digits"
abbrev pub most_digits : ℕ
most_digits = 6

pub record Offset (ds : Bytes) : Type 0 where
  pub digits : every digit ds ≡ true
  pub one : 1 ≤ length ds
  pub six : length ds ≤ most_digits

-- The bytes that say a sign at the level v. "Level 0 stays as in 01. At level 1 we also read, in either case, ..": u is the letter as a capital. "accepted
-- if the number is 0; a greater one counts as deferred"
pub data Spells (v : Level) : Sign → Bytes → Type 0 where
  of01 : (b : ℕ) (s : Sign) → Sign01 b s → Spells v s (b ∷ [])
  letter : 1 ≤ v → (b u : ℕ) (s : Sign) → upper b ≡ u → Letter u s → Spells v s (b ∷ [])
  whole : 1 ≤ v → (b u : ℕ) (ds : Bytes) → upper b ≡ u → Mark u → Offset ds → read_from 0 ds ≡ 0 → Spells v accept (b ∷ ds)
  remainder : 1 ≤ v → (b u : ℕ) (ds : Bytes) → upper b ≡ u → Mark u → Offset ds → 1 ≤ read_from 0 ds → Spells v defer (b ∷ ds)

-- One sign after the other, nothing between them.
pub data Says (v : Level) : List Sign → Bytes → Type 0 where
  nothing : Says v [] []
  more : (s : Sign) (w : Bytes) (ss : List Sign) (r : Bytes) → Spells v s w → Says v ss r → Says v (s ∷ ss) (w ++ r)

-- "FS, one space, one sign a proposal", FS in either case
pub record FsForm (v : Level) (ln : Bytes) (ss : List Sign) : Type 0 where
  pub first : ℕ
  pub second : ℕ
  pub rest : Bytes
  pub line : ln ≡ first ∷ second ∷ SP ∷ rest
  pub f : upper first ≡ char "F"
  pub s : upper second ≡ char "S"
  pub says : Says v ss rest
