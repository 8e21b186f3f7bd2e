-- What an answer says of its line, and that its places lie in the line, in order.
use Rattle.std.specs.Prelude.{◌≡◌, true, false, ℕ, ◌≤◌, leb, length, drop, MatchOption, Option, Result, Ok, Err}
use Rattle.grammar.specs.Bytes.{Bytes}
use Rattle.span.specs.Places.{part}
use Rattle.span.specs.declared.Span.{Span}
use Rattle.pages.specs.Fields as pages
use Rattle.page_cut.specs.Why.{read_said}
use Rattle.page_cut.specs.declared.Dropped.{Dropped}
use Rattle.page_cut.specs.declared.Piece.{Piece}
use Rattle.page_words.specs.Meaning.{LiesBetween, WordIs}
use Rattle.page_whence.specs.declared.Whence.{Whence}

-- ---------------------------------------------------------------- name, zip and town, each where it is looked for

-- The name at a place: where it lies, its text, and what follows the space behind it.
pub record NameIs (l : Bytes) (at : ℕ) (p : Piece) : Type 0 where
  pub lies : LiesBetween at p.span p.next
  pub within : p.next ≤ length l
  pub text : part l p.span ≡ pages.quoted (drop at l)
  pub rest : drop p.next l ≡ drop 1 (pages.past_quote (drop at l))

abbrev pub NameBy : Bytes → ℕ → Option Piece → Type 0
NameBy l at r = MatchOption r (pages.is_name (drop at l) ≡ false) (λ p. (pages.is_name (drop at l) ≡ true) × NameIs l at p)

abbrev pub ZipBy : Bytes → ℕ → Option Piece → Type 0
ZipBy l at r = MatchOption r (leb 1 (length (pages.word (drop at l))) ≡ false) (λ p. (leb 1 (length (pages.word (drop at l))) ≡ true) × WordIs l at p)

-- The town at a place: where it lies, and its text.
pub record TownIs (l : Bytes) (at : ℕ) (s : Span) : Type 0 where
  pub lies : LiesBetween at s (length l)
  pub text : part l s ≡ pages.quoted (drop at l)

abbrev pub TownBy : Bytes → ℕ → Option Span → Type 0
TownBy l at r = MatchOption r (pages.is_town (drop at l) ≡ false) (λ s. (pages.is_town (drop at l) ≡ true) × TownIs l at s)

-- ---------------------------------------------------------------- all three

abbrev pub whence_in : Bytes → Whence → pages.Whence
whence_in l w = record { name = part l w.name; zip = part l w.zip; town = part l w.town }

abbrev pub WhenceLies : Bytes → ℕ → Result Whence Dropped → Type 0
WhenceLies l at (Err why) = Unit {0}
WhenceLies l at (Ok w) = LiesBetween at w.name w.zip.start × LiesBetween at w.zip w.town.start × LiesBetween at w.town (length l)

abbrev pub WhenceIs : Bytes → ℕ → Result Whence Dropped → Type 0
WhenceIs l at r = (read_said (whence_in l) r ≡ pages.whence_of (drop at l)) × WhenceLies l at r
