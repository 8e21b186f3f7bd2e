-- What an answer says of its line, and that its places lie in the line, in order.
use Rattle.std.specs.Prelude.{◌≡◌, true, false, ℕ, ◌≤◌, length, drop, MatchOption, Option, Result, Ok, Err}
use Rattle.grammar.specs.Bytes.{Bytes}
use Rattle.span.specs.Places.{part}
use Rattle.span.specs.declared.Span.{Span}
use Rattle.pages.specs.Fields as pages
use Rattle.page_cut.specs.Pieces.{rule_of}
use Rattle.page_cut.specs.Why.{read_said}
use Rattle.page_cut.specs.declared.Dropped.{Dropped}
use Rattle.page_cut.specs.declared.Piece.{Piece}
use Rattle.page_cut.specs.declared.Rule.{Rule}
use Rattle.page_words.specs.declared.Who.{Who}
use Rattle.page_words.specs.declared.When.{When}

-- A field lies between two places.
abbrev pub LiesBetween : ℕ → Span → ℕ → Type 0
LiesBetween from s to = (from ≤ s.start) × (s.start ≤ s.end) × (s.end ≤ to)

-- ---------------------------------------------------------------- a word

-- The word at a place: where it lies, its bytes, and what follows the space behind it.
pub record WordIs (l : Bytes) (at : ℕ) (p : Piece) : Type 0 where
  pub lies : LiesBetween at p.span p.next
  pub within : p.next ≤ length l
  pub text : part l p.span ≡ pages.word (drop at l)
  pub rest : drop p.next l ≡ pages.past (drop at l)

-- It, if it obeys the rule.
abbrev pub WordBy : Bytes → ℕ → Rule → Option Piece → Type 0
WordBy l at rule r = MatchOption r (rule_of rule (pages.word (drop at l)) ≡ false) (λ p. (rule_of rule (pages.word (drop at l)) ≡ true) × WordIs l at p)

-- ---------------------------------------------------------------- call, home mailbox and BID

abbrev pub who_in : Bytes → Who → pages.Who
who_in l w = record { call = part l w.call; home = part l w.home; bid = part l w.bid; rest = drop w.next l }

abbrev pub WhoLies : Bytes → ℕ → Result Who Dropped → Type 0
WhoLies l at (Err why) = Unit {0}
WhoLies l at (Ok w) = LiesBetween at w.call w.home.start × LiesBetween at w.home w.bid.start × LiesBetween at w.bid w.next × (w.next ≤ length l)

abbrev pub WhoIs : Bytes → ℕ → Result Who Dropped → Type 0
WhoIs l at r = (read_said (who_in l) r ≡ pages.who_of (drop at l)) × WhoLies l at r

-- ---------------------------------------------------------------- time stamp, origin and hops

abbrev pub when_in : Bytes → When → pages.When
when_in l w = record { stamp = w.stamp; origin = part l w.origin; hops = w.hops; rest = drop w.next l }

abbrev pub WhenLies : Bytes → ℕ → Result When Dropped → Type 0
WhenLies l at (Err why) = Unit {0}
WhenLies l at (Ok w) = LiesBetween at w.origin w.next × (w.next ≤ length l)

abbrev pub WhenIs : Bytes → ℕ → Result When Dropped → Type 0
WhenIs l at r = (read_said (when_in l) r ≡ pages.when_of (drop at l)) × WhenLies l at r
