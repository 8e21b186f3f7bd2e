-- DEMAND 2, THE NUMBERS OF 01 by which lines, bodies, blocks and marks are judged, said here once for all of demand 2 and shared with no other
-- definition. That the session's model has the same is `limits_are` of proofs/Limits.
use Rattle.std.specs.Prelude.{◌≡◌, cond, List, ℕ, ltb, get_or}
use Rattle.grammar.specs.Lines as lines
use Rattle.grammar.specs.Fields as fields
use Rattle.grammar.specs.Turns as turns
use Rattle.grammar.specs.Sid as sid
use Rattle.grammar.specs.Turns.{Proposal}
use Rattle.grammar.specs.Answers.{Level, level0, level1}
use Rattle.grammar.specs.Transfers.{TransferKind, kind_of}
use Rattle.mail.specs.Mail as mail
use Rattle.phase.specs.Phase as phase
use Rattle.session.specs.Session as model
use Rattle.session.specs.Session.{Memory}

-- "a 257th byte of a line comes before CR": a line has at most
abbrev pub line_limit : ℕ
line_limit = 256

-- "A body has at most 65,535 bytes"
abbrev pub body_max : ℕ
body_max = 65535

-- "one to five proposals"
abbrev pub block_limit : ℕ
block_limit = 5

-- "the announced sizes so far are below 10,240"
abbrev pub announced_limit : ℕ
announced_limit = 10240

-- "Table: 0 to 64 records."
abbrev pub record_limit : ℕ
record_limit = 64

-- "Letters have fixed places A = 0 to Z = 25": that of F
abbrev pub letter_f : ℕ
letter_f = 5

-- "a state (0 waiting, 1 forwarded, 2 declined)"
abbrev pub state_waiting : ℕ
state_waiting = 0

abbrev pub state_forwarded : ℕ
state_forwarded = 1

abbrev pub state_declined : ℕ
state_declined = 2

-- "none deferred in this session": the flag of a record that is not, and of one that is
abbrev pub not_deferred : ℕ
not_deferred = 0

abbrev pub was_deferred : ℕ
was_deferred = 1

-- that of B
abbrev pub letter_b : ℕ
letter_b = 1

-- "the level in force is the lower of the two, 0 without B" (02, Q-6), and ours is 1: 1 where the partner's B is at level 1 or above. A place holds the
-- level and 1 more.
abbrev pub level_between : List ℕ → Level
level_between fs = cond (ltb 1 (get_or fs letter_b 0)) level1 level0

-- The level at which the partner's FS line is read.
abbrev pub level_in_force : Memory → Level
level_in_force m = m.terms.level

-- How the partner's transfer of this proposal is read: "Plain: title, CR, ..", "Framed: 01, L, ..", by its form.
abbrev pub kind_due : Memory → Proposal → TransferKind
kind_due m p = kind_of p.form

-- The session's model, and the grammar that it reads by, have these numbers.
pub record LimitsAre : Type 0 where
  pub line : lines.line_limit ≡ line_limit
  pub body : fields.body_max ≡ body_max
  pub block : turns.block_limit ≡ block_limit
  pub announced : turns.announced_limit ≡ announced_limit
  pub records : mail.record_limit ≡ record_limit
  pub f : sid.letter_f ≡ letter_f
  pub waiting : phase.state_waiting ≡ state_waiting
  pub forwarded : phase.state_forwarded ≡ state_forwarded
  pub declined : phase.state_declined ≡ state_declined
  pub not_deferred : phase.not_deferred ≡ not_deferred
  pub was_deferred : phase.was_deferred ≡ was_deferred
  pub b : sid.letter_b ≡ letter_b
  pub between : (fs : List ℕ) → sid.level_of_sid fs ≡ level_between fs
  pub level : (m : Memory) → model.level_in_force m ≡ level_in_force m
