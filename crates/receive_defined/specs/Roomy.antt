-- THE ONE CONDITION ON THE STATE below receive: the numbers that grow when a message is kept stay within their bytes and within the store. What
-- the form test says of a state (`Good`, crates/form_closed) gives it, see `good-roomy` of crates/receive.
use Rattle.std.specs.Prelude.{◌≡◌, ℕ, ◌+◌, ◌≤◌, ◌<◌}
use Rattle.grammar.specs.Bytes.{word_values}
use Rattle.grammar.specs.Fields.{body_max}
use Rattle.mail.specs.Mail.{place_limit}
use Rattle.phase.specs.Phase.{phase_transfer}
use Rattle.numbers.specs.declared.Numbers.{Numbers}

-- The body under way lies behind those kept.
pub record BodyFits (s : Numbers) (store : ℕ) : Type 0 where
  pub short : s.reader.body ≤ body_max
  pub room : s.keep.used + s.reader.body ≤ store

-- store: how many bytes it has.
pub record Roomy (s : Numbers) (store : ℕ) : Type 0 where
  pub fits : store < word_values
  pub kept : s.keep.kept ≤ place_limit
  pub used : s.keep.used ≤ store
  pub body : s.now.phase ≡ phase_transfer → BodyFits s store

-- A transfer is under way, in a store that is not at hand: its message can be kept.
pub record Underway (s : Numbers) : Type 0 where
  pub phase : s.now.phase ≡ phase_transfer
  pub store : ℕ
  pub roomy : Roomy s store
