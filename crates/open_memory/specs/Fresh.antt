-- The numbers right after an accepted open.
use Rattle.std.specs.Prelude.{false, ℕ}
use Rattle.phase.specs.Phase.{piece_none}
use Rattle.transfer_step.specs.Step.{start_of}
use Rattle.session_memory.specs.State.{no_five, terms_with}
use Rattle.session_memory.specs.declared.Tally.{Tally}
use Rattle.numbers.specs.declared.Numbers.{Numbers}

-- with this partner, for whom this waits: what is awaited, and what is said first
abbrev pub fresh_numbers : ℕ → Tally → ℕ → ℕ → Numbers
fresh_numbers partner tally awaited first =
    record {
      now = record { phase = awaited; ff = false; current = 0; proposals = 0; ours = no_five; sum = 0 };
      say = record { first = first; then = piece_none; pos = 0; signs = no_five };
      keep = record { framed = false; terms = terms_with partner; kept = 0; used = 0; sending = no_five };
      reader = start_of 0;
      line = record { after_cr = false; len = 0 };
      tally = tally;
    }
