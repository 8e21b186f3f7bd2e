-- 02, Q-3, "a tally sheet: records proposed, forwarded, declined, deferred, and not settled yet": one byte each, and its four events. What doesn't fit a
-- byte begins again at 0; that it never comes to that is said by the theorem on the tally (crates/main_theorem).
use Rattle.std.specs.Prelude.{ℕ, ◌+◌, ◌-◌, ◌%◌}
use Rattle.grammar.specs.Bytes.{byte_values}
use Rattle.sheet.specs.declared.Sheet.{Sheet}

-- "all 0 when open accepts"
abbrev pub no_sheet : Sheet
no_sheet = record { proposed = 0; forwarded = 0; declined = 0; deferred = 0; unsettled = 0 }

abbrev pub more : ℕ → ℕ → ℕ
more x n = (x + n) % byte_values

abbrev pub less : ℕ → ℕ → ℕ
less x n = (x + byte_values - n) % byte_values

-- n records were proposed: their FS line hasn't come.
abbrev pub count_proposed : Sheet → ℕ → Sheet
count_proposed s n = record { proposed = more s.proposed n; forwarded = s.forwarded; declined = s.declined; deferred = s.deferred; unsettled = more s.unsettled n }

-- n of them were forwarded, declined, deferred: so many fewer are not settled.
abbrev pub count_forwarded : Sheet → ℕ → Sheet
count_forwarded s n = record { proposed = s.proposed; forwarded = more s.forwarded n; declined = s.declined; deferred = s.deferred; unsettled = less s.unsettled n }

abbrev pub count_declined : Sheet → ℕ → Sheet
count_declined s n = record { proposed = s.proposed; forwarded = s.forwarded; declined = more s.declined n; deferred = s.deferred; unsettled = less s.unsettled n }

abbrev pub count_deferred : Sheet → ℕ → Sheet
count_deferred s n = record { proposed = s.proposed; forwarded = s.forwarded; declined = s.declined; deferred = more s.deferred n; unsettled = less s.unsettled n }
