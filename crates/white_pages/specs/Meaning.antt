-- What an answer says of its mail, and that its places lie in the mail.
use Rattle.std.specs.Prelude.{◌≡◌, true, false, cond, List, [], ◌∷◌, ℕ, ◌+◌, ◌<◌, ◌≤◌, ltb, length, drop, Option, Some, None, Result, Ok, Err}
use Rattle.grammar.specs.Bytes.{Bytes}
use Rattle.span.specs.Places.{bytes_between}
use Rattle.pages.specs.Pages as pages
use Rattle.pages.specs.Pages.{pages_of, higher, our_version}
use Rattle.page_cut.specs.declared.Dropped.{Dropped}
use Rattle.page_line.specs.Meaning.{page_said, PageLies}
use Rattle.page_line.specs.declared.Page.{Page}
use Rattle.white_pages.specs.declared.PageLine.{PageLine}
use Rattle.white_pages.specs.declared.PageTally.{PageTally}
use Rattle.white_pages.specs.declared.Surveyed.{Surveyed}

-- ---------------------------------------------------------------- a line

abbrev pub bytes_in : Bytes → PageLine → Bytes
bytes_in x t = bytes_between x t.start t.end

abbrev pub page_line_in : Bytes → PageLine → pages.ReadLine
page_line_in x t = record { bytes = bytes_in x t; page = page_said (bytes_in x t) t.page }

-- The lines from a place on by the first of them: it, and those from its next place on.
abbrev pub pages_by : Bytes → Option PageLine → List pages.ReadLine
pages_by x None = []
pages_by x (Some t) = page_line_in x t ∷ pages_of (drop t.next x)

-- The line lies in the mail, its fields in the line, and the next place is a later one.
abbrev pub LineLies : Bytes → ℕ → PageLine → Type 0
LineLies x at t = (at ≤ t.start) × (t.start ≤ t.end) × (t.end ≤ t.next) × (at < t.next) × (t.next ≤ length x) × PageLies (bytes_in x t) t.page

abbrev pub NextLies : Bytes → ℕ → Option PageLine → Type 0
NextLies x at None = Unit {0}
NextLies x at (Some t) = LineLies x at t

abbrev pub NextIs : Bytes → ℕ → Option PageLine → Type 0
NextIs x at r = (pages_by x r ≡ pages_of (drop at x)) × NextLies x at r

-- ---------------------------------------------------------------- what is counted

abbrev pub tally_is : PageTally → pages.MailTally
tally_is t = record { records = t.records; dropped = t.dropped; version = t.version }

abbrev pub page_counted : PageTally → Result Page Dropped → PageTally
page_counted t (Ok (Page.Version n)) = record { records = t.records + 1; dropped = t.dropped; version = higher t.version n }
page_counted t (Ok (Page.Member m)) = record { records = t.records + 1; dropped = t.dropped; version = t.version }
page_counted t (Ok Page.Skipped) = t
page_counted t (Err why) = record { records = t.records; dropped = t.dropped + 1; version = t.version }

abbrev pub told_of : PageTally → Surveyed
told_of t =
    cond (ltb our_version t.version)
    (record { unread = true; records = 0; dropped = 0; version = t.version })
    (record { unread = false; records = t.records; dropped = t.dropped; version = t.version })

abbrev pub survey_is : Surveyed → pages.Survey
survey_is s = record { unread = s.unread; records = s.records; dropped = s.dropped; version = s.version }
