-- The numbers of the C interface, as a survey, lines, seconds and dates.
use Rattle.std.specs.Prelude.{◌≡◌, Bool, true, false, cond, not, List, [], ◌∷◌, ℕ, ◌<◌, ◌≤◌, eqb, length, drop, ℤ, pos, Result, Ok, Err}
use Rattle.std.proofs.Math.Option.{Option, none, some}
use Rattle.grammar.specs.Bytes.{Bytes}
use Rattle.span.specs.Places.{bytes_between}
use Rattle.dates.specs.Dates as dates
use Rattle.dates.specs.Digits.{date_text}
use Rattle.pages.specs.Pages as pages
use Rattle.pages.specs.Pages.{pages_of, handed, data_after_flag}
use Rattle.pages.specs.Stamps.{bad_date, out_of_range}
use Rattle.page_cut.specs.Why.{why_of}
use Rattle.page_cut.specs.declared.Dropped.{Dropped}
use Rattle.page_member.specs.Meaning.{member_in, FieldsLie}
use Rattle.page_member.specs.declared.Member.{Member}
use Rattle.page_line.specs.declared.Page.{Page}
use Rattle.white_pages.specs.declared.PageLine.{PageLine}
use Rattle.fringemole_pages.specs.declared.MailPages.{MailPages}
use Rattle.fringemole_pages.specs.declared.MailPage.{MailPage}
use Rattle.fringemole_pages.specs.declared.PageSeconds.{PageSeconds}
use Rattle.fringemole_pages.specs.declared.PageDate.{PageDate}

-- ---------------------------------------------------------------- the survey

abbrev pub told_survey : pages.Survey → MailPages
told_survey s = record { records = s.records; dropped = s.dropped; version = s.version; unread = cond s.unread 1 0 }

-- What the host hands over says that the mail is left unread.
abbrev pub is_unread : MailPages → Bool
is_unread s = not (eqb s.unread 0)

-- ---------------------------------------------------------------- a line

-- What a line is, by number.
abbrev pub end_kind : ℕ
end_kind = 0

abbrev pub version_kind : ℕ
version_kind = 1

abbrev pub member_kind : ℕ
member_kind = 2

abbrev pub skipped_kind : ℕ
skipped_kind = 3

abbrev pub dropped_kind : ℕ
dropped_kind = 4

abbrev pub bare_of : ℕ → ℕ → ℕ → ℕ → ℕ → ℕ → MailPage
bare_of next start end kind version why =
    record {
      next = next;
      start = start;
      end = end;
      call_start = 0;
      call_end = 0;
      home_start = 0;
      home_end = 0;
      bid_start = 0;
      bid_end = 0;
      origin_start = 0;
      origin_end = 0;
      name_start = 0;
      name_end = 0;
      zip_start = 0;
      zip_end = 0;
      town_start = 0;
      town_end = 0;
      stamp = 0;
      hops = 0;
      version = version;
      kind = kind;
      why = why;
    }

abbrev pub member_page : PageLine → Member → MailPage
member_page line m =
    record {
      next = line.next;
      start = line.start;
      end = line.end;
      call_start = m.call.start;
      call_end = m.call.end;
      home_start = m.home.start;
      home_end = m.home.end;
      bid_start = m.bid.start;
      bid_end = m.bid.end;
      origin_start = m.origin.start;
      origin_end = m.origin.end;
      name_start = m.name.start;
      name_end = m.name.end;
      zip_start = m.zip.start;
      zip_end = m.zip.end;
      town_start = m.town.start;
      town_end = m.town.end;
      stamp = m.stamp;
      hops = m.hops;
      version = 0;
      kind = member_kind;
      why = 0;
    }

abbrev pub told_by : PageLine → Result Page Dropped → MailPage
told_by line (Ok (Page.Version n)) = bare_of line.next line.start line.end version_kind n 0
told_by line (Ok (Page.Member m)) = member_page line m
told_by line (Ok Page.Skipped) = bare_of line.next line.start line.end skipped_kind 0 0
told_by line (Err why) = bare_of line.next line.start line.end dropped_kind 0 (why_of why)

abbrev pub told_line : PageLine → MailPage
told_line line = told_by line line.page

-- What the numbers say of the line: its bytes, and what it is.
abbrev pub member_at : MailPage → Member
member_at r =
    record {
      call = record { start = r.call_start; end = r.call_end };
      home = record { start = r.home_start; end = r.home_end };
      bid = record { start = r.bid_start; end = r.bid_end };
      stamp = r.stamp;
      origin = record { start = r.origin_start; end = r.origin_end };
      hops = r.hops;
      name = record { start = r.name_start; end = r.name_end };
      zip = record { start = r.zip_start; end = r.zip_end };
      town = record { start = r.town_start; end = r.town_end };
    }

abbrev pub bytes_at : Bytes → MailPage → Bytes
bytes_at mail r = bytes_between mail r.start r.end

abbrev pub page_said : Bytes → MailPage → pages.Page
page_said l r =
    cond (eqb r.kind version_kind) (pages.version r.version)
    (cond (eqb r.kind member_kind) (pages.member (member_in l (member_at r)))
    (cond (eqb r.kind skipped_kind) pages.skipped (pages.dropped r.why)))

-- The lines from a place on, by the answer: the one that it shows and those from its next place on, or none.
abbrev pub lines_said : Bytes → MailPage → List pages.ReadLine
lines_said mail r = cond (eqb r.kind end_kind) [] (record { bytes = bytes_at mail r; page = page_said (bytes_at mail r) r } ∷ pages_of (drop r.next mail))

-- Whatever a kind doesn't have is 0.
abbrev pub only_its_kind : MailPage → MailPage
only_its_kind r =
    record {
      next = r.next;
      start = r.start;
      end = r.end;
      call_start = r.call_start;
      call_end = r.call_end;
      home_start = r.home_start;
      home_end = r.home_end;
      bid_start = r.bid_start;
      bid_end = r.bid_end;
      origin_start = r.origin_start;
      origin_end = r.origin_end;
      name_start = r.name_start;
      name_end = r.name_end;
      zip_start = r.zip_start;
      zip_end = r.zip_end;
      town_start = r.town_start;
      town_end = r.town_end;
      stamp = r.stamp;
      hops = r.hops;
      version = 0;
      kind = member_kind;
      why = 0;
    }

abbrev pub normal : MailPage → MailPage
normal r =
    cond (eqb r.kind end_kind) (bare_of 0 0 0 end_kind 0 0)
    (cond (eqb r.kind version_kind) (bare_of r.next r.start r.end version_kind r.version 0)
    (cond (eqb r.kind member_kind) (only_its_kind r)
    (cond (eqb r.kind skipped_kind) (bare_of r.next r.start r.end skipped_kind 0 0)
    (bare_of r.next r.start r.end dropped_kind 0 r.why))))

-- A line lies in the mail, a member's fields in the line, in order, and the next place is a later one.
abbrev pub FieldsIn : Bool → Bytes → MailPage → Type 0
FieldsIn true mail r = FieldsLie (bytes_at mail r) data_after_flag (member_at r)
FieldsIn false mail r = Unit {0}

abbrev pub LineIn : Bool → Bytes → ℕ → MailPage → Type 0
LineIn true mail at r = Unit {0}
LineIn false mail at r = (at ≤ r.start) × (r.start ≤ r.end) × (r.end ≤ r.next) × (at < r.next) × (r.next ≤ length mail) × FieldsIn (eqb r.kind member_kind) mail r

-- No line where the mail is left unread; else the line at the place.
abbrev pub NextIs : Bytes → MailPages → ℕ → MailPage → Type 0
NextIs mail s at r = (lines_said mail r ≡ handed (is_unread s) (drop at mail)) × (r ≡ normal r) × LineIn (eqb r.kind end_kind) mail at r

-- ---------------------------------------------------------------- dates

abbrev pub told_seconds : Option ℤ → PageSeconds
told_seconds none = record { seconds = pos 0; answer = bad_date }
told_seconds (some t) = record { seconds = t; answer = 0 }

abbrev pub told_date : Option dates.Date → PageDate
told_date none = record { year = 0; month = 0; day = 0; text = 0 ∷ 0 ∷ 0 ∷ 0 ∷ 0 ∷ 0 ∷ []; answer = out_of_range }
told_date (some d) = record { year = d.year; month = d.month; day = d.day; text = date_text d; answer = 0 }
