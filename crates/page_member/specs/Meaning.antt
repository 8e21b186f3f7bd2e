-- What an answer says of its line, and that its places lie in the line, in order.
use Rattle.std.specs.Prelude.{◌≡◌, ℕ, length, drop, Result, Ok, Err}
use Rattle.grammar.specs.Bytes.{Bytes}
use Rattle.span.specs.Places.{part}
use Rattle.pages.specs.Fields as pages
use Rattle.page_cut.specs.Why.{read_said}
use Rattle.page_cut.specs.declared.Dropped.{Dropped}
use Rattle.page_words.specs.Meaning.{LiesBetween}
use Rattle.page_member.specs.declared.Member.{Member}

-- The nine fields of a line.
abbrev pub member_in : Bytes → Member → pages.Member
member_in l m =
    record {
      call = part l m.call;
      home = part l m.home;
      bid = part l m.bid;
      stamp = m.stamp;
      origin = part l m.origin;
      hops = m.hops;
      name = part l m.name;
      zip = part l m.zip;
      town = part l m.town;
    }

abbrev pub FieldsLie : Bytes → ℕ → Member → Type 0
FieldsLie l at m =
    LiesBetween at m.call m.home.start
    × LiesBetween at m.home m.bid.start
    × LiesBetween at m.bid m.origin.start
    × LiesBetween at m.origin m.name.start
    × LiesBetween at m.name m.zip.start
    × LiesBetween at m.zip m.town.start
    × LiesBetween at m.town (length l)

abbrev pub MemberLies : Bytes → ℕ → Result Member Dropped → Type 0
MemberLies l at (Err why) = Unit {0}
MemberLies l at (Ok m) = FieldsLie l at m

abbrev pub MemberIs : Bytes → ℕ → Result Member Dropped → Type 0
MemberIs l at r = (read_said (member_in l) r ≡ pages.member_of (drop at l)) × MemberLies l at r
