-- Why a line is dropped, by this reader's own numbers, and what is read in the words of the white pages.
use Rattle.std.specs.Prelude.{ℕ, Result, Ok, Err}
use Rattle.pages.specs.Fields as pages
use Rattle.pages.specs.Fields.{not_a_record, bad_version, bad_call, bad_home, bad_bid, bad_stamp, bad_origin, bad_hops, bad_name, bad_zip, bad_town}
use Rattle.page_cut.specs.declared.Dropped.{Dropped}

abbrev pub why_of : Dropped → ℕ
why_of Dropped.NoRecord = not_a_record
why_of Dropped.BadVersion = bad_version
why_of Dropped.BadCall = bad_call
why_of Dropped.BadHome = bad_home
why_of Dropped.BadBid = bad_bid
why_of Dropped.BadStamp = bad_stamp
why_of Dropped.BadOrigin = bad_origin
why_of Dropped.BadHops = bad_hops
why_of Dropped.BadName = bad_name
why_of Dropped.BadZip = bad_zip
why_of Dropped.BadTown = bad_town

-- What an answer reads as, where a value reads as this function says.
abbrev pub read_said : {A B : Type 0} → (A → B) → Result A Dropped → pages.Read B
read_said f (Ok a) = pages.says (f a)
read_said f (Err why) = pages.breaks (why_of why)
