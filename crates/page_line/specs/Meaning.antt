-- What an answer says of its line, and that the fields of a member lie in the line, in order, behind the flag.
use Rattle.std.specs.Prelude.{◌≡◌, Result, Ok, Err}
use Rattle.grammar.specs.Bytes.{Bytes}
use Rattle.pages.specs.Pages as pages
use Rattle.pages.specs.Pages.{data_after_flag}
use Rattle.page_cut.specs.Why.{why_of}
use Rattle.page_cut.specs.declared.Dropped.{Dropped}
use Rattle.page_member.specs.Meaning.{member_in, FieldsLie}
use Rattle.page_line.specs.declared.Page.{Page}

abbrev pub page_said : Bytes → Result Page Dropped → pages.Page
page_said l (Ok (Page.Version n)) = pages.version n
page_said l (Ok (Page.Member m)) = pages.member (member_in l m)
page_said l (Ok Page.Skipped) = pages.skipped
page_said l (Err why) = pages.dropped (why_of why)

abbrev pub PageLies : Bytes → Result Page Dropped → Type 0
PageLies l (Ok (Page.Version n)) = Unit {0}
PageLies l (Ok (Page.Member m)) = FieldsLie l data_after_flag m
PageLies l (Ok Page.Skipped) = Unit {0}
PageLies l (Err why) = Unit {0}

abbrev pub PageIs : Bytes → Result Page Dropped → pages.Page → Type 0
PageIs l r p = (page_said l r ≡ p) × PageLies l r
