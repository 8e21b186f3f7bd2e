-- 004's sample and the edges of each rule, computed.
use Rattle.std.specs.Prelude.{◌≡◌, refl, Bool, true, false, List, map, ◌++◌, ℕ, pos, negsuc, length}
use Rattle.std.proofs.Math.Option.{none, some}
use Rattle.grammar.specs.Bytes.{Bytes, CR, LF, nil, cons}
use Rattle.grammar.specs.Fields.{is_call, is_at, is_bid, is_size, read_from, hex_digit}
use Rattle.grammar.specs.Ascii.{text}
use Rattle.span.specs.Places.{upto}
use Rattle.text_line.specs.TextLines.{body_lines, text_lines}
use Rattle.dates.specs.Dates.{Date, is_date, day_number, date_of}
use Rattle.dates.specs.Digits.{read_date}
use Rattle.pages.specs.Fields.{member_of, who_of, when_of, whence_of, is_long, read_long, not_a_record, bad_version, bad_call, bad_home, bad_bid, bad_stamp, bad_origin, bad_hops, bad_name, bad_zip, bad_town}
use Rattle.pages.specs.Pages.{Page, version, member, skipped, dropped, version_of, by_letter, read_page, ReadLine, pages_of, Mail, mail_of}
use Rattle.pages.specs.Stamps.{seconds_of, to_seconds, day_of, to_date, day_before}

-- To unfold it is to unfold all that reads a line: what an example computes with is named here alone.
unfoldable pub pages_computed : Bool
unfolding read_page version_of by_letter member_of who_of when_of whence_of read_long is_long is_call is_at is_bid is_size read_from hex_digit upto
pages_computed = true

-- the lines of 004's sample mail
sample_v : read_page (text "D7 V 10") ≡ version 10
unfolding pages_computed
sample_v = refl

sample_b : read_page (text "68 B OE3DZW.#OE3.AUT.EU 10 0 DL8MBT AX25 OE3DZW-8 923478289 1") ≡ skipped
unfolding pages_computed
sample_b = refl

sample_m : read_page (text "5C M OE3DZW OE3DZW.#OE3.AUT.EU 749OE3DZW004 923471053 OE3DZW 1 \"Dietmar\" ? \"?\"") ≡ member (record { call = text "OE3DZW"; home = text "OE3DZW.#OE3.AUT.EU"; bid = text "749OE3DZW004"; stamp = 923471053; origin = text "OE3DZW"; hops = 1; name = text "Dietmar"; zip = text "?"; town = text "?" })
unfolding pages_computed
sample_m = refl

sample_e : read_page (text "00 E WW OE3DZW F29OE3DZW007 F29OE3DZW006 OE3DZW 1 \"#E\"") ≡ skipped
unfolding pages_computed
sample_e = refl

sample_r : read_page (text "R:990407/0944z @:OE3DZW.#OE3.AUT.EU [BayCom-Mailbox] Bcm1.40P") ≡ dropped not_a_record
unfolding pages_computed
sample_r = refl

-- the two digits: in either case, and no other byte; a space behind them
small_digits : read_page (text "5c V 10") ≡ version 10
unfolding pages_computed
small_digits = refl

no_digit : read_page (text "5G V 10") ≡ dropped not_a_record
unfolding pages_computed
no_digit = refl

one_digit : read_page (text "5 V 10") ≡ dropped not_a_record
unfolding pages_computed
one_digit = refl

no_space : read_page (text "5C.V 10") ≡ dropped not_a_record
unfolding pages_computed
no_space = refl

-- an empty line is of another form
empty : read_page (text "") ≡ dropped not_a_record
unfolding pages_computed
empty = refl

digits_alone : read_page (text "5C") ≡ dropped not_a_record
unfolding pages_computed
digits_alone = refl

-- a flag of 1 to 10 bytes and a space; the data may be empty
flag_of_10 : read_page (text "00 ABCDEFGHIJ x") ≡ skipped
unfolding pages_computed
flag_of_10 = refl

flag_of_11 : read_page (text "00 ABCDEFGHIJK x") ≡ dropped not_a_record
unfolding pages_computed
flag_of_11 = refl

flag_of_0 : read_page (text "00  x") ≡ dropped not_a_record
unfolding pages_computed
flag_of_0 = refl

flag_ends : read_page (text "00 X") ≡ dropped not_a_record
unfolding pages_computed
flag_ends = refl

data_empty : read_page (text "00 X ") ≡ skipped
unfolding pages_computed
data_empty = refl

-- flags are taken as they stand
small_v : read_page (text "00 v 99") ≡ skipped
unfolding pages_computed
small_v = refl

small_m : read_page (text "00 m x") ≡ skipped
unfolding pages_computed
small_m = refl

flag_vv : read_page (text "00 VV 99") ≡ skipped
unfolding pages_computed
flag_vv = refl

-- V: two decimal digits
v_99 : read_page (text "00 V 99") ≡ version 99
unfolding pages_computed
v_99 = refl

v_one : read_page (text "00 V 9") ≡ dropped bad_version
unfolding pages_computed
v_one = refl

v_three : read_page (text "00 V 110") ≡ dropped bad_version
unfolding pages_computed
v_three = refl

v_letter : read_page (text "00 V 1A") ≡ dropped bad_version
unfolding pages_computed
v_letter = refl

v_none : read_page (text "00 V ") ≡ dropped bad_version
unfolding pages_computed
v_none = refl

-- quoted text may be empty; a number has up to 10 digits
least : read_page (text "00 M A B C 0 D 9999999999 \"\" 1 \"\"") ≡ member (record { call = text "A"; home = text "B"; bid = text "C"; stamp = 0; origin = text "D"; hops = 9999999999; name = text ""; zip = text "1"; town = text "" })
unfolding pages_computed
least = refl

-- quoted text may hold spaces; a zip is not empty and may hold a quote
spaces : read_page (text "00 M A B C 00 D 1 \"a b\" \" \" \" \"") ≡ dropped bad_town
unfolding pages_computed
spaces = refl

zip_quote : read_page (text "00 M A B C 00 D 1 \"a b\" \"x \"c d\"") ≡ member (record { call = text "A"; home = text "B"; bid = text "C"; stamp = 0; origin = text "D"; hops = 1; name = text "a b"; zip = text "\"x"; town = text "c d" })
unfolding pages_computed
zip_quote = refl

-- each field by its rule, the first that breaks it named
call_long : read_page (text "00 M A234567 B C 0 D 1 \"\" 1 \"\"") ≡ dropped bad_call
unfolding pages_computed
call_long = refl

call_none : read_page (text "00 M  B C 0 D 1 \"\" 1 \"\"") ≡ dropped bad_call
unfolding pages_computed
call_none = refl

two_spaces : read_page (text "00 M A  B C 0 D 1 \"\" 1 \"\"") ≡ dropped bad_home
unfolding pages_computed
two_spaces = refl

home_bad : read_page (text "00 M A B..C C 0 D 1 \"\" 1 \"\"") ≡ dropped bad_home
unfolding pages_computed
home_bad = refl

bid_long : read_page (text "00 M A B 1234567890123 0 D 1 \"\" 1 \"\"") ≡ dropped bad_bid
unfolding pages_computed
bid_long = refl

stamp_11 : read_page (text "00 M A B C 00000000001 D 1 \"\" 1 \"\"") ≡ dropped bad_stamp
unfolding pages_computed
stamp_11 = refl

stamp_none : read_page (text "00 M A B C  D 1 \"\" 1 \"\"") ≡ dropped bad_stamp
unfolding pages_computed
stamp_none = refl

stamp_sign : read_page (text "00 M A B C -1 D 1 \"\" 1 \"\"") ≡ dropped bad_stamp
unfolding pages_computed
stamp_sign = refl

origin_bad : read_page (text "00 M A B C 0 . 1 \"\" 1 \"\"") ≡ dropped bad_origin
unfolding pages_computed
origin_bad = refl

hops_bad : read_page (text "00 M A B C 0 D x \"\" 1 \"\"") ≡ dropped bad_hops
unfolding pages_computed
hops_bad = refl

-- a quote that is not closed, or closed too early
name_open : read_page (text "00 M A B C 0 D 1 \"x 1") ≡ dropped bad_name
unfolding pages_computed
name_open = refl

name_bare : read_page (text "00 M A B C 0 D 1 x 1 \"\"") ≡ dropped bad_name
unfolding pages_computed
name_bare = refl

name_quote : read_page (text "00 M A B C 0 D 1 \"x\"y\" 1 \"\"") ≡ dropped bad_name
unfolding pages_computed
name_quote = refl

zip_none : read_page (text "00 M A B C 0 D 1 \"x\"  \"y\"") ≡ dropped bad_zip
unfolding pages_computed
zip_none = refl

-- nothing is missing and nothing follows
town_none : read_page (text "00 M A B C 0 D 1 \"x\" 1") ≡ dropped bad_town
unfolding pages_computed
town_none = refl

town_open : read_page (text "00 M A B C 0 D 1 \"x\" 1 \"y") ≡ dropped bad_town
unfolding pages_computed
town_open = refl

town_more : read_page (text "00 M A B C 0 D 1 \"x\" 1 \"y\" ") ≡ dropped bad_town
unfolding pages_computed
town_more = refl

town_one : read_page (text "00 M A B C 0 D 1 \"x\" 1 \"") ≡ dropped bad_town
unfolding pages_computed
town_one = refl

town_missing : read_page (text "00 M A B C 0 D 1 \"x\" 1 ") ≡ dropped bad_town
unfolding pages_computed
town_missing = refl

cut : read_page (text "00 M A B") ≡ dropped bad_bid
unfolding pages_computed
cut = refl

-- ---------------------------------------------------------------- a mail

abbrev line : Bytes → Bytes → Bytes
line w r = w ++ cons CR r

abbrev pages : Mail → List Page
pages m = map (λ (l : ReadLine). l.page) m.records

-- 004's sample: V and M are given, B and E skipped, the routing header dropped. CR LF changes nothing, nor does a last line without its CR.
abbrev sample : Bytes
sample =
    line (text "R:990407/0944z @:OE3DZW.#OE3.AUT.EU [BayCom-Mailbox] Bcm1.40P")
    (line (text "D7 V 10")
    (cons LF (line (text "68 B OE3DZW.#OE3.AUT.EU 10 0 DL8MBT AX25 OE3DZW-8 923478289 1")
    (line (text "5C M OE3DZW OE3DZW.#OE3.AUT.EU 749OE3DZW004 923471053 OE3DZW 1 \"Dietmar\" ? \"?\"")
    (text "00 E WW OE3DZW F29OE3DZW007 F29OE3DZW006 OE3DZW 1 \"#E\"")))))

sample-records : length (mail_of sample).records ≡ 2
unfolding pages_computed mail_of pages_of body_lines text_lines
sample-records = refl

sample-dropped : (mail_of sample).dropped ≡ 1
unfolding pages_computed mail_of pages_of body_lines text_lines
sample-dropped = refl

sample_read : (mail_of sample).unread ≡ false
unfolding pages_computed mail_of pages_of body_lines text_lines
sample_read = refl

-- one V above 10, also in the last line, leaves the whole mail unread
newer_last : mail_of (sample ++ cons CR (text "00 V 11")) ≡ record { unread = true; records = List.[]; dropped = 0 }
unfolding pages_computed mail_of pages_of body_lines text_lines
newer_last = refl

newer_first : mail_of (line (text "00 V 11") (line (text "00 V 10") nil)) ≡ record { unread = true; records = List.[]; dropped = 0 }
unfolding pages_computed mail_of pages_of body_lines text_lines
newer_first = refl

-- a V line that says no version leaves nothing unread
no_version : (mail_of (line (text "00 V 110") nil)).dropped ≡ 1
unfolding pages_computed mail_of pages_of body_lines text_lines
no_version = refl

-- an empty mail has no line, one of a CR has an empty one
no_line_lem : mail_of nil ≡ record { unread = false; records = List.[]; dropped = 0 }
unfolding pages_computed mail_of pages_of body_lines text_lines
no_line_lem = refl

one_cr : (mail_of (cons CR nil)).dropped ≡ 1
unfolding pages_computed mail_of pages_of body_lines text_lines
one_cr = refl

-- ---------------------------------------------------------------- dates

abbrev date : ℕ → ℕ → ℕ → Date
date y m d = record { year = y; month = m; day = d }

-- "So 990215 gives 918,950,400, and 700101 gives -86,400."
of_990215 : to_seconds (text "990215") ≡ some (pos 918950400)
unfolding to_seconds read_date is_date day_number seconds_of
of_990215 = refl

of_700101 : to_seconds (text "700101") ≡ some (negsuc 86399)
unfolding to_seconds read_date is_date day_number seconds_of
of_700101 = refl

of_691231 : to_seconds (text "691231") ≡ some (pos 3155587200)
unfolding to_seconds read_date is_date day_number seconds_of
of_691231 = refl

-- the day before 1 March 2000 is 29 February
of_000229 : to_seconds (text "000301") ≡ some (pos 951782400)
unfolding to_seconds read_date is_date day_number seconds_of
of_000229 = refl

of_990229 : to_seconds (text "990229") ≡ none
unfolding to_seconds read_date is_date day_number seconds_of
of_990229 = refl

of_five : to_seconds (text "99021") ≡ none
unfolding to_seconds read_date is_date day_number seconds_of
of_five = refl

-- "so 918,950,400 gives 990214"
back_990214 : to_date (pos 918950400) ≡ some (date 1999 2 14)
unfolding to_date day_of date_of
back_990214 = refl

-- the last second of that day and the first of the next
back_last : to_date (pos 919036799) ≡ some (date 1999 2 14)
unfolding to_date day_of date_of
back_last = refl

back_next : to_date (pos 919036800) ≡ some (date 1999 2 15)
unfolding to_date day_of date_of
back_next = refl

-- the range on both sides
back_0 : to_date (pos 0) ≡ some (date 1970 1 1)
unfolding to_date day_of date_of
back_0 = refl

back_before : to_date (negsuc 0) ≡ none
unfolding to_date day_of date_of
back_before = refl

back_2069 : to_date (pos 3155759999) ≡ some (date 2069 12 31)
unfolding to_date day_of date_of
back_2069 = refl

back_2070 : to_date (pos 3155760000) ≡ none
unfolding to_date day_of date_of
back_2070 = refl

-- the day before
before_march : day_before (date 2000 3 1) ≡ date 2000 2 29
unfolding day_before
before_march = refl

before_january : day_before (date 2000 1 1) ≡ date 1999 12 31
unfolding day_before
before_january = refl
