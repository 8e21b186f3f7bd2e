-- "M gives call, home mailbox, BID, time stamp, origin, hops, quoted name, zip, quoted town, one space apart: mailboxes by 01's at rule, call and
-- BID by its from and BID rules, numbers of 1 to 10 digits, quoted text without a quote, zip not empty and without a space". Read from the left,
-- three fields at a time; what breaks its rule first is named.
use Rattle.std.specs.Prelude.{Bool, cond, ◌&&◌, [], ◌∷◌, ◌++◌, ℕ, suc, ◌+◌, eqb, leb, length, get_or, take, drop}
use Rattle.std.proofs.Math.Option.{Option, none, some}
use Rattle.grammar.specs.Bytes.{Bytes, SP}
use Rattle.grammar.specs.Fields.{field, is_call, is_at, is_bid, digit, read_from}
use Rattle.span.specs.Places.{upto}

-- Why a line is dropped, by this reader's own numbers.
abbrev pub not_a_record : ℕ
not_a_record = 1

abbrev pub bad_version : ℕ
bad_version = 2

abbrev pub bad_call : ℕ
bad_call = 3

abbrev pub bad_home : ℕ
bad_home = 4

abbrev pub bad_bid : ℕ
bad_bid = 5

abbrev pub bad_stamp : ℕ
bad_stamp = 6

abbrev pub bad_origin : ℕ
bad_origin = 7

abbrev pub bad_hops : ℕ
bad_hops = 8

abbrev pub bad_name : ℕ
bad_name = 9

abbrev pub bad_zip : ℕ
bad_zip = 10

abbrev pub bad_town : ℕ
bad_town = 11

-- What was read, or why it wasn't.
pub data Read (A : Type 0) : Type 0 where
  says : A → Read A
  breaks : ℕ → Read A

-- ---------------------------------------------------------------- pieces of a line

-- "one space apart": what stands before the next space, and what follows that space. Without a space nothing follows, and no field is allowed to
-- be missing: call, mailbox, BID, number and zip aren't empty, and name and town have quotes.
abbrev pub word : Bytes → Bytes
word r = take (upto SP r) r

abbrev pub past : Bytes → Bytes
past r = drop (suc (upto SP r)) r

-- The quote that stands before and after name and town.
abbrev pub QUOTE : ℕ
QUOTE = 34

-- What begins with a quote: the text up to the next one, and what follows that.
abbrev pub quoted : Bytes → Bytes
quoted r = take (upto QUOTE (drop 1 r)) (drop 1 r)

abbrev pub past_quote : Bytes → Bytes
past_quote r = drop (suc (upto QUOTE (drop 1 r))) (drop 1 r)

-- The text begins with this byte, which isn't 0.
abbrev pub begins : ℕ → Bytes → Bool
begins b r = eqb (get_or r 0 0) b

-- The most digits of a number.
abbrev pub long_digits : ℕ
long_digits = 10

-- "numbers of 1 to 10 digits"
unfoldable pub is_long : Bytes → Bool
is_long w = field digit long_digits w

unfoldable pub read_long : Bytes → Option ℕ
read_long w = cond (is_long w) (some (read_from 0 w)) none

-- ---------------------------------------------------------------- call, home mailbox, BID

pub record Who : Type 0 where
  pub call : Bytes
  pub home : Bytes
  pub bid : Bytes
  pub rest : Bytes

unfoldable pub who_of : Bytes → Read Who
who_of r =
    cond (is_call (word r))
    (cond (is_at (word (past r)))
    (cond (is_bid (word (past (past r))))
    (says (record { call = word r; home = word (past r); bid = word (past (past r)); rest = past (past (past r)) }))
    (breaks bad_bid))
    (breaks bad_home))
    (breaks bad_call)

-- ---------------------------------------------------------------- time stamp, origin, hops

pub record When : Type 0 where
  pub stamp : ℕ
  pub origin : Bytes
  pub hops : ℕ
  pub rest : Bytes

abbrev pub hopped : ℕ → Bytes → Option ℕ → Bytes → Read When
hopped n w none r = breaks bad_hops
hopped n w (some h) r = says (record { stamp = n; origin = w; hops = h; rest = r })

abbrev pub stamped : Option ℕ → Bytes → Read When
stamped none r = breaks bad_stamp
stamped (some n) r = cond (is_at (word r)) (hopped n (word r) (read_long (word (past r))) (past (past r))) (breaks bad_origin)

unfoldable pub when_of : Bytes → Read When
when_of r = stamped (read_long (word r)) (past r)

-- ---------------------------------------------------------------- name, zip, town

pub record Whence : Type 0 where
  pub name : Bytes
  pub zip : Bytes
  pub town : Bytes

-- A name and the space behind it; where the second quote is missing nothing follows.
abbrev pub is_name : Bytes → Bool
is_name r = begins QUOTE r && begins SP (past_quote r)

-- A text's two quotes.
abbrev pub two_quotes : ℕ
two_quotes = 2

-- A town and nothing behind it.
abbrev pub is_town : Bytes → Bool
is_town r = begins QUOTE r && eqb (upto QUOTE (drop 1 r) + two_quotes) (length r)

abbrev pub zipped : Bytes → Bytes → Read Whence
zipped name r =
    cond (leb 1 (length (word r)))
    (cond (is_town (past r))
    (says (record { name = name; zip = word r; town = quoted (past r) }))
    (breaks bad_town))
    (breaks bad_zip)

unfoldable pub whence_of : Bytes → Read Whence
whence_of r = cond (is_name r) (zipped (quoted r) (drop 1 (past_quote r))) (breaks bad_name)

-- ---------------------------------------------------------------- all nine

pub record Member : Type 0 where
  pub call : Bytes
  pub home : Bytes
  pub bid : Bytes
  pub stamp : ℕ
  pub origin : Bytes
  pub hops : ℕ
  pub name : Bytes
  pub zip : Bytes
  pub town : Bytes

abbrev pub member_from : Who → When → Read Whence → Read Member
member_from a b (breaks n) = breaks n
member_from a b (says c) =
    says
    (record {
      call = a.call;
      home = a.home;
      bid = a.bid;
      stamp = b.stamp;
      origin = b.origin;
      hops = b.hops;
      name = c.name;
      zip = c.zip;
      town = c.town;
    })

abbrev pub member_after : Who → Read When → Read Member
member_after a (breaks n) = breaks n
member_after a (says b) = member_from a b (whence_of b.rest)

abbrev pub member_with : Read Who → Read Member
member_with (breaks n) = breaks n
member_with (says a) = member_after a (when_of a.rest)

unfoldable pub member_of : Bytes → Read Member
member_of r = member_with (who_of r)
