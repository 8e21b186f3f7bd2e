-- The questions and answers of the tests as numbers, for callers from C and Rust.
use Rattle.std.specs.Prelude.{Bool, cond, ℕ, eqb}
use Rattle.grammar.specs.Bytes.{Bytes}
use Rattle.grammar.specs.Fields.{plain, message, is_call, is_at, is_bid, is_heading, is_size, is_body}
use Rattle.byte.specs.declared.Class.{Class}

-- A class of bytes by its number: from and to, BID, title or name, digit, SID author, any other: SID data.
abbrev pub call_class : ℕ
call_class = 0

abbrev pub bid_class : ℕ
bid_class = 1

abbrev pub heading_class : ℕ
heading_class = 2

abbrev pub digit_class : ℕ
digit_class = 3

abbrev pub author_class : ℕ
author_class = 4

unfoldable pub class_by : ℕ → Class
class_by k =
    cond (eqb k call_class) Class.Call
    (cond (eqb k bid_class) Class.Bid
    (cond (eqb k heading_class) Class.Heading
    (cond (eqb k digit_class) Class.Digit
    (cond (eqb k author_class) Class.Author
    Class.Data))))

-- A field's rule by its number: from and to, at, BID, title or name, size, plain body, any other: packed body.
abbrev pub call_rule : ℕ
call_rule = 0

abbrev pub at_rule : ℕ
at_rule = 1

abbrev pub bid_rule : ℕ
bid_rule = 2

abbrev pub heading_rule : ℕ
heading_rule = 3

abbrev pub size_rule : ℕ
size_rule = 4

abbrev pub body_rule : ℕ
body_rule = 5

unfoldable pub field_is : ℕ → Bytes → Bool
field_is k w =
    cond (eqb k call_rule) (is_call w)
    (cond (eqb k at_rule) (is_at w)
    (cond (eqb k bid_rule) (is_bid w)
    (cond (eqb k heading_rule) (is_heading w)
    (cond (eqb k size_rule) (is_size w)
    (cond (eqb k body_rule) (is_body plain w)
    (is_body message w))))))
