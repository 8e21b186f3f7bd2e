-- Captures and what the program writes for each, proved by computation (proofs/Captures).
use Rattle.std.specs.Prelude.{List, [], ◌∷◌}
use Rattle.grammar.specs.Bytes.{Bytes}
use Rattle.grammar.specs.Ascii.{text}

pub record CaptureExample : Type 0 where
  pub capture : Bytes
  pub written : Bytes

-- "01's whole session, with the new SID, is compared first."
abbrev pub whole_capture : CaptureExample
whole_capture = record { capture = text "[TST-1-F$]\rFF\r"; written = text "[NOD-1-B1FH$]\r>\rFQ\rrefusal 0\n" }

abbrev pub more_captures : List CaptureExample
more_captures =
    -- nothing was heard
    record { capture = []; written = text "[NOD-1-B1FH$]\r>\rrefusal 0\n" }
    -- what follows our FQ is fed no more
    ∷ record { capture = text "[TST-1-F$]\rFF\rhello\r"; written = text "[NOD-1-B1FH$]\r>\rFQ\rrefusal 0\n" }
    -- a line that is no SID; then Q-1's line
    ∷ record { capture = text "hello\rFF\r"; written = text "[NOD-1-B1FH$]\r>\r*** Protocol error\rrefusal 3\n" }
    -- a plain message is accepted and kept, its BID is declined when it comes again, and then a proposal checksum is wrong
    ∷ record {
      capture = text "[TST-1-F$]\r\nFB P A B C X1 1\rF>\rT\rx\u{1a}\rFB P A B C x1 1\rF>\rFB P A B C X2 1\rF> 00\r";
      written = text "[NOD-1-B1FH$]\r>\rFS +\rFF\rFS -\rFF\r*** Protocol error\rrefusal 13\n";
    }
    ∷ []
