-- 01, "The log": what whole units do to states, transfers owed, our proposals and messages kept, in its own words. The session has words of its own for the
-- same (crates/mail); that they come to one is proved with demand 3, and nothing here cites them.
use Rattle.std.specs.Prelude.{Bool, true, false, cond, ◌||◌, List, [], ◌∷◌, ◌++◌, ℕ, suc, ◌+◌, eqb, length}
use Rattle.grammar.specs.Turns.{Proposal}
use Rattle.grammar.specs.Answers.{Sign, accept, decline, defer}
use Rattle.grammar.specs.Transfers.{Content}
use Rattle.phase.specs.Phase.{state_forwarded, state_declined}
use Rattle.mail.specs.Mail.{Message}

-- ---------------------------------------------------------------- states

-- Place i is one of these.
abbrev pub one_of : ℕ → List ℕ → Bool
one_of i [] = false
one_of i (j ∷ js) = eqb i j || one_of i js

-- Of the states from place i on, those at the places `is` are made v; every other is as it was.
abbrev pub made_from : ℕ → ℕ → List ℕ → List ℕ → List ℕ
made_from i v is [] = []
made_from i v is (s ∷ st) = cond (one_of i is) v s ∷ made_from (suc i) v is st

-- "The partner's makes every sent record 1."
abbrev pub forwarded_sent : List ℕ → List ℕ → List ℕ
forwarded_sent sent st = made_from 0 state_forwarded sent st

-- ---------------------------------------------------------------- an FS line

-- "`+` accept, `-` decline, `=` defer"
abbrev pub is_plus : Sign → Bool
is_plus accept = true
is_plus decline = false
is_plus defer = false

abbrev pub is_minus : Sign → Bool
is_minus accept = false
is_minus decline = true
is_minus defer = false

abbrev pub is_equals : Sign → Bool
is_equals accept = false
is_equals decline = false
is_equals defer = true

-- Those to which the line gives such a sign, in order: "one sign a proposal"
abbrev pub given_sign : {A : Type 0} → (Sign → Bool) → List Sign → List A → List A
given_sign such [] xs = []
given_sign such (s ∷ ss) [] = []
given_sign such (s ∷ ss) (x ∷ xs) = cond (such s) (x ∷ given_sign such ss xs) (given_sign such ss xs)

-- "the accepted transfers in order"
abbrev pub accepted_by : {A : Type 0} → List Sign → List A → List A
accepted_by ss xs = given_sign is_plus ss xs

-- "The partner's makes declined records 2."
abbrev pub declined_by : List Sign → List ℕ → List ℕ → List ℕ
declined_by ss is st = made_from 0 state_declined (given_sign is_minus ss is) st

-- ---------------------------------------------------------------- our proposals

-- The records sent since the partner's last turn, and "records proposed, forwarded, declined, deferred" (02, Q-3).
pub record Account : Type 0 where
  pub sent : List ℕ
  pub proposed : ℕ
  pub forwarded : ℕ
  pub declined : ℕ
  pub deferred : ℕ

-- "all 0 when open accepts"
abbrev pub no_account : Account
no_account = record { sent = []; proposed = 0; forwarded = 0; declined = 0; deferred = 0 }

-- So many are proposed.
abbrev pub with_proposed : ℕ → Account → Account
with_proposed n a = record { sent = a.sent; proposed = a.proposed + n; forwarded = a.forwarded; declined = a.declined; deferred = a.deferred }

-- "Our owed transfer, as we write it, given whole: its record is sent."
abbrev pub with_sent : ℕ → Account → Account
with_sent i a = record { sent = a.sent ++ (i ∷ []); proposed = a.proposed; forwarded = a.forwarded; declined = a.declined; deferred = a.deferred }

-- "deferred at the FS line" (02, Q-3), and there declined: those to which it gives these signs
abbrev pub with_answers : List Sign → List ℕ → Account → Account
with_answers ss is a =
    record {
      sent = a.sent;
      proposed = a.proposed;
      forwarded = a.forwarded;
      declined = a.declined + length (given_sign is_minus ss is);
      deferred = a.deferred + length (given_sign is_equals ss is);
    }

-- The partner's turn forwards every sent record. They are then forgotten; 01 does not say so, and it comes to the same: a state set to 1 stays 1, as
-- we propose only waiting records.
abbrev pub with_forwarded : Account → Account
with_forwarded a =
    record { sent = []; proposed = a.proposed; forwarded = a.forwarded + length a.sent; declined = a.declined; deferred = a.deferred }

-- ---------------------------------------------------------------- a message

-- "kept, with its proposal's form and fields as read, and its own heading and body"
abbrev pub kept_as : Proposal → Content → Message
kept_as p c =
    record { form = p.form; type = p.type; from = p.from; at = p.at; to = p.to; bid = p.bid; heading = c.heading; body = c.body }
