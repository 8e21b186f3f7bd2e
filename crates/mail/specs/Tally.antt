-- 02, Q-3, "Tally the waiting mail as we go": how many records wait and the sum of their sizes, and what became of those that we proposed. Here
-- as plain numbers; session memory holds each in one byte.
use Rattle.std.specs.Prelude.{cond, List, [], ◌∷◌, ℕ, suc, ◌+◌, eqb}
use Rattle.grammar.specs.Answers.{Sign, accept, decline, defer}
use Rattle.phase.specs.Phase.{state_waiting}
use Rattle.mail.specs.Mail.{Record}

-- ---------------------------------------------------------------- what waits

-- "how many records wait"
abbrev pub waiting_count : List ℕ → ℕ
waiting_count [] = 0
waiting_count (x ∷ st) = cond (eqb x state_waiting) (suc (waiting_count st)) (waiting_count st)

-- "and the sum of their announced sizes"
abbrev pub waiting_bytes : List Record → List ℕ → ℕ
waiting_bytes [] st = 0
waiting_bytes (r ∷ T) [] = 0
waiting_bytes (r ∷ T) (x ∷ st) = cond (eqb x state_waiting) (r.size + waiting_bytes T st) (waiting_bytes T st)

-- ---------------------------------------------------------------- the tally sheet

-- "records proposed, forwarded, declined, deferred": those not settled yet are the rest of the proposed ones
pub record Counts : Type 0 where
  pub proposed : ℕ
  pub forwarded : ℕ
  pub declined : ℕ
  pub deferred : ℕ

-- "all 0 when open accepts"
abbrev pub no_counts : Counts
no_counts = record { proposed = 0; forwarded = 0; declined = 0; deferred = 0 }

-- So many more of one kind; all else is as it was.
abbrev pub more_proposed : ℕ → Counts → Counts
more_proposed n c = record { proposed = c.proposed + n; forwarded = c.forwarded; declined = c.declined; deferred = c.deferred }

abbrev pub more_forwarded : ℕ → Counts → Counts
more_forwarded n c = record { proposed = c.proposed; forwarded = c.forwarded + n; declined = c.declined; deferred = c.deferred }

abbrev pub more_declined : ℕ → Counts → Counts
more_declined n c = record { proposed = c.proposed; forwarded = c.forwarded; declined = c.declined + n; deferred = c.deferred }

abbrev pub more_deferred : ℕ → Counts → Counts
more_deferred n c = record { proposed = c.proposed; forwarded = c.forwarded; declined = c.declined; deferred = c.deferred + n }

-- ---------------------------------------------------------------- proposals with the answers to them

-- Those that were declined, in order.
abbrev pub declined_ones {ℓ} : {A : Type ℓ} → List Sign → List A → List A
declined_ones [] xs = []
declined_ones (s ∷ ss) [] = []
declined_ones (accept ∷ ss) (x ∷ xs) = declined_ones ss xs
declined_ones (decline ∷ ss) (x ∷ xs) = x ∷ declined_ones ss xs
declined_ones (defer ∷ ss) (x ∷ xs) = declined_ones ss xs

-- Those that were deferred, in order.
abbrev pub deferred_ones {ℓ} : {A : Type ℓ} → List Sign → List A → List A
deferred_ones [] xs = []
deferred_ones (s ∷ ss) [] = []
deferred_ones (accept ∷ ss) (x ∷ xs) = deferred_ones ss xs
deferred_ones (decline ∷ ss) (x ∷ xs) = deferred_ones ss xs
deferred_ones (defer ∷ ss) (x ∷ xs) = x ∷ deferred_ones ss xs
