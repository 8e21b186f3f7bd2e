-- DEMAND 2, OUR TURN: 01, "We propose waiting records in table order: form 0 in plain mode, 1 and 2 in framed mode, none deferred in this
-- session. A record is added while fewer than five are in and the announced sizes so far are below 10,240; the one that overruns is still
-- in." The theorems `block_exact`, `block_only` and `turn_exact` are in proofs/OurTurn.
use Rattle.std.specs.Prelude.{◌≡◌, Bool, true, false, ◌&&◌, ◌||◌, List, [], ◌∷◌, ◌++◌, ℕ, ◌+◌, ◌≤◌, ◌<◌, eqb, ltb, leb, length, get_or}
use Rattle.grammar.specs.Bytes.{every}
use Rattle.grammar.specs.Turns.{in_mode, fixed_text, our_ff, our_fq, with_cr}
use Rattle.mail.specs.Mail.{Record, record_at}
use Rattle.session.specs.Choices.{Shelf, size_at}
use Rattle.session.specs.Session.{Memory}
use Rattle.demand2.specs.Limits.{block_limit, announced_limit, state_waiting, not_deferred}
use Rattle.demand2.specs.Marks.{is_in}
use Rattle.demand2.specs.Events.{proposed, block_text, turn_said}

-- "waiting records .. form 0 in plain mode, 1 and 2 in framed mode, none deferred in this session": waiting, and no flag
abbrev pub may_propose : List Record → Bool → List ℕ → List ℕ → ℕ → Bool
may_propose T framed states flags i =
    ltb i (length T) && (in_mode framed (record_at T i).form && (eqb (get_or states i 0) state_waiting && eqb (get_or flags i 0) not_deferred))

-- "in table order"
abbrev pub rising : List ℕ → Bool
rising [] = true
rising (x ∷ xs) = every (λ (y : ℕ). ltb x y) xs && rising xs

-- The announced sizes of the records at these places, together.
abbrev pub sizes : List Record → List ℕ → ℕ
sizes T [] = 0
sizes T (i ∷ is) = size_at T i + sizes T is

-- What the places of our block are.
pub record OurBlock (T : List Record) (framed : Bool) (states flags : List ℕ) (is : List ℕ) : Type 0 where
  -- in table order, and only such records
  pub order : rising is ≡ true
  pub allowed : (i : ℕ) → is_in i is ≡ true → may_propose T framed states flags i ≡ true
  -- "while fewer than five are in and the announced sizes so far are below 10,240"
  pub few : length is ≤ block_limit
  pub below : (xs : List ℕ) (i : ℕ) (ys : List ℕ) → is ≡ xs ++ i ∷ ys → sizes T xs < announced_limit
  -- one that is left out comes later in the table than all that are in, and could not be added
  pub first : (i : ℕ) → may_propose T framed states flags i ≡ true → is_in i is ≡ false → (j : ℕ) → is_in j is ≡ true → j < i
  pub full : (i : ℕ) → may_propose T framed states flags i ≡ true → is_in i is ≡ false → leb block_limit (length is) || leb announced_limit (sizes T is) ≡ true

-- What we say in our turn. ff: the partner's turn just now was FF
pub record TurnExact (E : Shelf) (ff : Bool) (m : Memory) : Type 0 where
  pub block : OurBlock E.table m.framed m.states m.deferred (proposed E m)
  -- "If none remains"
  pub none : proposed E m ≡ [] → (i : ℕ) → may_propose E.table m.framed m.states m.deferred i ≡ false
  pub remains : ((i : ℕ) → may_propose E.table m.framed m.states m.deferred i ≡ false) → proposed E m ≡ []
  -- "FF, or FQ if the partner's turn just now was FF", exactly then
  pub says_ff : proposed E m ≡ [] → ff ≡ false → turn_said E ff (proposed E m) ≡ with_cr (fixed_text our_ff)
  pub only_ff : turn_said E ff (proposed E m) ≡ with_cr (fixed_text our_ff) → (proposed E m ≡ []) × (ff ≡ false)
  pub says_fq : proposed E m ≡ [] → ff ≡ true → turn_said E ff (proposed E m) ≡ with_cr (fixed_text our_fq)
  pub only_fq : turn_said E ff (proposed E m) ≡ with_cr (fixed_text our_fq) → (proposed E m ≡ []) × (ff ≡ true)
  -- else the proposals of the block and `F>`
  pub says : (i : ℕ) (is : List ℕ) → proposed E m ≡ i ∷ is
      → turn_said E ff (proposed E m) ≡ block_text E.table (i ∷ is)
