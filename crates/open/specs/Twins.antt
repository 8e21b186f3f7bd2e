-- Tables with two or three records of one BID or nearly so, and the place of the fault that open finds; proved by computation (proofs/Twins).
use Rattle.std.specs.Prelude.{List, [], ◌∷◌, ◌++◌, ℕ, replicate}
use Rattle.grammar.specs.Bytes.{Bytes}
use Rattle.grammar.specs.Ascii.{text, char}
use Rattle.grammar.specs.Fields.{plain}
use Rattle.grammar.specs.Refusals.{no_place}
use Rattle.phase.specs.Phase.{state_waiting}
use Rattle.places.specs.Places.{partners}
use Rattle.layout.specs.Layout.{extent, record_out}
use Rattle.open.specs.Opening.{table_fault}

-- A good record with this BID, titled by the first byte of its store.
abbrev pub good_with : Bytes → Bytes
good_with bid =
    record_out (replicate partners state_waiting) (record { form = plain; type = char "P"; from = text "A"; at = text "B"; to = text "C"; bid = bid; size = 0 })
    (extent 0 1) (extent 0 0) (extent 0 0)

abbrev pub table_with : List Bytes → Bytes
table_with [] = []
table_with (b ∷ bs) = good_with b ++ table_with bs

abbrev pub fault_with : List Bytes → ℕ
fault_with bids = table_fault (table_with bids) (text "T") [] []

pub record Twins : Type 0 where
  pub bids : List Bytes
  pub fault : ℕ

-- "a table with `12_ab` and `12_AB` now gets 1 at the later record"; "Bytes from 0x80 still compare exactly."
abbrev pub twins : List Twins
twins =
    record { bids = text "12_ab" ∷ text "12_AB" ∷ []; fault = 1 } ∷
    record { bids = text "12_ab" ∷ text "X1" ∷ text "12_aB" ∷ []; fault = 2 } ∷
    record { bids = text "ab" ∷ text "AB" ∷ text "Ab" ∷ []; fault = 1 } ∷
    record { bids = text "12_ab" ∷ text "12_ab" ∷ []; fault = 1 } ∷
    record { bids = text "12_ab" ∷ text "12_abc" ∷ text "12_a" ∷ []; fault = no_place } ∷
    record { bids = text "1[" ∷ text "1{" ∷ text "1@" ∷ text "1`" ∷ text "1^" ∷ text "1~" ∷ []; fault = no_place } ∷
    record { bids = (201 ∷ []) ∷ (233 ∷ []) ∷ (105 ∷ []) ∷ []; fault = no_place } ∷
    []
