-- A portion of a transfer, read byte by byte into the array of the heading and the store of the body.
use Rattle.std.specs.Prelude.{◌≡◌, ℕ, ◌+◌, min, Bool, true, false, cond, [], ◌∷◌, length, ◌==◌, slice_set}
use Rattle.grammar.specs.Bytes.{Bytes}
use Rattle.transfer_step.specs.declared.Reader.{Reader}
use Rattle.transfer_step.specs.Outcome.{ReadOutcome, More}
use Rattle.transfer_step.specs.Step.{goes_on, step_of}
use Rattle.transfer_step.specs.Names.{to_heading, to_body}
use Rattle.grammar.specs.Fields.{body_max}

-- A portion's outcome, the reading after it, and how many bytes were read, a refused one and the last one of a transfer included.
pub record FedPortion : Type 0 where
  pub outcome : ReadOutcome
  pub reader : Reader
  pub count : ℕ

-- What a portion comes to, with the heading's array and the store as they are then.
pub record PortionRead : Type 0 where
  pub fed : FedPortion
  pub heading : Bytes
  pub store : Bytes

abbrev pub portion_read : FedPortion → Bytes → Bytes → PortionRead
portion_read f hd st = record { fed = f; heading = hd; store = st }

-- How many bytes a store takes of a body: "A body has at most 65,535 bytes".
abbrev pub room_of : Bytes → ℕ
room_of st = min (length st) body_max

-- The heading's array after a byte: at index head of the reading before it. (`slice_set` past the end changes nothing.)
unfoldable pub heading_put : ℕ → Reader → ℕ → Bytes → Bytes
heading_put put r b hd = cond (put == to_heading) (slice_set hd r.head b) hd

-- The store after a byte: at index body of the reading before it.
unfoldable pub store_put : ℕ → Reader → ℕ → Bytes → Bytes
store_put put r b st = cond (put == to_body) (slice_set st r.body b) st

-- The same after n bytes more.
abbrev pub after_bytes : ℕ → PortionRead → PortionRead
after_bytes n u = portion_read (record { outcome = u.fed.outcome; reader = u.fed.reader; count = n + u.fed.count }) u.heading u.store

-- A portion, up to its end or an outcome; the byte of the outcome is counted.
unfoldable pub feed_of : ℕ → Reader → Bytes → Bytes → Bytes → PortionRead
feed_of room r [] hd st = portion_read (record { outcome = More; reader = r; count = 0 }) hd st
feed_of room r (b ∷ bs) hd st =
    let s = step_of room r b in
    let hd' = heading_put s.put r b hd in
    let st' = store_put s.put r b st in
    let u = feed_of room s.reader bs hd' st' in
    cond (goes_on s.outcome) (after_bytes 1 u) (portion_read (record { outcome = s.outcome; reader = s.reader; count = 1 }) hd' st')

-- All of the bytes go to the body as they come, and q is the reading after them, whatever the heading is; or none is read.
abbrev pub RunsOn : Bool → Reader → Reader → Bytes → Bytes → Bytes → Type 0
RunsOn true q r bs st st' = (hd : Bytes) → feed_of (room_of st) r bs hd st ≡ portion_read (record { outcome = More; reader = q; count = length bs }) hd st'
RunsOn false q r bs st st' = st' ≡ st
