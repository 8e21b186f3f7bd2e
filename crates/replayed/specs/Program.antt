-- WHAT THE PROGRAM'S CALLS COME TO. The program (crates/replay) reads a portion, plays it (crates/capture), writes the bytes of the buffer that are
-- counted, and reads on until an end; the contracts of `start` and `play` say that each call is play_start_of or play_of. So, but for reading and writing, it
-- is `program_ran`, and then `last_line`. The claim: whatever portions a capture comes in, that is what our node would have made of the capture. The proof is proofs/Program.
use Rattle.std.specs.Prelude.{◌≡◌, true, cond, List, [], ◌∷◌, ◌++◌, ℕ, ◌*◌, ◌≤◌, length, take}
use Rattle.grammar.specs.Bytes.{Bytes, every, is_byte, joined}
use Rattle.buffer.specs.Put.{put_bytes, put_cursor}
use Rattle.refusal_line.specs.Line.{refusal_line}
use Rattle.places.specs.Places.{session_len, entry_len}
use Rattle.called_station.specs.Station.{Station}
use Rattle.capture.specs.Playing.{Playing, unplayed, play_start_of, play_of}
use Rattle.replayed.specs.Replayed.{Replayed, replayed, program_writes, lent_places, lent_bytes}

-- The bytes of the buffer that are counted.
abbrev pub bytes_counted : Playing → Bytes
bytes_counted p = take p.played.count p.out

-- The portions still to come, after a call that came to p; at the end of the input nothing was refused.
unfoldable pub portions_played : Playing → List Bytes → Replayed
portions_played p [] = record { sent = bytes_counted p; refusal = cond p.played.over p.played.refusal 0 }
portions_played p (bs ∷ portions) =
    let r = portions_played (play_of (unplayed p.station p.out) bs) portions in
    cond p.played.over (record { sent = bytes_counted p; refusal = p.played.refusal }) (record { sent = bytes_counted p ++ r.sent; refusal = r.refusal })

unfoldable pub program_ran : Station → Bytes → List Bytes → Replayed
program_ran s out portions = portions_played (play_start_of s out) portions

-- The memory that the program lends, of which nothing is asked but its sizes: "an inbox of 64 places and 32 KiB".
pub record Lends (s : Station) : Type 0 where
  pub session : length s.session ≡ session_len
  pub inbox : length s.inbox ≡ lent_places * entry_len
  pub store : length s.store ≡ lent_bytes
  pub octets : (every is_byte s.session ≡ true) × (every is_byte s.inbox ≡ true) × (every is_byte s.store ≡ true)

-- So many bytes are room enough for what waits after open or a byte, and for the last line.
abbrev pub most_waiting : ℕ
most_waiting = 32

-- The portions are bytes, and a buffer of n bytes has room for what each brings.
abbrev pub PortionsFit : ℕ → List Bytes → Type 0
PortionsFit n [] = Unit {0}
PortionsFit n (bs ∷ portions) = (every is_byte bs ≡ true) × (most_waiting * length bs ≤ n) × PortionsFit n portions

-- The last line, as it is written into a buffer (crates/refusal_line).
abbrev pub last_line : ℕ → Bytes → Bytes
last_line n line = take (put_cursor (length line) (record { at = 0; skip = 0 }) (refusal_line n)).at (put_bytes line (record { at = 0; skip = 0 }) (refusal_line n))

-- Its calls come to what our node would have made of the capture, and ALL THAT IT WRITES is that and the last line.
pub record ProgramExact (s : Station) (out line : Bytes) (portions : List Bytes) : Type 0 where
  pub replays : program_ran s out portions ≡ replayed (joined portions)
  pub writes : (program_ran s out portions).sent ++ last_line (program_ran s out portions).refusal line ≡ program_writes (joined portions)

-- THE CLAIM
abbrev pub Claim : Type 0
Claim = (s : Station) → Lends s → (out line : Bytes) → most_waiting ≤ length out → most_waiting ≤ length line → (portions : List Bytes) → PortionsFit (length out) portions
    → ProgramExact s out line portions
