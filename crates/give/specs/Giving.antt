-- 01, "give (bytes the link will now take)": the answer and the lent memory after it, for any memory.
use Rattle.std.specs.Prelude.{◌≡◌, Bool, cond, ℕ, ◌+◌, ◌-◌, ltb, length}
use Rattle.grammar.specs.Bytes.{Bytes}
use Rattle.grammar.specs.Refusals.{bad_memory, no_place}
use Rattle.buffer.specs.Put.{put_bytes, cut}
use Rattle.session_memory.specs.State.{load_of, save_of}
use Rattle.session_memory.specs.Setters.{with_pos, with_say}
use Rattle.session_memory.specs.Session.{Session}
use Rattle.waiting.specs.Waiting.{waiting_of}
use Rattle.pending.specs.Pending.{waits, silent_of}
use Rattle.form_test.specs.Form.{form_of}
use Rattle.give.specs.declared.Reply.{Reply}
use Rattle.give.specs.declared.Handout.{Handout}

-- The reply, session memory and the buffer after a give.
pub record Given : Type 0 where
  pub reply : Reply
  pub sm : Bytes
  pub buf : Bytes

abbrev pub reply : ℕ → ℕ → ℕ → Reply
reply answer place count = record { answer = answer; place = place; count = count }

-- n bytes more are given; all of them: nothing waits
unfoldable pub handed_of : Session → ℕ → ℕ → Session
handed_of s n total =
    cond (ltb (s.say.pos + n) total)
    (with_say (with_pos (s.say.pos + n) s.say) s)
    (silent_of s)

-- w: what waits, given bytes included; place and the room after it in the buffer
abbrev pub handing : Session → Bytes → Bytes → Bytes → ℕ → Given
handing s w sm buf place =
    record {
      reply = reply 0 0 (length (cut (length buf - place) s.say.pos w));
      sm = save_of sm (handed_of s (length (cut (length buf - place) s.say.pos w)) (length w));
      buf = put_bytes buf (record { at = place; skip = s.say.pos }) w;
    }

-- What is handed out, and how the buffer is left: the count, how many bytes are given then, whether more are left, the buffer e.
abbrev pub Hands : Session → Bytes → Bytes → ℕ → Handout → Bytes → Type 0
Hands s w buf place r e =
    (r.count ≡ length (cut (length buf - place) s.say.pos w)) × (r.pos ≡ s.say.pos + r.count) × (r.left ≡ ltb r.pos (length w))
    × (e ≡ put_bytes buf (record { at = place; skip = s.say.pos }) w)

-- The state after a give: pos bytes are given and more are left, or nothing waits.
abbrev pub left_of : Bool → ℕ → Session → Session
left_of left pos s = cond left (with_say (with_pos pos s.say) s) (silent_of s)

-- "a place beyond the end writes nothing and reports 0". "Give on an ended session writes nothing and answers 0 with count 0.", but for the line that
-- says why (02, Q-1): by the form test nothing else waits in it
unfoldable pub give_of : Bytes → Bytes → Bytes → Bytes → Bytes → Bytes → Bytes → Bytes → Bytes → ℕ → Given
give_of sm table titles names bodies known inbox store buf place =
    cond (form_of sm table titles names bodies known inbox store)
    (cond (waits (load_of sm).say)
    (cond (ltb place (length buf))
    (handing (load_of sm) (waiting_of (load_of sm) table titles names bodies) sm buf place)
    (record { reply = reply 0 0 0; sm = sm; buf = buf }))
    (record { reply = reply 0 0 0; sm = sm; buf = buf }))
    (record { reply = reply bad_memory no_place 0; sm = sm; buf = buf })
