-- 01, "Session memory: bytes of one fixed size, written in docs/". The mark FM01 and the sizes that open kept, the numbers of the state, its
-- arrays; bytes behind the numbers and behind the arrays are free, nobody reads or writes them. docs/MEMORY.md has the places as a table.
use Rattle.std.specs.Prelude.{Bool, false, cond, List, [], ◌∷◌, ◌++◌, ℕ, ◌+◌, ◌-◌, eqb, length, get_or, take, replicate}
use Rattle.grammar.specs.Bytes.{Bytes, flag}
use Rattle.grammar.specs.Ascii.{text}
use Rattle.grammar.specs.Transfers.{part_of}
use Rattle.grammar.specs.Turns.{block_limit}
use Rattle.grammar.specs.Answers.{level0}
use Rattle.buffer.specs.Put.{put_bytes}
use Rattle.buffer.specs.declared.Cursor.{Cursor}
use Rattle.places.specs.Places.{mark_at, size_table, size_titles, size_names, size_bodies, size_known, size_inbox, size_store, numbers_start, phase_at, ff_at, framed_at, after_cr_at, first_at, then_at, kept_at, current_at, proposals_at, ours_at, sending_at, signs_at, place_at, length_at, head_at, offset_at, sum_at, line_length_at, left_at, body_at, pos_at, used_at, block_sum_at, level_at, partner_at, tally_waiting_at, tally_sizes_at, tally_proposed_at, tally_forwarded_at, tally_declined_at, tally_deferred_at, tally_unsettled_at, arrays_at, deferred_len, heading_len, line_len, block_len, deferred_at, heading_at, line_at, block_at}
use Rattle.phase.specs.Phase.{piece_none, piece_sid_and_prompt, not_deferred}
use Rattle.layout.specs.Layout.{byte_at, le2_at, le4_at, le8_at, le2, le4, le8}
use Rattle.transfer_step.specs.Step.{start_of}
use Rattle.session_memory.specs.declared.Five.{Five}
use Rattle.session_memory.specs.Session.{Await}
use Rattle.session_memory.specs.declared.Say.{Say}
use Rattle.session_memory.specs.declared.Terms.{Terms}
use Rattle.session_memory.specs.declared.Tally.{Tally}
use Rattle.sheet.specs.declared.Sheet.{Sheet}
use Rattle.sheet.specs.Sheet.{no_sheet}
use Rattle.session_memory.specs.Session.{Keep}
use Rattle.session_memory.specs.Session.{Reading}
use Rattle.session_memory.specs.Session.{Line}
use Rattle.session_memory.specs.Session.{Session}
use Rattle.session_memory.specs.declared.Sizes.{Sizes}

abbrev pub cursor_at : ℕ → Cursor
cursor_at n = record { at = n; skip = 0 }

-- ---------------------------------------------------------------- up to five numbers

abbrev pub held : Five → List ℕ
held f = take f.count f.items

-- These numbers, zeros after them.
abbrev pub five_of : List ℕ → Five
five_of xs = record { count = length xs; items = xs ++ replicate (block_limit - length xs) 0 }

abbrev pub no_five : Five
no_five = record { count = 0; items = replicate block_limit 0 }

-- ---------------------------------------------------------------- read

-- n bytes from a place on; zeros where the memory ends before
abbrev pub array_at : ℕ → Bytes → ℕ → Bytes
array_at n sm a = put_bytes (replicate n 0) (cursor_at 0) (part_of sm a n)

abbrev pub five_at : Bytes → ℕ → Five
five_at sm a = record { count = byte_at sm a; items = array_at block_limit sm (a + 1) }

unfoldable pub load_await : Bytes → Await
load_await sm =
    record { phase = byte_at sm phase_at; ff = eqb (byte_at sm ff_at) 1; current = byte_at sm current_at; proposals = byte_at sm proposals_at; ours = five_at sm ours_at; sum = byte_at sm block_sum_at; block = array_at block_len sm (arrays_at + block_at) }

unfoldable pub load_say : Bytes → Say
load_say sm = record { first = byte_at sm first_at; then = byte_at sm then_at; pos = le8_at sm pos_at; signs = five_at sm signs_at }

-- what is settled with the partner
abbrev pub terms_at : Bytes → Terms
terms_at sm = record { level = byte_at sm level_at; partner = byte_at sm partner_at }

unfoldable pub load_keep : Bytes → Keep
load_keep sm =
    record { framed = eqb (byte_at sm framed_at) 1; terms = terms_at sm; kept = byte_at sm kept_at; used = le8_at sm used_at; sending = five_at sm sending_at; deferred = array_at deferred_len sm (arrays_at + deferred_at) }

unfoldable pub load_reading : Bytes → Reading
load_reading sm =
    record {
      reader = record {
        place = byte_at sm place_at;
        len = byte_at sm length_at;
        head = byte_at sm head_at;
        off = byte_at sm offset_at;
        left = le2_at sm left_at;
        sum = byte_at sm sum_at;
        body = le4_at sm body_at;
      };
      heading = array_at heading_len sm (arrays_at + heading_at);
    }

unfoldable pub load_line : Bytes → Line
load_line sm = record { after_cr = eqb (byte_at sm after_cr_at) 1; len = le2_at sm line_length_at; bytes = array_at line_len sm (arrays_at + line_at) }

abbrev pub sheet_at : Bytes → Sheet
sheet_at sm =
    record {
      proposed = byte_at sm tally_proposed_at;
      forwarded = byte_at sm tally_forwarded_at;
      declined = byte_at sm tally_declined_at;
      deferred = byte_at sm tally_deferred_at;
      unsettled = byte_at sm tally_unsettled_at;
    }

unfoldable pub load_tally : Bytes → Tally
load_tally sm = record { waiting = byte_at sm tally_waiting_at; sizes = le4_at sm tally_sizes_at; sheet = sheet_at sm }

unfoldable pub load_of : Bytes → Session
load_of sm = record { now = load_await sm; say = load_say sm; keep = load_keep sm; reading = load_reading sm; line = load_line sm; tally = load_tally sm }

unfoldable pub load_sizes : Bytes → Sizes
load_sizes sm =
    record {
      table = le8_at sm size_table;
      titles = le8_at sm size_titles;
      names = le8_at sm size_names;
      bodies = le8_at sm size_bodies;
      known = le8_at sm size_known;
      inbox = le8_at sm size_inbox;
      store = le8_at sm size_store;
    }

-- ---------------------------------------------------------------- written

abbrev pub five_out : Five → Bytes
five_out f =
    f.count ∷ get_or f.items 0 0 ∷ get_or f.items 1 0 ∷ get_or f.items 2 0 ∷ get_or f.items 3 0 ∷ get_or f.items 4 0 ∷ []

unfoldable pub small_out : Session → Bytes
small_out s =
    (s.now.phase ∷ flag s.now.ff ∷ flag s.keep.framed ∷ flag s.line.after_cr ∷ s.say.first ∷ s.say.then ∷ s.keep.kept ∷ s.now.current ∷ s.now.proposals ∷ [])
    ++ (five_out s.now.ours ++ (five_out s.keep.sending ++ (five_out s.say.signs
    ++ (s.reading.reader.place ∷ s.reading.reader.len ∷ s.reading.reader.head ∷ s.reading.reader.off ∷ s.reading.reader.sum ∷ []))))

unfoldable pub numbers_out : Session → Bytes
numbers_out s =
    le2 s.line.len ++ (le2 s.reading.reader.left ++ (le4 s.reading.reader.body ++ (le8 s.say.pos ++ le8 s.keep.used)))

abbrev pub terms_out : Terms → Bytes
terms_out t = t.level ∷ t.partner ∷ []

abbrev pub sheet_out : Sheet → Bytes
sheet_out h = h.proposed ∷ h.forwarded ∷ h.declined ∷ h.deferred ∷ h.unsettled ∷ []

abbrev pub tally_out : Tally → Bytes
tally_out t = t.waiting ∷ (le4 t.sizes ++ sheet_out t.sheet)

-- The tail: numbers that came later, in the order of their places.
unfoldable pub tail_out : Session → Bytes
tail_out s = s.now.sum ∷ (terms_out s.keep.terms ++ tally_out s.tally)

-- The last of the arrays; one that comes later stands behind it.
abbrev pub arrays_tail : Session → Bytes
arrays_tail s = s.now.block

unfoldable pub arrays_out : Session → Bytes
arrays_out s = s.keep.deferred ++ (s.reading.heading ++ (s.line.bytes ++ arrays_tail s))

-- The numbers, one after the other.
abbrev pub number_part : Session → Bytes
number_part s = small_out s ++ (numbers_out s ++ tail_out s)

-- Session memory after the state is saved: its numbers, and its arrays. The mark and the sizes stay, and so does every free byte.
unfoldable pub save_of : Bytes → Session → Bytes
save_of sm s = put_bytes (put_bytes sm (cursor_at numbers_start) (number_part s)) (cursor_at arrays_at) (arrays_out s)

unfoldable pub sizes_out : Sizes → Bytes
sizes_out z =
    text "FM01" ++ (le8 z.table ++ (le8 z.titles ++ (le8 z.names ++ (le8 z.bodies ++ (le8 z.known ++ (le8 z.inbox ++ le8 z.store))))))

unfoldable pub save_sizes : Bytes → Sizes → Bytes
save_sizes sm z = put_bytes sm (cursor_at mark_at) (sizes_out z)

-- Nothing is settled before the partner's SID but who the partner is.
abbrev pub terms_with : ℕ → Terms
terms_with partner = record { level = level0; partner = partner }

-- So many records wait, with this sum of sizes, and nothing is proposed.
abbrev pub fresh_tally : ℕ → ℕ → Tally
fresh_tally waiting sizes = record { waiting = waiting; sizes = sizes; sheet = no_sheet }

-- The state right after an accepted open: who the partner is, and what waits for it.
unfoldable pub fresh_of : Bool → ℕ → Tally → Session
fresh_of caller partner tally =
    record {
      now = record { phase = flag caller; ff = false; current = 0; proposals = 0; ours = no_five; sum = 0; block = replicate block_len 0 };
      say = record { first = cond caller piece_none piece_sid_and_prompt; then = piece_none; pos = 0; signs = no_five };
      keep = record { framed = false; terms = terms_with partner; kept = 0; used = 0; sending = no_five; deferred = replicate deferred_len not_deferred };
      reading = record { reader = start_of 0; heading = replicate heading_len 0 };
      line = record { after_cr = false; len = 0; bytes = replicate line_len 0 };
      tally = tally;
    }
