-- A session is its numbers, which the code holds, and its arrays, which stay in session memory: m is that part of it (crates/places, "the arrays of the state").
use Rattle.std.specs.Prelude.{[], eqb}
use Rattle.grammar.specs.Bytes.{Bytes}
use Rattle.places.specs.Places.{phase_at, ff_at, framed_at, after_cr_at, first_at, then_at, kept_at, current_at, proposals_at, ours_at, sending_at, signs_at, place_at, length_at, head_at, offset_at, sum_at, line_length_at, left_at, body_at, pos_at, used_at, block_sum_at, deferred_at, deferred_len, heading_at, heading_len, line_at, line_len, block_at, block_len}
use Rattle.layout.specs.Layout.{byte_at, le2_at, le4_at, le8_at}
use Rattle.transfer_step.specs.declared.Reader.{Reader}
use Rattle.session_memory.specs.State.{five_at, terms_at, load_tally, small_out, numbers_out, tail_out, number_part}
use Rattle.session_memory.specs.Session.{Await}
use Rattle.session_memory.specs.declared.Say.{Say}
use Rattle.session_memory.specs.Session.{Keep}
use Rattle.session_memory.specs.Session.{Session}
use Rattle.region.specs.Region.{region}
use Rattle.numbers.specs.declared.AwaitNumbers.{AwaitNumbers}
use Rattle.numbers.specs.declared.KeepNumbers.{KeepNumbers}
use Rattle.numbers.specs.declared.LineNumbers.{LineNumbers}
use Rattle.numbers.specs.declared.Numbers.{Numbers}

-- where the arrays stand in m
abbrev pub deferred_in : Bytes → Bytes
deferred_in m = region deferred_at deferred_len m

abbrev pub heading_in : Bytes → Bytes
heading_in m = region heading_at heading_len m

abbrev pub line_in : Bytes → Bytes
line_in m = region line_at line_len m

abbrev pub block_in : Bytes → Bytes
block_in m = region block_at block_len m

-- THE ARRAYS, as one value: who hands them on doesn't say which there are.
pub record Arrays : Type 0 where
  pub deferred : Bytes
  pub heading : Bytes
  pub line : Bytes
  pub block : Bytes

abbrev pub with_deferred : Bytes → Arrays → Arrays
with_deferred x a = record { deferred = x; heading = a.heading; line = a.line; block = a.block }

abbrev pub with_heading : Bytes → Arrays → Arrays
with_heading x a = record { deferred = a.deferred; heading = x; line = a.line; block = a.block }

abbrev pub with_line_bytes : Bytes → Arrays → Arrays
with_line_bytes x a = record { deferred = a.deferred; heading = a.heading; line = x; block = a.block }

abbrev pub with_block : Bytes → Arrays → Arrays
with_block x a = record { deferred = a.deferred; heading = a.heading; line = a.line; block = x }

-- as they stand in m
abbrev pub arrays_in : Bytes → Arrays
arrays_in m = record { deferred = deferred_in m; heading = heading_in m; line = line_in m; block = block_in m }

abbrev pub no_arrays : Arrays
no_arrays = arrays_in []

abbrev pub await_of : AwaitNumbers → Arrays → Await
await_of w a = record { phase = w.phase; ff = w.ff; current = w.current; proposals = w.proposals; ours = w.ours; sum = w.sum; block = a.block }

abbrev pub keep_with : KeepNumbers → Arrays → Keep
keep_with k a = record { framed = k.framed; terms = k.terms; kept = k.kept; used = k.used; sending = k.sending; deferred = a.deferred }

abbrev pub session_of : Numbers → Arrays → Session
session_of h a =
    record {
      now = await_of h.now a;
      say = h.say;
      keep = keep_with h.keep a;
      reading = record { reader = h.reader; heading = a.heading };
      line = record { after_cr = h.line.after_cr; len = h.line.len; bytes = a.line };
      tally = h.tally;
    }

-- THE WHOLE SESSION: its numbers, and the arrays where they stand
unfoldable pub whole_of : Numbers → Bytes → Session
whole_of h m = session_of h (arrays_in m)

-- ---------------------------------------------------------------- read

unfoldable pub await_numbers : Bytes → AwaitNumbers
await_numbers sm = record { phase = byte_at sm phase_at; ff = eqb (byte_at sm ff_at) 1; current = byte_at sm current_at; proposals = byte_at sm proposals_at; ours = five_at sm ours_at; sum = byte_at sm block_sum_at }

unfoldable pub say_numbers : Bytes → Say
say_numbers sm = record { first = byte_at sm first_at; then = byte_at sm then_at; pos = le8_at sm pos_at; signs = five_at sm signs_at }

unfoldable pub keep_numbers : Bytes → KeepNumbers
keep_numbers sm = record { framed = eqb (byte_at sm framed_at) 1; terms = terms_at sm; kept = byte_at sm kept_at; used = le8_at sm used_at; sending = five_at sm sending_at }

unfoldable pub reader_numbers : Bytes → Reader
reader_numbers sm =
    record {
      place = byte_at sm place_at;
      len = byte_at sm length_at;
      head = byte_at sm head_at;
      off = byte_at sm offset_at;
      left = le2_at sm left_at;
      sum = byte_at sm sum_at;
      body = le4_at sm body_at;
    }

unfoldable pub line_numbers : Bytes → LineNumbers
line_numbers sm = record { after_cr = eqb (byte_at sm after_cr_at) 1; len = le2_at sm line_length_at }

unfoldable pub numbers_at : Bytes → Numbers
numbers_at sm = record { now = await_numbers sm; say = say_numbers sm; keep = keep_numbers sm; reader = reader_numbers sm; line = line_numbers sm; tally = load_tally sm }

-- ---------------------------------------------------------------- written

-- the numbers of one byte, the longer ones after them, and the tail; they don't look at the arrays
abbrev pub small_bytes : Numbers → Bytes
small_bytes h = small_out (session_of h no_arrays)

abbrev pub large_bytes : Numbers → Bytes
large_bytes h = numbers_out (session_of h no_arrays)

abbrev pub tail_bytes : Numbers → Bytes
tail_bytes h = tail_out (session_of h no_arrays)

-- what a save writes for the numbers
unfoldable pub number_bytes : Numbers → Bytes
number_bytes h = number_part (session_of h no_arrays)
