-- DEMAND 2, over the session on lists (crates/session): every refusal exactly in its situation, every other byte does exactly one of the
-- events, whatever the portions; and our turns, our answers, our marks, our counts and what we write are 01's.
--
-- What 01 wants shut out              the theorem that shuts it out (in proofs/)
-- a forwarder that refuses everything Refusals.exact (`else`: 0 wherever none of the eleven situations holds), Ended.twelve (12 only on a session that is
--                                     over), live_exact (which sessions are); whole units, also directly after a CR: Units.line_whole (no byte of a line is
--                                     refused before its CR), Units.transfer_kept (a valid transfer that fits is kept)
-- one that finds less room than there Room.full_at, at_full, fits_within, within_fits, room_is: 10 (NoRoom) and a kept message (transfer_whole) go by
-- is                                  65,535 and by the bytes that the kept bodies leave of the store
-- one that answers every proposal     OurAnswers.answers_exact: one sign a proposal, each of `-`, `=`, `+` exactly where 01 says, by what is
-- alike                               there and what was accepted before it in the block
-- one that gives no bytes             Portions.handed_out_lem (`count`: as many as wait or fit; `order`: these, in order), with Opening.open_exact (what
--                                     waits at open), Events.happens (what waits after each whole line and transfer) and OurTurn.turn_exact,
--                                     block_exact, block_only (what our turn proposes; FF, FQ exactly where none remains)
-- one that writes what nobody can     ReadBack.reads_back_lem (a record's proposal and transfer read back as its fields, heading and body),
-- read back                           answer_reads_back (our FS line as its signs)
-- one that marks otherwise            Events.fs_leaves (the partner's FS line: state 2 for `-`, deferred for `=`, sent for `+`, nothing else), ff_leaves and
--                                     block_leaves (its whole turn: state 1 for what was being sent, nothing else); Marks.answer_only, turn_only (no
--                                     other memory is so); Answered.answer_reached (in every session that is reached)
-- one that tallies otherwise (02,     Events.fs_leaves (declined and deferred, at the FS line), ff_leaves and block_leaves (forwarded, at the partner's
-- Q-3)                                whole turn, and then proposed, with our turn), happens (proposed, with each turn of ours, and by nothing else);
--                                     Opening.open_exact (0 at open); Refusals.exact (`leaves`) and Portions.handed_out_lem (`memory`): a refusal and
--                                     give change no number
-- one that begins otherwise           Opening.open_exact (what is awaited, what waits, the empty inbox, no mark), open_only (no other session is so)
-- a consumed count not equal to the   Portions.counted (all, or up to and with the byte that ended the session), count_most, two_portions
-- bytes dealt with                    (counts of portions add up), no_bytes_lem; Ended.twelve (count 0)
-- a given count not equal to them     Portions.handed_out_lem (`count`), two_rooms
-- one that says not why, or says more  Refusals.exact (`leaves`), Reasons.says_why_lem (the line, in whatever rooms, and 12 for what arrives), quiet_end (an end
-- after the end                       with 0 is silent), Reached.reached-sound (`parting`: after an end nothing but the rest of one line)
-- one that does something else with   Refusals.complete with Events.happens: a byte that is answered 0 is one of the fourteen events, and the
-- a byte                              session after it is the event's. Portions.receive_byte: receive on one byte is its step; with two_portions this
--                                     settles receive
-- All this holds of every session that open, receive and give lead to, by the bytes of the transfer under way that came since it began:
-- Reached.reached-sound, exact-reached, complete_reached; reached_portion (whatever the portions). ALL OF IT ON ONE PAGE: NextByte, proved for every such
-- session by NextByte.next_byte. The numbers of 01 that it goes by stand in Limits; Limits.limits_are: the model has the same.
pub mod Limits
pub mod Room
pub mod Refusals
pub mod Marks
pub mod Events
pub mod OurTurn
pub mod OurAnswers
pub mod Portions
pub mod Reasons
pub mod Units
pub mod Opening
pub mod Reached
pub mod ReadBack
pub mod NextByte
