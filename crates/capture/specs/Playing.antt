-- A capture played to the station, a byte at a time: what our node would send goes into a buffer.
use Rattle.std.specs.Prelude.{Bool, false, cond, not, [], ◌∷◌, ℕ, eqb}
use Rattle.grammar.specs.Bytes.{Bytes}
use Rattle.called_station.specs.Station.{Station, with_session, opened_of, heard_of, sent_of}
use Rattle.capture.specs.declared.Played.{Played}

-- A receive of no bytes tells whether the session has ended: it answers 0 while it goes on.
unfoldable pub played_out : Station → Bool
played_out s = not (eqb (heard_of s []).answer 0)

-- What has come of the capture so far, with the station and the buffer then.
pub record Playing : Type 0 where
  pub played : Played
  pub station : Station
  pub out : Bytes

abbrev pub playing : Played → Station → Bytes → Playing
playing p s out = record { played = p; station = s; out = out }

-- Nothing is played yet, and nothing stands in the buffer.
abbrev pub unplayed : Station → Bytes → Playing
unplayed s out = playing (record { refusal = 0; over = false; count = 0 }) s out

-- "takes all waiting bytes": behind the first n bytes of the buffer; answer: that of the call before it
unfoldable pub taken_of : ℕ → Station → Bytes → ℕ → Playing
taken_of answer s out n =
    let g = sent_of s out n in
    playing (record { refusal = answer; over = played_out (with_session g.session s); count = g.count }) (with_session g.session s) g.out

-- ".. after open"
unfoldable pub play_start_of : Station → Bytes → Playing
play_start_of s out = taken_of (opened_of s).answer (opened_of s).station out 0

-- ".. and after each byte"
unfoldable pub play_step_of : Playing → ℕ → Playing
play_step_of p b =
    let h = heard_of p.station (b ∷ []) in
    taken_of h.answer h.station p.out p.played.count

-- A portion: "after an end it feeds no more"
unfoldable pub play_of : Playing → Bytes → Playing
play_of p [] = p
play_of p (b ∷ bs) =
    let t = play_step_of p b in
    let r = play_of t bs in
    cond t.played.over t r
