-- The log fed byte by byte: a tool for proofs, shown equal to the log over whole units. Between units its only state is the raw bytes of
-- the unit that is not whole yet.
use Rattle.std.specs.Prelude.{Bool, false, cond, ◌&&◌, List, [], ◌∷◌, ◌++◌, ℕ, eqb}
use Rattle.grammar.specs.Bytes.{Bytes, LF}
use Rattle.mail.specs.Mail.{Record}
use Rattle.session_log.specs.Log.{Event, took, gave, Log, is_ours, whole, applied, stopped, with_after_cr}

pub record Fed : Type 0 where
  pub log : Log
  pub raw : Bytes

-- a byte of the side whose unit is next
abbrev pub unit_byte : List Record → Log → Bytes → ℕ → Bool → Fed
unit_byte T l u b after_cr =
    cond (whole T l.book l.course.next u b)
    (record { log = applied T l u b; raw = [] })
    (record { log = with_after_cr l after_cr; raw = u ++ (b ∷ []) })

abbrev pub out_of_order : Fed → Fed
out_of_order f = record { log = stopped f.log; raw = [] }

abbrev pub fed_byte : List Record → Fed → Event → Fed
fed_byte T f (took b) =
    cond (f.log.after_cr && eqb b LF) (record { log = with_after_cr f.log false; raw = f.raw })
    (cond (is_ours f.log.course.next) (out_of_order f) (unit_byte T f.log f.raw b false))
fed_byte T f (gave b) = cond (is_ours f.log.course.next) (unit_byte T f.log f.raw b f.log.after_cr) (out_of_order f)

abbrev pub fed_all : List Record → Fed → List Event → Fed
fed_all T f [] = f
fed_all T f (e ∷ es) = fed_all T (fed_byte T f e) es
