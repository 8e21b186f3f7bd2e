-- What the code's answers say in the words of the step.
use Rattle.std.specs.Prelude.{ℕ, cond, ◌==◌, Result, Ok, Err}
use Rattle.transfer_step.specs.declared.Reader.{Reader}
use Rattle.transfer_step.specs.declared.Place.{Place}
use Rattle.transfer_step.specs.declared.Put.{Put}
use Rattle.transfer_step.specs.declared.Refused.{Refused}
use Rattle.transfer_step.specs.Outcome.{ReadOutcome, Whole, Malformed, WrongSum, NoRoom, ReadStep}
use Rattle.transfer_step.specs.Names.{title_place, body_place, mark_place, start_place, length_place, heading_place, offset_place, data_place, size_place, checksum_place, nowhere, to_heading, to_body}
use Rattle.transfer_step.specs.Step.{outcome_number, reading_goes_on, reading_ends}

-- The step's name of a refusal, and 01's number.
abbrev pub refused_as : Refused → ReadOutcome
refused_as Refused.Malformed = Malformed
refused_as Refused.WrongSum = WrongSum
refused_as Refused.NoRoom = NoRoom

abbrev pub refused_number : Refused → ℕ
refused_number why = outcome_number (refused_as why)

-- An answer, with the reading after it.
abbrev pub told : Result Put Refused → Reader → ReadStep
told (Ok Put.Nowhere) r = reading_goes_on r nowhere
told (Ok Put.Heading) r = reading_goes_on r to_heading
told (Ok Put.Body) r = reading_goes_on r to_body
told (Ok Put.Whole) r = reading_ends r Whole
told (Err why) r = reading_ends r (refused_as why)

-- A place by its number; any number that is none of the others: the checksum.
abbrev pub place_of : ℕ → Place
place_of n =
    cond (n == title_place) Place.Title
    (cond (n == body_place) Place.Body
    (cond (n == mark_place) Place.Mark
    (cond (n == start_place) Place.Start
    (cond (n == length_place) Place.Length
    (cond (n == heading_place) Place.Heading
    (cond (n == offset_place) Place.Offset
    (cond (n == data_place) Place.Data
    (cond (n == size_place) Place.Size Place.Checksum))))))))

abbrev pub place_number : Place → ℕ
place_number Place.Title = title_place
place_number Place.Body = body_place
place_number Place.Mark = mark_place
place_number Place.Start = start_place
place_number Place.Length = length_place
place_number Place.Heading = heading_place
place_number Place.Offset = offset_place
place_number Place.Data = data_place
place_number Place.Size = size_place
place_number Place.Checksum = checksum_place
