-- Who is held after a turn, or what ended the election.
-- Assumes nothing.
use Rattle.std.specs.Prelude.{Result, Ok, Err}
use Rattle.refusal.specs.declared.Refusal.{Refusal}
use Rattle.refusal.specs.Number.{number_of}
use Rattle.elect.specs.declared.Elected.{Elected}
use Rattle.elect.specs.Elect.{stopped}

abbrev pub turned : Result Elected Refusal → Elected
turned (Ok e) = e
turned (Err r) = stopped (number_of r)
