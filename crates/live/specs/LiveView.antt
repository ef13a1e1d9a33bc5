-- What contracts see of the access point as it runs, and what its calls do.
use Rattle.std.specs.Prelude.{ℕ, List, ◌++◌, Option, Result, Ok}
use Rattle.text_io.specs.Endings.{Ends, ending_of}
use Rattle.text_io.specs.Sinks.{write_ending}
use Rattle.text_io.specs.declared.sink.Failed.{Failed}
use Rattle.live_rules.specs.Answers.{Answer, Answers}
use Rattle.live_rules.specs.Asked.{Asked}
use Rattle.live.specs.Inputs.{IsSaidIn, face_of, last_said, saying}
use Rattle.live_rules.specs.Moments.{Moment, bssids_at}
use Rattle.live.specs.Written.{written_after, written_tables}
use Rattle.live.specs.declared.partial_input.PartialInput.{PartialInput}

-- the moment after what has ended, and the partial line or record after it
pub record Reached : Type 0 where
  pub moment : Moment
  pub partial : PartialInput

-- at this moment, with this partial line or record
abbrev pub reached : Moment → PartialInput → Reached
reached moment partial = record { moment = moment; partial = partial }

-- it, and what its sink has taken, where that is known
pub record Running : Type 0 where
  pub moment : Moment
  pub partial : PartialInput
  pub taken : Option (List ℕ)

-- there, where the sink has taken so much
abbrev pub running : Reached → Option (List ℕ) → Running
running live taken = record { moment = live.moment; partial = live.partial; taken = taken }

-- It took a piece: what is said in it is answered, and the sink has gained the answers; or, where a write failed, a
-- prefix of them.
pub record Takes (result : Result Unit Failed) (piece : List ℕ) (old new : Running) : Type 0 where
  pub said : List Asked
  pub answers : List Answer
  pub is_said : IsSaidIn (bssids_at old.moment) old.partial piece (saying said new.partial)
  pub answered : Answers old.moment said answers new.moment
  pub written : Ends (ending_of write_ending result) (Ok (written_after (face_of old.partial) old.moment answers)) old.taken new.taken

-- It came to the end of the input: what that says is answered, and the sink has gained the answer and the tables of the
-- moment after it; or, where a write failed, a prefix of them.
pub record Finishes (result : Result Unit Failed) (old : Running) (taken : Option (List ℕ)) : Type 0 where
  pub answers : List Answer
  pub last : Moment
  pub answered : Answers old.moment (last_said (bssids_at old.moment) old.partial) answers last
  pub written :
      Ends (ending_of write_ending result)
      (Ok
      (written_after (face_of old.partial) old.moment answers ++ written_tables (face_of old.partial) last.networks))
      old.taken taken
