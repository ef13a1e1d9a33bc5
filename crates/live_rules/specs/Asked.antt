-- What is said to the networks, however it came, and what a line of a text says.
use Rattle.std.specs.Prelude.{ℕ, Bool, List, map, codes, Option, Some, Result, Ok, Err, if◌then◌else◌}
use Rattle.std.specs.Str.{bytes_eq}
use Rattle.events.specs.declared.line.Line.{Line}
use Rattle.trace.specs.TraceText.{without_spaces_at_end, said_by}
use Rattle.trace.specs.declared.fault.LineFault.{LineFault}
use Rattle.trace.specs.declared.fault.LineFault.TheVariants.{TooMany}
use Rattle.live_rules.specs.Moments.{Moment, bssids_at}
use Rattle.live_rules.specs.TextLines.{TextLine, Octets, TooLong}

-- A question for what the report says of each network but for its frames; or what a line of a trace says: what happened,
-- nothing where it is skipped, or its first fault. A record, too, and a line that is too long say one of these.
pub data Asked : Type 0 where
  ForTables : Asked
  Says : Result (Option Line) LineFault → Asked

-- this happened
abbrev pub brings : Line → Asked
brings line = Says (Ok (Some line))

-- it has this fault
abbrev pub has_fault : LineFault → Asked
has_fault fault = Says (Err fault)

-- ---- lines

-- `I` asks for the tables; it is read as `T` is (profile).
abbrev pub asks_for_tables : List ℕ → Bool
asks_for_tables octets = bytes_eq (without_spaces_at_end octets) (codes "I")

-- what a line says to networks with these addresses; one that is too long has a fault, whatever it is
abbrev pub asked_by : List (List ℕ) → TextLine → Asked
asked_by bssids TooLong = has_fault TooMany
asked_by bssids (Octets octets) = if asks_for_tables octets then ForTables else Says (said_by bssids octets)

-- what lines say, one after the other
abbrev pub asked_by_all : List (List ℕ) → List TextLine → List Asked
asked_by_all bssids lines = map (asked_by bssids) lines

-- at a moment
abbrev pub asked_in : Moment → List TextLine → List Asked
asked_in m lines = asked_by_all (bssids_at m) lines
