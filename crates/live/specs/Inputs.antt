-- What comes in, in either face, cut anywhere: what is said in it, and the partial line or record at its end.
use Rattle.std.specs.Prelude.{◌≡◌, ℕ, List, [], ◌++◌}
use Rattle.live_rules.specs.Asked.{Asked, asked_by_all}
use Rattle.live_rules.specs.Records.{AreRecords, IsPartialRecord, records_ask, cut_record}
use Rattle.live_rules.specs.TextLines.{Octets, ended_lines, lines_of_text, partial_after, last_line, lines_in}
use Rattle.live.specs.declared.partial_input.PartialInput.{PartialInput}
use Rattle.live.specs.declared.partial_input.PartialInput.TheVariants.{Line, Record}
use Rattle.live.specs.declared.face.Face.{Face}
use Rattle.live.specs.declared.face.Face.TheVariants.{Lines, Records}

-- ---- pieces

-- before anything came, a line or a record without an octet
abbrev pub empty_partial : Face → PartialInput
empty_partial Lines = Line (Octets [])
empty_partial Records = Record []

-- the face in which it comes
abbrev pub face_of : PartialInput → Face
face_of (Line partial) = Lines
face_of (Record partial) = Records

-- where it is a record, it is less than a whole one
abbrev pub IsUnfinished : PartialInput → Type 0
IsUnfinished (Line partial) = Unit {0}
IsUnfinished (Record partial) = IsPartialRecord partial

-- it came in this face, and a record is less than a whole one
pub record IsPartialIn (face : Face) (partial : PartialInput) : Type 0 where
  pub same : face_of partial ≡ face
  pub unfinished : IsUnfinished partial

-- what is said in a piece, and the partial line or record after it
pub record Saying : Type 0 where
  pub said : List Asked
  pub next : PartialInput

-- this is said, and this follows it
abbrev pub saying : List Asked → PartialInput → Saying
saying said next = record { said = said; next = next }

-- a partial record and a piece are records that say this
pub record AreRecordsIn (bssids : List (List ℕ)) (partial piece : List ℕ) (s : Saying) : Type 0 where
  pub records : List (List ℕ)
  pub rest : List ℕ
  pub are : AreRecords (partial ++ piece) records rest
  pub ask : s.said ≡ records_ask bssids records
  pub next_is : s.next ≡ Record rest

-- what is said to networks with these addresses by a partial line or record and a piece
abbrev pub IsSaidIn : List (List ℕ) → PartialInput → List ℕ → Saying → Type 0
IsSaidIn bssids (Line partial) piece s =
    (s.said ≡ asked_by_all bssids (lines_in partial piece)) × (s.next ≡ Line (partial_after partial piece))
IsSaidIn bssids (Record partial) piece s = AreRecordsIn bssids partial piece s

-- what the end of the input says, by the partial line or record before it
abbrev pub last_said : List (List ℕ) → PartialInput → List Asked
last_said bssids (Line partial) = asked_by_all bssids (last_line partial)
last_said bssids (Record partial) = cut_record partial

-- ---- the whole input

-- these octets are records that ask this, and then a partial one
pub record AreRecordsOf (bssids : List (List ℕ)) (octets : List ℕ) (said : List Asked) : Type 0 where
  pub records : List (List ℕ)
  pub rest : List ℕ
  pub are : AreRecords octets records rest
  pub ask : said ≡ records_ask bssids records

-- these octets are records that ask this with what the end of the input says of a partial one
pub record AreAllRecordsOf (bssids : List (List ℕ)) (octets : List ℕ) (said : List Asked) : Type 0 where
  pub records : List (List ℕ)
  pub rest : List ℕ
  pub are : AreRecords octets records rest
  pub ask : said ≡ records_ask bssids records ++ cut_record rest

-- what is said in an input by the lines or records that have ended
abbrev pub IsSaid : Face → List (List ℕ) → List ℕ → List Asked → Type 0
IsSaid Lines bssids input said = said ≡ asked_by_all bssids (ended_lines input)
IsSaid Records bssids input said = AreRecordsOf bssids input said

-- and by all of them, where the input is at its end
abbrev pub IsAllSaid : Face → List (List ℕ) → List ℕ → List Asked → Type 0
IsAllSaid Lines bssids input said = said ≡ asked_by_all bssids (lines_of_text input)
IsAllSaid Records bssids input said = AreAllRecordsOf bssids input said
