-- What the access point does from its configuration's text to the end of its input.
use Rattle.std.specs.Prelude.{◌≡◌, ℕ, ◌^◌, ◌≤◌, ◌⊎◌, List, [], ◌++◌, length, Option, None, Result, Ok, Err}
use Rattle.std.specs.Io.KnownBytes.{Appends, Consumes, IsAtEnd, Keeps}
use Rattle.ap_config.specs.declared.config.RadioConfig.{RadioConfig}
use Rattle.config_text.specs.ConfigurationText.{configuration_of}
use Rattle.text_io.specs.Endings.{Ending, Refused, ReadFailed, WriteFailed, OutOfMemory, AppendsPrefix, ending_of}
use Rattle.text_io.specs.Streams.{Reads, SinkView, SourceView, Streams, changed}
use Rattle.live_rules.specs.Answers.{Answer, Answers}
use Rattle.live_rules.specs.Asked.{Asked}
use Rattle.live.specs.Inputs.{IsSaid, IsAllSaid, IsSaidIn, face_of, empty_partial, saying}
use Rattle.live.specs.LiveView.{Reached, reached}
use Rattle.live_rules.specs.Moments.{Moment, first_moment, bssids_at}
use Rattle.live.specs.Written.{written_count, written_after, written_tables}
use Rattle.live.specs.declared.partial_input.PartialInput.{PartialInput}
use Rattle.live.specs.declared.partial_input.PartialInput.TheVariants.{Record}
use Rattle.live.specs.declared.face.Face.{Face}
use Rattle.live.specs.declared.fault.LiveFault.{LiveFault}
use Rattle.live.specs.declared.fault.LiveFault.TheVariants.{Config, NoMemory, Read, Write}

-- the most reads of one input
abbrev pub max_reads : ℕ
max_reads = 2 ^ 46

-- how a call ends that runs an access point
abbrev pub live_ending : LiveFault → Ending LiveFault
live_ending NoMemory = OutOfMemory
live_ending Write = WriteFailed
live_ending Read = ReadFailed
live_ending fault = Refused fault

-- a source, as contracts name it
abbrev pub seen : (left : Option (List ℕ)) (failed reads : ℕ) → SourceView
seen left failed reads = record { left = left; failed = failed; reads = reads }

-- a source and a sink, as contracts name them
abbrev pub streams : SourceView → (taken : Option (List ℕ)) (failed : ℕ) → Streams
streams source taken failed = record { source = source; sink = record { taken = taken; failed = failed } }

-- ---- while more comes

-- what the output took where the answers so far are this: all of it, or a prefix where a write failed
abbrev pub WrittenSoFar : Result Unit LiveFault → List ℕ → Streams → Streams → Type 0
WrittenSoFar (Ok u) answered old new = IsAtEnd new.source.left × Appends old.sink.taken new.sink.taken answered
WrittenSoFar (Err Read) answered old new = Appends old.sink.taken new.sink.taken answered
WrittenSoFar (Err Write) answered old new = AppendsPrefix old.sink.taken new.sink.taken answered
WrittenSoFar (Err (Config fault)) answered old new = ⊥
WrittenSoFar (Err NoMemory) answered old new = ⊥

-- the access point, its input and its output
pub record Progress : Type 0 where
  pub moment : Moment
  pub partial : PartialInput
  pub streams : Streams

-- there, where the streams stand so
abbrev pub progress : Reached → Streams → Progress
progress live streams = record { moment = live.moment; partial = live.partial; streams = streams }

-- The sink has taken, since then, the answers to all that ended in what was read of the source.
pub record AllAnswered (first : Progress) (left taken : Option (List ℕ)) : Type 0 where
  pub read : List ℕ
  pub said : List Asked
  pub answers : List Answer
  pub moment : Moment
  pub took : Consumes first.streams.source.left left read
  pub is_said : IsSaid (face_of first.partial) (bssids_at first.moment) read said
  pub answered : Answers first.moment said answers moment
  pub written : Appends first.streams.sink.taken taken (written_after (face_of first.partial) first.moment answers)

-- an access point of no networks, whose input and output aren't known
abbrev pub unknown : Progress
unknown = progress (reached (record { lines = 0; networks = [] }) (Record [])) (streams (seen None 0 0) None 0)

-- A write failed, and reading stopped there: what was read are octets, the answers to what is said in which were
-- written whole, and a piece of at most 4,096 octets.
pub record StopsInPiece (face : Face) (input : List ℕ) (old new : Progress) : Type 0 where
  pub before : List ℕ
  pub piece : List ℕ
  pub read : input ≡ before ++ piece
  pub short : length piece ≤ 4096
  pub said : List Asked
  pub answers : List Answer
  pub between : Moment
  pub is_said : IsSaid face (bssids_at old.moment) before said
  pub answered : Answers old.moment said answers between
  pub rest : List ℕ
  pub written : Appends old.streams.sink.taken new.streams.sink.taken (written_after face old.moment answers ++ rest)

-- what was read of a source, from its beginning on, was answered as far as it had ended
pub record AnswersInput (face : Face) (result : Result Unit LiveFault) (old new : Progress) : Type 0 where
  pub input : List ℕ
  pub said : List Asked
  pub answers : List Answer
  pub reads : Reads (ending_of live_ending result) max_reads (changed old.streams.source new.streams.source) input
  pub is_said : IsSaidIn (bssids_at old.moment) (empty_partial face) input (saying said new.partial)
  pub answered : Answers old.moment said answers new.moment
  pub written : WrittenSoFar result (written_after face old.moment answers) old.streams new.streams
  pub stops : result ≡ Err Write → StopsInPiece face input old new

-- ---- the whole

-- the face in which an access point runs, and the text of its configuration
pub record Setup : Type 0 where
  pub face : Face
  pub config : List ℕ

-- in this face, of this text
abbrev pub setup : Face → List ℕ → Setup
setup face config = record { face = face; config = config }

-- it, and what was read of the input
pub record Texts : Type 0 where
  pub setup : Setup
  pub input : List ℕ

-- all that is said in an input was answered, and this was to be written: how many networks there are, the answers, and
-- the tables of the last moment
pub record AnswersAll (texts : Texts) (written : List ℕ) : Type 0 where
  pub config : RadioConfig
  pub said : List Asked
  pub answers : List Answer
  pub last : Moment
  pub read : configuration_of texts.setup.config ≡ Ok config
  pub is_said : IsAllSaid texts.setup.face (bssids_at (first_moment config)) texts.input said
  pub answered : Answers (first_moment config) said answers last
  pub written_is : written
      ≡ written_count texts.setup.face (length config.networks)
      ++ written_after texts.setup.face (first_moment config) answers
      ++ written_tables texts.setup.face last.networks

-- what is said in an input as far as it had ended was answered, and this was to be written
pub record AnswersEnded (texts : Texts) (written : List ℕ) : Type 0 where
  pub config : RadioConfig
  pub said : List Asked
  pub answers : List Answer
  pub last : Moment
  pub read : configuration_of texts.setup.config ≡ Ok config
  pub is_said : IsSaid texts.setup.face (bssids_at (first_moment config)) texts.input said
  pub answered : Answers (first_moment config) said answers last
  pub written_is : written
      ≡ written_count texts.setup.face (length config.networks)
      ++ written_after texts.setup.face (first_moment config) answers

-- nothing was read or written
pub record DoesNothing (texts : Texts) (old new : Streams) : Type 0 where
  pub unread : texts.input ≡ []
  pub source : new.source ≡ old.source
  pub unwritten : Keeps old.sink.taken new.sink.taken

-- the source came to its end, and all was written
pub record WritesAll (texts : Texts) (old new : Streams) : Type 0 where
  pub written : List ℕ
  pub all : AnswersAll texts written
  pub at_end : IsAtEnd new.source.left
  pub grown : Appends old.sink.taken new.sink.taken written

-- reading ended, and what was said as far as it had ended is answered, with no table
pub record WritesEnded (texts : Texts) (old new : Streams) : Type 0 where
  pub written : List ℕ
  pub ended : AnswersEnded texts written
  pub grown : Appends old.sink.taken new.sink.taken written

-- Reading stopped where a write failed: what was read are octets, of which all was written that is to be written of
-- what had ended, and a piece of at most 4,096 octets.
pub record StopsReading (texts : Texts) (old new : SinkView) : Type 0 where
  pub before : List ℕ
  pub piece : List ℕ
  pub read : texts.input ≡ before ++ piece
  pub short : length piece ≤ 4096
  pub written : List ℕ
  pub ended : AnswersEnded (record texts { input = before }) written
  pub rest : List ℕ
  pub grown : Appends old.taken new.taken (written ++ rest)

-- a write failed, and a prefix of all was written; if anything was read, reading stopped there
pub record WritesPrefix (texts : Texts) (old new : Streams) : Type 0 where
  pub written : List ℕ
  pub all : AnswersAll texts written
  pub grown : AppendsPrefix old.sink.taken new.sink.taken written
  pub stops : (texts.input ≡ []) ⊎ StopsReading texts old.sink new.sink

-- How a run ends, by its answer. Before the first read memory may run out, and afterwards it ends nothing.
abbrev pub EndsLive : Result Unit LiveFault → Texts → Streams → Streams → Type 0
EndsLive (Ok u) texts old new = WritesAll texts old new
EndsLive (Err (Config fault)) texts old new =
    (configuration_of texts.setup.config ≡ Err fault) × DoesNothing texts old new
EndsLive (Err NoMemory) texts old new = DoesNothing texts old new
EndsLive (Err Read) texts old new = WritesEnded texts old new
EndsLive (Err Write) texts old new = WritesPrefix texts old new

-- a run of an access point, and what became of its input and its output
pub record Runs (setup : Setup) (result : Result Unit LiveFault) (old new : Streams) : Type 0 where
  pub input : List ℕ
  pub reads : Reads (ending_of live_ending result) max_reads (changed old.source new.source) input
  pub end : EndsLive result (record { setup = setup; input = input }) old new
