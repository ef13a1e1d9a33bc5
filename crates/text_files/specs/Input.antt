-- What the program does with a configuration and a trace in one text, which it reads.
use Rattle.std.specs.Prelude.{ℕ, ◌≡◌, List, Option, Result, Ok, Err, IfSome, codes}
use Rattle.std.specs.Io.KnownBytes.{Keeps}
use Rattle.std.specs.Result.{result_map_both}
use Rattle.ap_config.specs.declared.config.RadioConfig.{RadioConfig}
use Rattle.events.specs.declared.section.Section.{Section}
use Rattle.config_text.specs.ConfigurationText.{configuration_of}
use Rattle.text_io.specs.Endings.{Ends, ending_of}
use Rattle.replay.specs.Answer.{answer_of}
use Rattle.replay.specs.Joined.{joined_parts}
use Rattle.replay.specs.Stream.{AreSectionsOf}
use Rattle.text_files.specs.Faults.{IsOfFile, of_texts, run_ending}
use Rattle.text_files.specs.declared.fault.Fault.{Fault}
use Rattle.text_files.specs.declared.fault.Fault.TheVariants.{Words, File}

-- the answer to a configuration and a trace in one text
abbrev pub joined_answer : List ℕ → Result (List ℕ) Fault
joined_answer text = result_map_both (λ report. report) of_texts (answer_of (joined_parts text).0 (joined_parts text).1)

-- the run of a text that a reader gave, all that it had left where that is known, ended so
abbrev pub EndsOn : Result Unit Fault → Option (List ℕ) → Option (List ℕ) → Option (List ℕ) → Type 0
EndsOn end left old new =
    (input : List ℕ) × IfSome left (λ octets. input ≡ octets) × Ends (ending_of run_ending end) (joined_answer input) old new

-- What a run that reads its text did, and what its output took meanwhile: where the reader failed, nothing was written;
-- else it is the run of the text that the reader gave.
abbrev pub EndsInput : Result Unit Fault → Option (List ℕ) → Option (List ℕ) → Option (List ℕ) → Type 0
EndsInput (Err (File name)) left old new = IsOfFile (codes "-") (File name) × Keeps old new
EndsInput (Err Words) left old new = ⊥
EndsInput end left old new = EndsOn end left old new

-- they are the sections of a configuration's text and a trace's
abbrev pub AreOfParts : List Section → List ℕ × List ℕ → Type 0
AreOfParts sections parts = (c : RadioConfig) × (configuration_of parts.0 ≡ Ok c) × AreSectionsOf c parts.1 sections

-- The sections that a run hands out are those of the text that the reader gave, all that it had left where that is
-- known.
abbrev pub AreOfInput : List Section → Option (List ℕ) → Type 0
AreOfInput sections left =
    (input : List ℕ) × IfSome left (λ octets. input ≡ octets) × AreOfParts sections (joined_parts input)
