-- What a run of a text that was read leaves.
use Rattle.std.proofs.Common.{◌≡◌, ℕ, List, [], Option, Some, None, Result, Ok, Err, IfSome, refl, ap}
use Rattle.std.proofs.KnownBytes.{Keeps-refl}
use Rattle.std.specs.Result.{result_map_both}
use Rattle.text_io.specs.Endings.{Ends, ending_of}
use Rattle.text_io.specs.EndingLaws.{nothing_written}
use Rattle.replay.specs.Answer.{answer_of, text_ending}
use Rattle.replay.specs.Joined.{joined_parts}
use Rattle.replay.specs.declared.fault.TextFault.{TextFault}
use Rattle.replay.specs.declared.fault.TextFault.TheVariants as replay
use Rattle.text_files.specs.Faults.{IsOfFile, of_texts, run_ending}
use Rattle.text_files.specs.Input.{EndsInput, EndsOn, joined_answer}
use Rattle.text_files.specs.declared.fault.Fault.{Fault}
use Rattle.text_files.specs.declared.fault.Fault.TheVariants.{Config, Trace, InTrace, Sources, Words, Memory, Thread, Finish}
use Rattle.text_files.specs.declared.fault.Fault.TheVariants.{File, Output}
use Rattle.std.specs.Prelude.{codes}

-- the run of two texts, with the program's faults
as_run : (end : Result Unit TextFault) (answer : Result (List ℕ) TextFault) (old new : Option (List ℕ))
    → Ends (ending_of text_ending end) answer old new
    → Ends (ending_of run_ending (result_map_both (λ u. u) of_texts end)) (result_map_both (λ report. report) of_texts answer) old
    new
as_run (Ok u) (Ok text) old new h = h
as_run (Ok u) (Err fault) old new h = absurd h
as_run (Err (replay.Config fault)) answer old new h = (ap (result_map_both (λ report. report) of_texts) h.0, h.1)
as_run (Err (replay.Trace fault)) answer old new h = (ap (result_map_both (λ report. report) of_texts) h.0, h.1)
as_run (Err replay.Write) (Ok text) old new h = h
as_run (Err replay.Write) (Err fault) old new h = absurd h
as_run (Err replay.NoMemory) (Ok text) old new h = h
as_run (Err replay.NoMemory) (Err fault) old new h = h

-- the text was read, and its run ended with a fault
pub fault_ends : (e : TextFault) (input : List ℕ) (left old new : Option (List ℕ))
    → IfSome left (λ octets. input ≡ octets)
    → Ends (ending_of {A = Unit} text_ending (Err e)) (answer_of (joined_parts input).0 (joined_parts input).1) old new
    → EndsInput (Err (of_texts e)) left old new
fault_ends (replay.Config fault) input left old new read h =
    (input, read, as_run (Err (replay.Config fault)) _ old new h)
fault_ends (replay.Trace fault) input left old new read h = (input, read, as_run (Err (replay.Trace fault)) _ old new h)
fault_ends replay.Write input left old new read h = (input, read, as_run (Err replay.Write) _ old new h)
fault_ends replay.NoMemory input left old new read h = (input, read, as_run (Err replay.NoMemory) _ old new h)

-- the text was read, and its run ended well
pub well_ends : (u : Unit {0}) (input : List ℕ) (left old new : Option (List ℕ)) → IfSome left (λ octets. input ≡ octets)
    → Ends (ending_of text_ending (Ok u)) (answer_of (joined_parts input).0 (joined_parts input).1) old new
    → EndsInput (Ok u) left old new
well_ends u input left old new read h = (input, read, as_run (Ok u) _ old new h)

-- memory ran out before all was read
unread_ends : (left old : Option (List ℕ)) → EndsOn (Err Memory) left old old
unread_ends None old = ([], tt, nothing_written (joined_answer []) old)
unread_ends (Some octets) old = (octets, refl, nothing_written (joined_answer octets) old)

-- it was not read
pub read_ends : (e : Fault) (left old : Option (List ℕ)) → IsOfFile (codes "-") e → EndsInput (Err e) left old old
read_ends (File name) left old is = (is, Keeps-refl old)
read_ends Memory left old is = unread_ends left old
read_ends (Config fault) left old is = absurd is
read_ends (Trace fault) left old is = absurd is
read_ends (InTrace fault) left old is = absurd is
read_ends Sources left old is = absurd is
read_ends Words left old is = absurd is
read_ends Thread left old is = absurd is
read_ends (Finish fault) left old is = absurd is
read_ends Output left old is = absurd is
