-- The faults of the program, the exit status that goes with each, and how a run ends with it.
use Rattle.std.specs.Prelude.{ℕ, ◌≡◌, List, codes, string_bytes}
use Rattle.text_io.specs.Endings.{Ending, Refused, WriteFailed, OutOfMemory}
use Rattle.replay.specs.declared.fault.TextFault.{TextFault}
use Rattle.replay.specs.declared.fault.TextFault.TheVariants as replay
use Rattle.replay.specs.declared.fault.StreamFault.{StreamFault}
use Rattle.replay.specs.declared.fault.StreamFault.TheVariants as streams
use Rattle.live.specs.declared.fault.LiveFault.{LiveFault}
use Rattle.live.specs.declared.fault.LiveFault.TheVariants as lives
use Rattle.play_text.specs.declared.fault.PlayTextFault.{PlayTextFault}
use Rattle.play_text.specs.declared.fault.PlayTextFault.TheVariants as plays
use Rattle.text_files.specs.declared.fault.Fault.{Fault}
use Rattle.text_files.specs.declared.fault.Fault.TheVariants.{Config, Trace, InTrace, Sources, Words, Memory, Thread, Finish}
use Rattle.text_files.specs.declared.fault.Fault.TheVariants.{File, Output}

-- the fault of two texts that were not answered
abbrev pub of_texts : TextFault → Fault
of_texts (replay.Config fault) = Config fault
of_texts (replay.Trace fault) = Trace fault
of_texts replay.NoMemory = Memory
of_texts replay.Write = Output

-- the fault of several texts that could not be played
abbrev pub of_play : PlayTextFault → Fault
of_play (plays.Config fault) = Config fault
of_play plays.Sources = Sources
of_play (plays.Trace source fault) = InTrace (record { source = source; fault = fault })
of_play plays.NoThread = Thread
of_play plays.NoMemory = Memory
of_play (plays.Finish fault) = Finish fault
of_play plays.Write = Output

abbrev pub status_of : Fault → ℕ
status_of (Config fault) = 1
status_of (Trace fault) = 1
status_of (InTrace fault) = 1
status_of Sources = 1
status_of Words = 2
status_of Memory = 3
status_of Thread = 3
status_of (Finish fault) = 3
status_of (File name) = 4
status_of Output = 4

-- the line of the fault that memory ran out
abbrev pub memory_line : List ℕ
memory_line = codes "fault memory\n"

-- the fault of a file of this name that can't be read, or of memory that ran out meanwhile
abbrev pub IsOfFile : List ℕ → Fault → Type 0
IsOfFile wanted (File name) = string_bytes name ≡ wanted
IsOfFile wanted Memory = Unit {0}
IsOfFile wanted _ = ⊥

-- the fault of a run whose trace was read from a file of this name
abbrev pub IsOfStream : StreamFault → List ℕ → Fault → Type 0
IsOfStream (streams.Config found) wanted fault = fault ≡ Config found
IsOfStream (streams.Trace found) wanted fault = fault ≡ Trace found
IsOfStream streams.NoMemory wanted fault = fault ≡ Memory
IsOfStream streams.Read wanted fault = IsOfFile wanted fault
IsOfStream streams.Write wanted fault = fault ≡ Output

-- the fault of an access point that answered lines from a stream of this name
abbrev pub IsOfLive : LiveFault → List ℕ → Fault → Type 0
IsOfLive (lives.Config found) wanted fault = fault ≡ Config found
IsOfLive lives.NoMemory wanted fault = fault ≡ Memory
IsOfLive lives.Read wanted fault = IsOfFile wanted fault
IsOfLive lives.Write wanted fault = fault ≡ Output

-- how a run of the program ends
abbrev pub run_ending : Fault → Ending Fault
run_ending Memory = OutOfMemory
run_ending Output = WriteFailed
run_ending fault = Refused fault
