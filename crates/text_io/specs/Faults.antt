-- Faults of a text that is read, and what becomes of them in a call of which reading it is a part.
use Rattle.std.specs.Prelude.{Result, Ok, Err}
use Rattle.text_io.specs.Endings.{Ending, Refused, OutOfMemory}
use Rattle.text_io.specs.declared.read_fault.ReadFault.{ReadFault}
use Rattle.text_io.specs.declared.read_fault.ReadFault.TheVariants.{At, NoMemory}
use Rattle.text_io.specs.declared.report_fault.ReportFault.{ReportFault}
use Rattle.text_io.specs.declared.report_fault.ReportFault.TheVariants as reports

-- one step of reading after another, up to the first fault
infixl 10 ◌>>=◌
abbrev pub ◌>>=◌ : {A B F : Type 0} → Result A F → (A → Result B F) → Result B F
Ok x >>= next = next x
Err fault >>= next = Err fault

-- how a call ends that reads
abbrev pub read_ending : {F : Type 0} → ReadFault F → Ending F
read_ending (At fault) = Refused fault
read_ending NoMemory = OutOfMemory

-- ---- a fault of a part, as that of the whole call, which has its own names for them

-- a text was not read: it has this fault, or memory ran out
abbrev pub read_as : {F G : Type 0} → (F → G) → G → ReadFault F → G
read_as at no_memory (At fault) = at fault
read_as at no_memory NoMemory = no_memory

-- a report was not written: a write failed, or memory ran out
abbrev pub report_as : {G : Type 0} → G → G → ReportFault → G
report_as write no_memory reports.Write = write
report_as write no_memory reports.NoMemory = no_memory
