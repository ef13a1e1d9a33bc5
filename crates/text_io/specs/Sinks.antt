-- What is known of writers and readers, and of their failures.
use Rattle.std.specs.Prelude.{ℕ, ◌^◌, ◌<◌, Result, Ok, Err}
use Rattle.text_io.specs.Endings.{Ending, WriteFailed, OutOfMemory}
use Rattle.text_io.specs.declared.report_fault.ReportFault.{ReportFault}
use Rattle.text_io.specs.declared.report_fault.ReportFault.TheVariants.{Write, NoMemory}

-- a writer or reader, how often it failed, and how many reads were made of it, as far as 64 bits count
pub record CountedStream (T : Type 0) : Type 0 where
  pub inner : T
  pub failures : ℕ
  pub reads : ℕ

-- What each call on a sink or a source asks for: fewer than 2 ^ 63 failures so far. Their number is a u64, and a call
-- stops at its first failure, so that there is room to count that one.
abbrev pub MayFail : ℕ → Type 0
MayFail failures = failures < 2 ^ 63

-- ---- how calls on a sink end; no fault refuses what they write

-- of a call that only writes, any error is a failed write
abbrev pub write_ending : {E : Type 0} → E → Ending ⊥
write_ending failed = WriteFailed

abbrev pub report_ending : ReportFault → Ending ⊥
report_ending Write = WriteFailed
report_ending NoMemory = OutOfMemory

-- ---- how often a source failed in a call that answers this

abbrev pub failed_reads : {A E : Type 0} → Result A E → ℕ
failed_reads (Ok x) = 0
failed_reads (Err e) = 1
