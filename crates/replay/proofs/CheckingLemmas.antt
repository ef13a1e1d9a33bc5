-- What each part of a check leaves, as the end of the whole.
use Rattle.std.proofs.Common.{◌≡◌, ℕ, List, length, Option, Ok, Err, refl}
use Rattle.std.proofs.KnownBytes.{Keeps-refl}
use Rattle.ap_config.specs.declared.config.RadioConfig.{RadioConfig}
use Rattle.ap_config.specs.declared.config.ConfigFault.{ConfigFault}
use Rattle.config_text.specs.ConfigurationText.{configuration_of}
use Rattle.text_io.specs.Endings.{IsFaultOf, Ends, ending_of}
use Rattle.text_io.specs.Faults.{read_as, read_ending}
use Rattle.report.specs.Report.{count_line}
use Rattle.text_io.specs.declared.read_fault.ReadFault.{ReadFault}
use Rattle.text_io.specs.declared.read_fault.ReadFault.TheVariants.{At, NoMemory}
use Rattle.text_io.specs.EndingLaws.{nothing_written}
use Rattle.replay.specs.Answer.{text_ending}
use Rattle.replay.specs.Checking.{check_of}
use Rattle.replay.specs.declared.fault.TextFault.TheVariants as texts

-- a fault of the configuration
pub fault_ends : (e : ReadFault ConfigFault) (text : List ℕ) (old : Option (List ℕ))
    → IsFaultOf (configuration_of text) (read_ending e)
    → Ends (ending_of {A = Unit} text_ending (Err (read_as texts.Config texts.NoMemory e))) (check_of text) old old
unfolding check_of
fault_ends (At fault) text old h = (rw h refl, Keeps-refl old)
fault_ends NoMemory text old h = nothing_written (check_of text) old

-- the number of networks, where there is no fault
pub check_of-read : (c : RadioConfig) (line text : List ℕ) → configuration_of text ≡ Ok c
    → line ≡ count_line (length c.networks) → check_of text ≡ Ok line
unfolding check_of
check_of-read c line text read same = rw (same, read) refl
