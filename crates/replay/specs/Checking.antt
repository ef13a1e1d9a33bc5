-- What the program answers to the octets of a configuration alone.
use Rattle.std.specs.Prelude.{ℕ, List, length, Result, Ok, Err}
use Rattle.ap_config.specs.declared.config.RadioConfig.{RadioConfig}
use Rattle.ap_config.specs.declared.config.ConfigFault.{ConfigFault}
use Rattle.config_text.specs.ConfigurationText.{configuration_of}
use Rattle.report.specs.Report.{count_line}
use Rattle.replay.specs.declared.fault.TextFault.{TextFault}
use Rattle.replay.specs.declared.fault.TextFault.TheVariants.{Config}

abbrev pub checked : Result RadioConfig ConfigFault → Result (List ℕ) TextFault
checked (Ok c) = Ok (count_line (length c.networks))
checked (Err fault) = Err (Config fault)

-- the number of networks of a configuration's text, or its first fault
unfoldable pub check_of : List ℕ → Result (List ℕ) TextFault
check_of config_text = checked (configuration_of config_text)
