-- What is read of several traces.
use Rattle.std.specs.Prelude.{ℕ, List, Result}
use Rattle.std.specs.List.{AllZip}
use Rattle.ap_config.specs.declared.config.RadioConfig.{RadioConfig}
use Rattle.events.specs.declared.line.Line.{Line}
use Rattle.text_io.specs.Endings.{Gives}
use Rattle.text_io.specs.Faults.{read_ending}
use Rattle.trace.specs.TraceText.{lines_of}
use Rattle.trace.specs.declared.fault.TraceFault.{TraceFault}
use Rattle.text_io.specs.declared.read_fault.ReadFault.{ReadFault}

-- what reading each trace answered, in order
abbrev pub AreRead : RadioConfig → List (List ℕ) → List (Result (List Line) (ReadFault TraceFault)) → Type 0
AreRead c traces read =
    AllZip (λ text answer. Gives (λ lines. lines) read_ending answer (lines_of c text)) traces read
