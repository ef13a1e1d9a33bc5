-- What the steps of reading a trace rest on.
use Rattle.std.proofs.Common.{◌≡◌, ℕ, suc, ◌<◌, List, [], ◌∷◌, length, get_or, Some, Result, refl, arith}
use Rattle.std.specs.Prelude.{slice_get}
use Rattle.ap_config.specs.declared.config.RadioConfig.{RadioConfig}
use Rattle.events.specs.declared.line.Line.{Line}
use Rattle.text_io.specs.declared.read_fault.ReadFault.{ReadFault}
use Rattle.text_io.specs.Endings.{Gives}
use Rattle.text_io.specs.Faults.{read_ending}
use Rattle.trace.specs.TraceText.{lines_of}
use Rattle.trace.specs.declared.fault.TraceFault.{TraceFault}
use Rattle.play_text.specs.Reading.{AreRead}

-- an answer for each trace
pub read_by_place : (c : RadioConfig) (texts : List (List ℕ))
    (answers : List (Result (List Line) (ReadFault TraceFault))) → length answers ≡ length texts
    → ((i : ℕ) (answer : Result (List Line) (ReadFault TraceFault)) → i < length texts → slice_get answers i ≡ Some answer
    → Gives (λ lines. lines) read_ending answer (lines_of c (get_or texts i [])))
    → AreRead c texts answers
read_by_place c [] [] count each = tt
read_by_place c [] (a ∷ others) count each = absurd (omega (arith, count))
read_by_place c (t ∷ ts) [] count each = absurd (omega (arith, count))
read_by_place c (t ∷ ts) (a ∷ others) count each =
    (each 0 a (omega arith) refl, read_by_place c ts others (omega (arith, count)) (λ i answer within is. each (suc i) answer (omega (arith, within)) is))
