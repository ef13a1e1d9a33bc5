-- Each text is that of its part, and they are put one after the other.
use Rattle.std.proofs.Common.{ap, ◌∙◌}
use Rattle.std.specs.Prelude.{flat_map}
use Rattle.text_io.specs.BufferLaws.{Puts-same}
use Rattle.play_text.proofs.reporting.put_by_threads.Goals as goal

pub returns-in-Ok : goal.returns-in-Ok
returns-in-Ok g c = Puts-same (ap (flat_map (λ t. t)) c.as_slice.ensures.value ∙ c.in-Ok.ensures) c.put_texts.ensures
