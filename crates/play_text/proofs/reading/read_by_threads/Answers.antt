use Rattle.std.proofs.Common.{get_or, [], sym, subst, ◌∙◌}
use Rattle.std.proofs.lemmas.Option.{get_or_from_slice_get}
use Rattle.text_io.specs.Endings.{Gives}
use Rattle.text_io.specs.Faults.{read_ending}
use Rattle.trace.specs.TraceText.{lines_of}
use Rattle.play_text.proofs.ReadSteps.{read_by_place}
use Rattle.play_text.proofs.reading.read_by_threads.Goals as goal

pub returns : goal.returns
returns g c =
    let read = c.in_ok-read.read in
    read_by_place c.args.config.now c.args.traces.now read.items (sym read.ok.0 ∙ c.in_ok-read.ensures.len)
    (λ i answer within is. subst (λ a. Gives (λ lines. lines) read_ending a (lines_of c.args.config.now (get_or c.args.traces.now i []))) (get_or_from_slice_get read.items i answer answer is) (c.in_ok-read.ensures.each i answer within).1.met)
