-- The lines of some frames more are put.
use Rattle.std.proofs.Common.{[], ◌++◌, ◌∙◌, refl, sym, ap, append_assoc}
use Rattle.report.specs.Report.{frame_line}
use Rattle.text_io.specs.BufferLaws.{Puts-nothing}
use Rattle.play_text.proofs.Parts.{Puts-parts, parted}
use Rattle.play_text.proofs.reporting.put_parts.Goals as goal

pub loop-rest-init : goal.loop-rest-init
loop-rest-init g c = ([], sym c.split_at-rest.ensures.back, Puts-nothing _ c.requires)

pub loop-rest-preserved : goal.loop-rest-preserved
loop-rest-preserved g c =
    let (done, split, put) = c.loop-rest.invariant in
    let some = c.split_at-some.result.0 in (
      done ++ some,
      split ∙ ap (λ l. done ++ l) (parted _ _ c.split_at-some.ensures.front c.split_at-some.ensures.back)
          ∙ sym (append_assoc done some _),
      Puts-parts (frame_line c.args.word.now) _ _ refl put c.put_by_threads.ensures,
    )
