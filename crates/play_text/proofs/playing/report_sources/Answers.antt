use Rattle.std.proofs.Common.{◌≡◌, List, length, Ok, Err, sym, ap, subst, ◌∙◌}
use Rattle.std.proofs.lemmas.Bool.{true≢false}
use Rattle.std.proofs.lemmas.Option.{none-some}
use Rattle.std.proofs.lemmas.Result.{err_from_is_err_and}
use Rattle.std.proofs.lemmas.Slice.Zip.{AllZip-long}
use Rattle.play.specs.Plays.{IsPlayWithFrames}
use Rattle.events.specs.declared.line.Line.{Line}
use Rattle.play.specs.Faults.{callers_fit}
use Rattle.trace.specs.TraceText.{lines_of}
use Rattle.play_text.proofs.PlayEnds.{play_fails, report_plays, whole_plays, played_as}
use Rattle.play_text.proofs.playing.report_sources.Goals as goal

pub returns-in_err-networks-clause-ends : goal.returns-in_err-networks-clause-ends
returns-in_err-networks-clause-ends g c text traces able =
    let p = err_from_is_err_and c.from_residual.result c.from_residual.ensures.1 in
    let sources : List (List Line) = c.args.sources.items in
    let count : length c.as_slice.result.now ≡ length traces = ap length c.as_slice.ensures.value ∙ AllZip-long (λ text lines. lines_of c.args.config text ≡ Ok lines) traces sources able.lines in
    rw (p.1, p.2)
    (play_fails c.in_err-networks.field-0.0 c.args.config text traces sources _ able
    (λ fault is. none-some fault (sym c.requires.sound ∙ (c.in_err-networks.ensures.config fault).0 (ap Err is)))
    (λ is. true≢false (sym able.fit ∙ ap callers_fit (sym count) ∙ (c.in_err-networks.ensures.sources.0 (ap Err is)).1))
    (λ fault is. c.in_err-networks.ensures.finish fault (ap Err is)))

pub returns-in_err-write_by_threads-clause-ends : goal.returns-in_err-write_by_threads-clause-ends
returns-in_err-write_by_threads-clause-ends g c text traces able =
    let p = err_from_is_err_and c.from_residual-in_err-write_by_threads.result c.from_residual-in_err-write_by_threads.ensures.1 in
    let sources : List (List Line) = c.args.sources.items in
    let network : IsPlayWithFrames c.args.config sources c.in_ok-networks.networks.items = subst (λ (ss : List (List Line)). IsPlayWithFrames c.args.config ss c.in_ok-networks.networks.items) c.as_slice.ensures.value c.in_ok-networks.ensures.played in
    let (end, play, report) = played_as c.args.config sources c.in_ok-networks.networks.items c.as_sections.ensures.one network in
    rw (p.1, p.2)
    (report_plays c.in_err-write_by_threads.field-0.0 c.args.config text traces sources end _ _ _ able play report
    (rw c.as_slice-2.ensures.value at c.in_err-write_by_threads.ensures.ends))

pub returns-clause-ends : goal.returns-clause-ends
returns-clause-ends g c text traces able =
    let sources : List (List Line) = c.args.sources.items in
    let network : IsPlayWithFrames c.args.config sources c.in_ok-networks.networks.items = subst (λ (ss : List (List Line)). IsPlayWithFrames c.args.config ss c.in_ok-networks.networks.items) c.as_slice.ensures.value c.in_ok-networks.ensures.played in
    let (end, play, report) = played_as c.args.config sources c.in_ok-networks.networks.items c.as_sections.ensures.one network in
    whole_plays c.args.config text traces sources end _ _ _ able play report
    (rw c.as_slice-2.ensures.value at c.in_ok-write_by_threads.ensures.ends)
