use Rattle.std.proofs.lemmas.Result.{err_from_is_err_and}
use Rattle.replay.proofs.StreamEnds.{is_fault, reads-then}
use Rattle.replay.proofs.StreamSteps.{stops_at_end}
use Rattle.replay.proofs.run.stream.take_whole.Goals as goal

pub returns-in_err-take_stream : goal.returns-in_err-take_stream
returns-in_err-take_stream g c config h =
    let p = err_from_is_err_and c.from_residual.result c.from_residual.ensures.1 in
    let s = c.in_err-take_stream.ensures config h in
    rw (p.1, p.2) (record { text = s.text; reads = s.reads; end = s.end })

pub returns-in_err-take_end : goal.returns-in_err-take_end
returns-in_err-take_end g c config h =
    let p = err_from_is_err_and c.from_residual-in_err-take_end.result c.from_residual-in_err-take_end.ensures.1 in
    let s = c.in_ok-take_stream.ensures config h in
    let e = c.in_err-take_end.field-0.0 in
    rw (p.1, p.2)
    (record {
      text = s.text;
      reads = reads-then e _ _ s.text s.reads;
      end = is_fault config s.text e (stops_at_end config s.text _ _ s.end.1)
          (c.in_err-take_end.ensures.all config s.text s.end.1);
    })

pub returns : goal.returns
returns g c config h =
    let s = c.in_ok-take_stream.ensures config h in
    record { text = s.text; reads = s.reads; end = (s.end.0, c.in_ok-take_end.ensures.all config s.text s.end.1) }
