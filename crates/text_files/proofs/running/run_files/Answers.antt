-- A file that could not be read ends it before anything is run; else it is the run of the two.
use Rattle.std.proofs.Common.{◌∷◌, [], inr}
use Rattle.std.proofs.lemmas.Result.{err_from_is_err_and}
use Rattle.replay.specs.Stream.{seen}
use Rattle.text_files.proofs.FileLemmas.{unread_first, unread_later}
use Rattle.text_files.proofs.RunLemmas.{unread_ends_run}
use Rattle.text_files.proofs.running.run_files.Goals as goal

pub returns-in_err-config : goal.returns-in_err-config
returns-in_err-config g c =
    let opens = g.S.FileSystem.opens in
    let gives = g.S.File.OpenedFile.gives in
    let p = err_from_is_err_and c.from_residual.result c.from_residual.ensures.1 in
    let fault = c.in_err-config.field-0.0 in
    rw (p.1, p.2)
    (unread_ends_run opens g.S.FileSystem.opened gives g.S.File.Read.remaining c.args.system.now c.args.config.now c.args.trace.now fault
    (record { taken = g.W.Sink.taken c.args.out.now; failed = g.W.Sink.failed c.args.out.now })
    (unread_first gives opens c.args.system.now c.args.config.now c.read_file.new.system (c.args.trace.now ∷ []) fault
    c.in_err-config.ensures))

pub returns-in_err-open_file : goal.returns-in_err-open_file
returns-in_err-open_file g c =
    let opens = g.S.FileSystem.opens in
    let gives = g.S.File.OpenedFile.gives in
    let p = err_from_is_err_and c.from_residual-in_err-open_file.result c.from_residual-in_err-open_file.ensures.1 in
    let fault = c.in_err-open_file.field-0.0 in
    rw (p.1, p.2)
    (unread_ends_run opens g.S.FileSystem.opened gives g.S.File.Read.remaining c.args.system.now c.args.config.now c.args.trace.now fault
    (record { taken = g.W.Sink.taken c.args.out.now; failed = g.W.Sink.failed c.args.out.now })
    (unread_later gives opens c.args.system.now c.args.config.now c.in_ok-config.config c.read_file.new.system
    (c.args.trace.now ∷ []) fault c.in_ok-config.ensures
    (unread_first gives opens c.read_file.new.system c.args.trace.now c.open_file.new.system [] fault
    c.in_err-open_file.ensures)))

pub returns-in-Ok : goal.returns-in-Ok
returns-in-Ok g c = record {
  text = c.in_ok-config.config;
  next = c.read_file.new.system;
  read = c.in_ok-config.ensures;
  file = c.in_ok-open_file.field-0;
  last = c.open_file.new.system;
  is_opened = c.in_ok-open_file.ensures.0;
  may_give = c.in_ok-open_file.ensures.1;
  source = seen (g.S.File.Read.remaining c.run_stream.new.source.inner) c.run_stream.new.source.failures c.run_stream.new.source.reads;
  run = _;
  runs = rw (c.as_slice.ensures, c.new-source.ensures.inner, c.new-source.ensures.failures, c.new-source.ensures.reads) at c.in-Ok.ensures;
  told = tt;
}

pub returns : goal.returns
returns g c = inr (record {
  text = c.in_ok-config.config;
  next = c.read_file.new.system;
  read = c.in_ok-config.ensures;
  file = c.in_ok-open_file.field-0;
  last = c.open_file.new.system;
  is_opened = c.in_ok-open_file.ensures.0;
  may_give = c.in_ok-open_file.ensures.1;
  source = seen (g.S.File.Read.remaining c.run_stream.new.source.inner) c.run_stream.new.source.failures c.run_stream.new.source.reads;
  run = _;
  runs = rw (c.as_slice.ensures, c.new-source.ensures.inner, c.new-source.ensures.failures, c.new-source.ensures.reads) at c.in-Err.ensures;
  told = c.of_stream.ensures;
})
