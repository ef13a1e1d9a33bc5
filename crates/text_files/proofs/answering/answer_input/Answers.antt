-- A file that could not be read ends it before anything is read of the source; else it is the access point's run.
use Rattle.std.proofs.Common.{[], inr}
use Rattle.std.proofs.lemmas.Result.{err_from_is_err_and}
use Rattle.text_files.proofs.AnsweredLemmas.{unread_ends_answers}
use Rattle.text_files.proofs.FileLemmas.{unread_first}
use Rattle.text_files.proofs.answering.answer_input.Goals as goal

pub returns-in_err-config-clause-ends : goal.returns-in_err-config-clause-ends
returns-in_err-config-clause-ends g c =
    let opens = g.S.FileSystem.opens in
    let p = err_from_is_err_and c.from_residual.result c.from_residual.ensures.1 in
    let fault = c.in_err-config.field-0.0 in
    rw (p.1, p.2)
    (unread_ends_answers opens c.args.system.now c.args.config.now g.F.InFace.face fault _
    (unread_first g.S.File.OpenedFile.gives opens c.args.system.now c.args.config.now c.read_file.new.system [] fault
    c.in_err-config.ensures))

pub returns-in-Ok-clause-ends : goal.returns-in-Ok-clause-ends
returns-in-Ok-clause-ends g c = record {
  text = c.in_ok-config.config;
  last = c.read_file.new.system;
  read = c.in_ok-config.ensures;
  run = _;
  runs = rw c.as_slice.ensures at c.in-Ok.ensures.ends;
  told = tt;
}

pub returns-clause-ends : goal.returns-clause-ends
returns-clause-ends g c = inr (record {
  text = c.in_ok-config.config;
  last = c.read_file.new.system;
  read = c.in_ok-config.ensures;
  run = _;
  runs = rw c.as_slice.ensures at c.in-Err.ensures.ends;
  told = c.of_live.ensures;
})
