-- A file that could not be read ends it before anything is checked.
use Rattle.std.proofs.Common.{◌∷◌, []}
use Rattle.std.proofs.lemmas.Result.{err_from_is_err_and}
use Rattle.text_files.proofs.FileLemmas.{unread_first}
use Rattle.text_files.proofs.CheckedLemmas.{unread_ends_check}
use Rattle.text_files.proofs.checking.check_file.Goals as goal

pub returns-in_err-config-clause-ends : goal.returns-in_err-config-clause-ends
returns-in_err-config-clause-ends g c =
    let opens = g.S.FileSystem.opens in
    let p = err_from_is_err_and c.from_residual.result c.from_residual.ensures.1 in
    let fault = c.in_err-config.field-0.0 in
    rw (p.1, p.2)
    (unread_ends_check opens c.args.system.now c.args.config.now fault _
    (unread_first g.S.File.OpenedFile.gives opens c.args.system.now c.args.config.now c.read_file.new.system [] fault
    c.in_err-config.ensures))
