-- A file that could not be read ends it before anything is played.
use Rattle.std.proofs.Common.{◌∷◌}
use Rattle.std.proofs.lemmas.Result.{err_from_is_err_and}
use Rattle.text_files.specs.Files.{names_of}
use Rattle.text_files.proofs.FileLemmas.{unread_first, unread_later}
use Rattle.text_files.proofs.PlayedLemmas.{unread_ends}
use Rattle.text_files.proofs.playing.play_files.Goals as goal

pub returns-in_err-config-clause-ends : goal.returns-in_err-config-clause-ends
returns-in_err-config-clause-ends g c =
    let opens = g.S.FileSystem.opens in
    let names = names_of c.args.traces.now in
    let p = err_from_is_err_and c.from_residual.result c.from_residual.ensures.1 in
    let fault = c.in_err-config.field-0.0 in
    rw (p.1, p.2)
    (unread_ends opens c.args.system.now (c.args.config.now ∷ names) fault _
    (unread_first g.S.File.OpenedFile.gives opens c.args.system.now c.args.config.now c.read_file.new.system names fault c.in_err-config.ensures))

pub returns-in_err-traces-clause-ends : goal.returns-in_err-traces-clause-ends
returns-in_err-traces-clause-ends g c =
    let opens = g.S.FileSystem.opens in
    let names = names_of c.args.traces.now in
    let p = err_from_is_err_and c.from_residual-in_err-traces.result c.from_residual-in_err-traces.ensures.1 in
    let fault = c.in_err-traces.field-0.0 in
    rw (p.1, p.2)
    (unread_ends opens c.args.system.now (c.args.config.now ∷ names) fault _
    (unread_later g.S.File.OpenedFile.gives opens c.args.system.now c.args.config.now c.in_ok-config.config c.read_file.new.system names fault c.in_ok-config.ensures c.in_err-traces.ensures))
