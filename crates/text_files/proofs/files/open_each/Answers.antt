use Rattle.std.proofs.Common.{◌+◌, take, drop}
use Rattle.text_files.specs.Files.{names_of}
use Rattle.text_files.proofs.FileLemmas.{opened_next, names_parted}
use Rattle.text_files.proofs.files.open_each.Goals as goal

pub returns-in-Err : goal.returns-in-Err
returns-in-Err g c = record {
  before = names_of (take c.loop-name.name-index c.args.names.now);
  name = _;
  after = names_of (drop (c.loop-name.name-index + 1) c.args.names.now);
  in_order = names_parted c.args.names.now c.loop-name.name-index _ c.loop-name-test.true;
  then = c.loop-name.system;
  opened = c.loop-name.invariant;
  unread = c.in-Err.ensures;
}

pub loop-name-preserved : goal.loop-name-preserved
loop-name-preserved g c =
    let gives = g.S.File.OpenedFile.gives in
    let opens = g.S.FileSystem.opens in
    rw c.in_ok-push-in-Ok.ensures.items
    (opened_next gives opens c.args.system.now c.args.names.now c.loop-name.name-index _ c.loop-name.opened.items c.loop-name.system c.in-Ok.file c.open.new.system c.loop-name-test.true c.loop-name.invariant c.in-Ok.ensures)
