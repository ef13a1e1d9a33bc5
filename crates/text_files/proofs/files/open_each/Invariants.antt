use Rattle.std.proofs.Common.{take}
use Rattle.text_files.specs.Files.{AreOpened, names_of}
use Rattle.text_files.proofs.files.open_each.Given as goal

-- the files of the first names were opened
abbrev pub invariant-loop-name : goal.invariant-loop-name
invariant-loop-name g l =
    AreOpened g.S.File.OpenedFile.gives g.S.FileSystem.opens l.initial.system (names_of (take l.name-index l.names)) l.opened.items l.system
