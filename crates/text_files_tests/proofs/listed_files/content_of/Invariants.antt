-- The files before this one have other names.
use Rattle.std.proofs.Common.{◌≡◌, drop, map}
use Rattle.text_files_tests.specs.ListedFiles.{listed, named}
use Rattle.text_files_tests.proofs.listed_files.content_of.Given as goal

abbrev pub invariant-loop-file : goal.invariant-loop-file
invariant-loop-file l = named (map listed (drop l.file-index l.files)) l.name ≡ named (map listed l.files) l.name
