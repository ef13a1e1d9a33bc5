use Rattle.workers_tests.proofs.tests.receipts.told.Given as goal

-- the access point of these parts
abbrev pub ghosts-told_of : goal.ghosts-told_of
ghosts-told_of g a = record { config = a.parts.config; queue = a.parts.queue }
