use Rattle.workers_tests.proofs.tests.running.fault.Given as goal

-- the access point of these parts
abbrev pub ghosts-run_of : goal.ghosts-run_of
ghosts-run_of g a = record { config = a.parts.config; queue = a.parts.queue }
