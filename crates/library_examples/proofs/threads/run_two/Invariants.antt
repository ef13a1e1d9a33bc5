use Rattle.library_examples.proofs.threads.run_two.Given as goal

-- the access point of these parts
abbrev pub ghosts-run_parts : goal.ghosts-run_parts
ghosts-run_parts g a = record { config = a.parts.config; queue = a.parts.queue }
