use Rattle.refused_growths.proofs.callers.give_lines.Given as goal

-- the access point of these parts
abbrev pub ghosts-give_lines_of : goal.ghosts-give_lines_of
ghosts-give_lines_of g a = record { config = a.parts.config; queue = a.parts.queue }
