use Rattle.play.proofs.playing.play_finished.Given as goal

-- the play of these parts
abbrev pub ghosts-finish_named : goal.ghosts-finish_named
ghosts-finish_named g a = record { play = a.parts }
