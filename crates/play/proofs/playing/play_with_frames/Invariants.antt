use Rattle.play.proofs.playing.play_with_frames.Given as goal

-- the play of these parts
abbrev pub ghosts-networks_named : goal.ghosts-networks_named
ghosts-networks_named g a = record { play = a.parts }
