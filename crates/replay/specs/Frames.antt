-- The frames that left the air queue.
use Rattle.std.specs.Prelude.{ℕ, List, [], ◌++◌, replicate, slice_set}
use Rattle.std.specs.List.{slice_index_or}

-- for each network by its place, the frames that left, the first of them first
abbrev pub FrameLists : Type 0
FrameLists = List (List (List ℕ))

abbrev pub none_sent : ℕ → FrameLists
none_sent networks = replicate networks []

abbrev pub sent_at : FrameLists → ℕ → List (List ℕ)
sent_at sent place = slice_index_or sent place []

-- frames of the network at a place left after the others
abbrev pub sends_more : FrameLists → ℕ → List (List ℕ) → FrameLists
sends_more sent place frames = slice_set sent place (sent_at sent place ++ frames)
