-- How frames are told, one after another (profile).
use Rattle.std.specs.Prelude.{ℕ, List, flat_map}
use Rattle.report.specs.Report.{frame_line}
use Rattle.live_rules.specs.AnswerText.{frame_words}
use Rattle.live.specs.AnswerOctets.{record_of}

-- a line for each frame, after a word that says where it went and the address of its network
abbrev pub frames_text : List ℕ → List ℕ → List (List ℕ) → List ℕ
frames_text word bssid frames = flat_map (frame_line (frame_words word bssid)) frames

-- a record of this kind for each frame
abbrev pub frames_octets : ℕ → List ℕ → List (List ℕ) → List ℕ
frames_octets kind bssid frames = flat_map (record_of kind bssid) frames
