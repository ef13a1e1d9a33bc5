-- Texts, and the parts of each.
use Rattle.std.proofs.Common.{codes, [], refl, ◌∷◌}
use Rattle.replay.specs.Joined.{joined_parts}
use Rattle.mac_frame.proofs.Rows.{Computes}

joined : Computes joined_parts (
    ("empty is one part", [], ([], []))
    ∷ ("between two lines", codes "a\n---\nb", (codes "a\n", codes "b"))
    ∷ ("first line", codes "---\nb\n", ([], codes "b\n"))
    ∷ ("separator alone", codes "---", ([], []))
    ∷ ("last without line feed", codes "a\n---", (codes "a\n", []))
    ∷ ("last with line feed", codes "a\n---\n", (codes "a\n", []))
    ∷ ("before carriage return", codes "a\n---\r\nb\n", (codes "a\n---\r\nb\n", []))
    ∷ ("second separator is kept", codes "a\n---\nb\n---\nc\n", (codes "a\n", codes "b\n---\nc\n"))
    ∷ ("longer is none", codes "a\n----\nb\n", (codes "a\n----\nb\n", []))
    ∷ ("shorter is none", codes "a\n--\nb\n", (codes "a\n--\nb\n", []))
    ∷ ("after a space", codes "a\n ---\nb\n", (codes "a\n ---\nb\n", []))
    ∷ ("inside a string", codes "ssid = \"\"\"\n---\n\"\"\"\n", (codes "ssid = \"\"\"\n", codes "\"\"\"\n"))
    ∷ ("no separator", codes "a\nb", (codes "a\nb", []))
    ∷ ("empty lines", codes "\n\n---\n\n", (codes "\n\n", codes "\n"))
    ∷ [])
unfolding joined_parts
joined = refl
