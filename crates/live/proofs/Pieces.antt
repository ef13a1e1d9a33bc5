-- What the laws of pieces say, as the lemmas of an input take it.
use Rattle.std.proofs.Common.{◌≡◌, ℕ, List, ◌++◌}
use Rattle.live_rules.specs.Records.{AreRecords}
use Rattle.live_rules.specs.TextLines.{lines_of_text, ended_lines, partial_in, lines_in, partial_after, last_line}

-- a text, or records, and a piece more
pub record InPieces : Type 0 where
  pub ended : (text piece : List ℕ) → ended_lines (text ++ piece) ≡ ended_lines text ++ lines_in (partial_in text) piece
  pub partial : (text piece : List ℕ) → partial_in (text ++ piece) ≡ partial_after (partial_in text) piece
  pub records :
      (octets piece : List ℕ)
      (records more : List (List ℕ))
      (partial rest : List ℕ)
      → AreRecords octets records partial
      → AreRecords (partial ++ piece) more rest
      → AreRecords (octets ++ piece) (records ++ more) rest

-- the last line of a text is its partial one
abbrev pub LastLine : Type 0
LastLine = (text : List ℕ) → lines_of_text text ≡ ended_lines text ++ last_line (partial_in text)
