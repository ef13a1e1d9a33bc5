-- The texts so far are those of the first parts, and the others follow.
use Rattle.std.proofs.Common.{◌≡◌, ◌++◌, ℕ, List}
use Rattle.std.specs.Prelude.{flat_map}
use Rattle.std.specs.Vec.Iter.{into_iter_items}
use Rattle.report.specs.Report.{frame_line}
use Rattle.play_text.proofs.Parts.{AreTexts}
use Rattle.play_text.proofs.reporting.texts_of.Given as goal

abbrev pub invariant-loop-text : goal.invariant-loop-text
invariant-loop-text g l =
    (before : List (List (List ℕ))) × (after : List (List (List ℕ)))
    × (flat_map (λ part. part) (before ++ after) ≡ l.frames)
    × (flat_map (λ t. t) l.all.items ≡ flat_map (λ part. flat_map (frame_line l.word) part) before)
    × AreTexts (λ part. flat_map (frame_line l.word) part) after (into_iter_items l.text-iterator)
