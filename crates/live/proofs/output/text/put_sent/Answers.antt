use Rattle.std.proofs.Common.{ℕ, List, ap, sym, ◌∙◌, codes}
use Rattle.std.specs.Prelude.{option_to_list, option_map}
use Rattle.std.proofs.lemmas.List.Concat.{flat_map-append}
use Rattle.report.specs.Report.{frame_line}
use Rattle.live_rules.specs.AnswerText.{frame_words}
use Rattle.live.specs.Frames.{frames_text}
use Rattle.live.proofs.LentFrames.{copied}
use Rattle.text_io.specs.BufferLaws.{Puts-then, Puts-same}
use Rattle.live.proofs.output.text.put_sent.Goals as goal

pub returns : goal.returns
returns g c =
    let words : List ℕ = frame_words (codes "air") c.args.bssid in
    Puts-then
    (Puts-same
    (sym (flat_map-append (frame_line words) (option_to_list (option_map (λ frame. frame.now) c.parts.result.0)) c.parts.result.1.now)
    ∙ ap (frames_text (codes "air") c.args.bssid) c.parts.ensures)
    (Puts-then c.put_frame_if.ensures c.put_frames.ensures))
    (Puts-same
    (ap
    (λ o. frames_text (codes "wire") c.args.bssid (option_to_list o))
    (sym (copied c.as_ref.result) ∙ c.as_ref.ensures.value))
    c.put_frame_if-2.ensures)
