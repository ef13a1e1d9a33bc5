use Rattle.std.proofs.Common.{ℕ, List, ap, sym, append-nil, ◌∙◌}
use Rattle.std.specs.Prelude.{option_to_list, option_map}
use Rattle.report.specs.Report.{frame_line}
use Rattle.live_rules.specs.AnswerText.{frame_words}
use Rattle.live.specs.Frames.{frames_text}
use Rattle.text_io.specs.BufferLaws.{Puts-same}
use Rattle.live.proofs.output.text.put_frame_if.Goals as goal

pub returns-in-Some : goal.returns-in-Some
returns-in-Some g c =
    let words : List ℕ = frame_words c.args.word.now c.args.bssid in
    Puts-same
    (ap (frame_line words) c.as_slice.ensures
    ∙ sym (append-nil (frame_line words c.in-Some.octets.now))
    ∙ sym
    (ap
    (λ o. frames_text c.args.word.now c.args.bssid (option_to_list (option_map (λ octets. octets.now) o)))
    c.in-Some.is))
    c.put_frame.ensures
