use Rattle.std.proofs.Common.{ℕ, List, ◌++◌, ap, sym, ◌∙◌}
use Rattle.std.specs.Prelude.{option_to_list, option_map}
use Rattle.std.proofs.lemmas.List.Concat.{flat_map-append}
use Rattle.live.specs.AnswerOctets.{record_of}
use Rattle.live.specs.Frames.{frames_octets}
use Rattle.live.proofs.LentFrames.{copied}
use Rattle.text_io.specs.BufferLaws.{Puts-then, Puts-same}
use Rattle.live.proofs.output.records.put_sent.Goals as goal

pub returns : goal.returns
returns g c =
    let bssid : List ℕ = c.octets-bssid.result in
    Puts-same
    (ap
    (λ (b : List ℕ). frames_octets 65 b c.args.sent.now.air ++ frames_octets 87 b (option_to_list c.args.sent.now.wire))
    c.octets-bssid.ensures.value)
    (Puts-then
    (Puts-same
    (sym (flat_map-append (record_of 65 bssid) (option_to_list (option_map (λ frame. frame.now) c.parts.result.0)) c.parts.result.1.now)
    ∙ ap (frames_octets 65 bssid) c.parts.ensures)
    (Puts-then c.put_frame_if.ensures c.put_frames.ensures))
    (Puts-same
    (ap
    (λ o. frames_octets 87 bssid (option_to_list o))
    (sym (copied c.as_ref.result) ∙ c.as_ref.ensures.value))
    c.put_frame_if-2.ensures))
