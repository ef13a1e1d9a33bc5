use Rattle.std.proofs.Common.{ap, sym, append-nil, ◌∙◌}
use Rattle.std.specs.Prelude.{option_to_list, option_map}
use Rattle.live.specs.AnswerOctets.{record_of}
use Rattle.live.specs.Frames.{frames_octets}
use Rattle.text_io.specs.BufferLaws.{Puts-same}
use Rattle.live.proofs.output.records.put_frame_if.Goals as goal

pub returns-in-Some : goal.returns-in-Some
returns-in-Some g c =
    let r = record_of c.args.kind c.args.bssid in
    Puts-same
    (ap r c.as_slice.ensures
    ∙ sym (append-nil (r c.in-Some.octets.now))
    ∙ sym
    (ap
    (λ o. frames_octets c.args.kind c.args.bssid (option_to_list (option_map (λ octets. octets.now) o)))
    c.in-Some.is))
    c.put_record.ensures
