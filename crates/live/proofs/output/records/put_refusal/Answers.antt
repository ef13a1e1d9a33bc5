use Rattle.std.proofs.Common.{◌≡◌, ◌∙◌, ap, append_assoc}
use Rattle.std.specs.Fmt.{decimal}
use Rattle.mac_frame.specs.Address.{address_text}
use Rattle.live.specs.AnswerOctets.{told}
use Rattle.text_io.specs.BufferLaws.{Puts-same}
use Rattle.live_rules.specs.AnswerText.{refusal_word}
use Rattle.live.proofs.output.records.put_refusal.Goals as goal

pub returns : goal.returns
returns g c =
    let word : c.refusal_word.result.now ≡ refusal_word c.args.why = c.refusal_word.ensures in
    let number : c.as_bytes.result.now ≡ decimal c.args.number = c.as_bytes.ensures.value ∙ c.format.ensures.text in
    let addr : c.address_text.result ≡ address_text c.args.bssid = c.address_text.ensures in
    Puts-same (ap told (rw (word, number, addr) (simp append_assoc))) c.put_notice.ensures
