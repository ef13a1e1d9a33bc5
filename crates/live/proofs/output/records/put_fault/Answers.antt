use Rattle.std.proofs.Common.{◌≡◌, ◌∙◌, ap, append_assoc}
use Rattle.std.specs.Fmt.{decimal}
use Rattle.live.specs.AnswerOctets.{told}
use Rattle.text_io.specs.BufferLaws.{Puts-same}
use Rattle.trace.specs.TraceText.{code_of}
use Rattle.live.proofs.output.records.put_fault.Goals as goal

pub returns : goal.returns
returns g c =
    let code : c.as_bytes.result.now ≡ decimal (code_of c.args.fault) =
    c.as_bytes.ensures.value ∙ c.format.ensures.text ∙ ap decimal c.code.ensures in
    let number : c.as_bytes-2.result.now ≡ decimal c.args.number = c.as_bytes-2.ensures.value ∙ c.format-2.ensures.text in
    Puts-same (ap told (rw (code, number) (simp append_assoc))) c.put_notice.ensures
