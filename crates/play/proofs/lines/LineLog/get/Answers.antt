use Rattle.std.proofs.Common.{◌≡◌, ◌<◌, ℕ, List, length, ap, ◌∙◌, arith, get_or}
use Rattle.events.specs.declared.line.Line.{Line}
use Rattle.events.specs.declared.line.Line.TheVariants.{Tick}
use Rattle.play.specs.LineLog.{line_with, octets_between, start_of}
use Rattle.play.specs.declared.mark.Mark.{Mark}
use Rattle.play.proofs.LineSteps.{length-lines, line-at, bounds-at}
use Rattle.play.proofs.lines.LineLog.get.Goals as goal

pub index-mark-requires : goal.index-mark-requires
index-mark-requires c =
    omega (
      arith,
      c.requires,
      ap length c.self.view_is,
      length-lines 0 c.self.inside.marks.items c.self.inside.octets.items,
      c.self.inside.marks.ok.0,
    )

pub start_of-start-requires : goal.start_of-start-requires
start_of-start-requires c =
    omega (
      arith,
      c.requires,
      ap length c.self.view_is,
      length-lines 0 c.self.inside.marks.items c.self.inside.octets.items,
      ap length c.as_slice.ensures.value,
    )

pub octets_between-octets-requires : goal.octets_between-octets-requires
octets_between-octets-requires c =
    let marks : List Mark = c.self.inside.marks.items in
    let octets : List ℕ = c.self.inside.octets.items in
    let within : c.args.number < length marks =
    omega (arith, c.requires, ap length c.self.view_is, length-lines 0 marks octets) in
    let start : c.start_of-start.result ≡ start_of 0 marks c.args.number =
    c.start_of-start.ensures ∙ ap (λ (ms : List Mark). start_of 0 ms c.args.number) c.as_slice.ensures.value in
    let bounds =
    bounds-at 0 marks (length octets) c.args.number c.index-mark.result.now c.self.invariant within c.index-mark.ensures in
    record {
      begins = omega (arith, start, bounds.0);
      ends = omega (arith, bounds.1, ap length c.as_slice-2.ensures.value);
    }

pub returns : goal.returns
returns c =
    let marks : List Mark = c.self.inside.marks.items in
    let octets : List ℕ = c.self.inside.octets.items in
    let mark : Mark = c.index-mark.result.now in
    let within : c.args.number < length marks =
    omega (arith, c.requires, ap length c.self.view_is, length-lines 0 marks octets) in
    let start : c.start_of-start.result ≡ start_of 0 marks c.args.number =
    c.start_of-start.ensures ∙ ap (λ (ms : List Mark). start_of 0 ms c.args.number) c.as_slice.ensures.value in
    c.line.ensures
    ∙ ap (line_with mark.kind) c.octets_between-octets.ensures
    ∙ ap (λ (os : List ℕ). line_with mark.kind (octets_between c.start_of-start.result mark.end os))
    c.as_slice-2.ensures.value
    ∙ ap (λ (s : ℕ). line_with mark.kind (octets_between s mark.end octets)) start
    ∙ line-at 0 marks octets c.args.number mark within c.index-mark.ensures
    ∙ ap (λ (ls : List Line). get_or ls c.args.number Tick) c.self.view_is
