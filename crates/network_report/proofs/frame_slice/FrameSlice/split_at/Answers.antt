use Rattle.std.proofs.Common.{ℕ, List, length, take, drop, ap, ◌∙◌, arith}
use Rattle.std.specs.Prelude.{sum}
use Rattle.networks.specs.SentFrames.{cut_by}
use Rattle.network_report.proofs.SliceLaws.{length-cut, front-cut, back-cut}
use Rattle.network_report.proofs.frame_slice.FrameSlice.split_at.Goals as goal

pub split_at-requires : goal.split_at-requires
split_at-requires c =
    omega (
      arith,
      c.requires,
      ap length c.self.view_is,
      length-cut c.self.inside.lengths.now c.self.inside.octets.now,
    )

pub returns-clause-front : goal.returns-clause-front
returns-clause-front c =
    let lengths : List ℕ = c.self.inside.lengths.now in
    let octets : List ℕ = c.self.inside.octets.now in
    let count : ℕ = c.args.count in
    (λ i. cut_by (c.split_at.ensures.front i) (c.split_at-2.ensures.front i))
    ∙ ap (λ n. cut_by (take count lengths) (take n octets)) (c.total.ensures ∙ ap sum c.split_at.ensures.front)
    ∙ front-cut count lengths octets
    ∙ ap (take count) c.self.view_is

pub returns-clause-back : goal.returns-clause-back
returns-clause-back c =
    let lengths : List ℕ = c.self.inside.lengths.now in
    let octets : List ℕ = c.self.inside.octets.now in
    let count : ℕ = c.args.count in
    (λ i. cut_by (c.split_at.ensures.back i) (c.split_at-2.ensures.back i))
    ∙ ap (λ n. cut_by (drop count lengths) (drop n octets)) (c.total.ensures ∙ ap sum c.split_at.ensures.front)
    ∙ back-cut count lengths octets
    ∙ ap (drop count) c.self.view_is
