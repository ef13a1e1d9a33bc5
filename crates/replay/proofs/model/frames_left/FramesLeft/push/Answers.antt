use Rattle.std.proofs.Common.{◌≡◌, ◌++◌, ◌∷◌, [], ◌<◌, ℕ, List, length, set, get_or, sym, ap, ◌∙◌, arith}
use Rattle.std.specs.declared.vec.Vec.{Vec}
use Rattle.std.specs.declared.alloc.Global.{Global}
use Rattle.std.proofs.lemmas.List.{map-set, get_or-map, length-map}
use Rattle.replay.specs.Frames.{FrameLists, sent_at}
use Rattle.replay.proofs.model.frames_left.FramesLeft.push.Goals as goal

pub returns : goal.returns
returns c =
    let place : ℕ = c.args.item.place in
    let frames : List (Vec (List ℕ) Global) = c.self.inside.frames.items in
    let f : Vec (List ℕ) Global → List (List ℕ) = λ v. v.items in
    let within : place < length frames = omega (arith, c.requires, ap length c.self.view_is, length-map frames f) in
    let at : c.index_mut.result.now.items ≡ sent_at c.args.self.now place =
    ap f c.index_mut.ensures.value ∙ sym (get_or-map f frames place c.index_mut.result.now [] within)
    ∙ ap (λ (l : FrameLists). get_or l place []) c.self.view_is in
    map-set f frames place c.push.new.self
    ∙ ap (λ (l : FrameLists). set l place c.push.new.self.items) c.self.view_is
    ∙ ap (λ (x : List (List ℕ)). set c.args.self.now place x)
    (c.in_ok-push.ensures.items ∙ ap (λ (x : List (List ℕ)). x ++ c.args.item.octets ∷ []) at)
