-- `take` meets its contract: a walk of its MIR, by hand. The value is moved out of the memory, which holds nothing then.
use Rattle.std.proofs.Common.{◌≡◌, Bool, true, false, List, [], ◌∷◌, refl, sym, ap, ◌∙◌}
use Rattle.std.proofs.raw_atomic.Walks.{proved}
use Rattle.std.proofs.VecSteps.Shapes.{after}
use base.Fraction.{full_share}
use base.Logic.{id⊢}
use base.Fml.{ftrue, fat, flft, froom}
use borrow.Table.OneValue.{part_out}
use contract.Monad.{fact}
use contract.Running.{tables}
use lib.Dec.{T}
use mir.Syntax.{named}
use mir.Val.{Val, has_ty, WT}
use types.Kit.{‵, raw, ◌⊛◌, some, at_ret, ◌$◌, ◌∵◌, !, qed, done, move, keep, use1, split, join, pick, rewrite, fsplit, fsplit3, fjoin, suffices, frame, group}
use types.Part.{whole, sub, look_in}
use types.Run.{enter, of_opd, load, look, stop, fld, first, blocks, exec, returns}
use types.ByLocal.{alloc_all, pass_all, free_all, look_at, get, through, sets, sets_last, env}
use denote.Laws.{shows}
use denote.Memory.{cell_at}
use denote.Param.{layout}
use denote.RawPtr.{Ptr, lies_at, room_at, in_a_block}
use denote.Ref.{MutRef, mut_vals, mut_Tells}
use denote.Signature.{plain}
use denote.Steps.{nothing, heard, opens, closes, peeks}
use denote.Triple.Walked.{Stays, stay_ref, walk_of, says, ends_at, Goes-ref}
use Rattle.downlink.specs.contracts.radio_queue.RadioQueue.{the_row as R}
use Rattle.downlink.proofs.radio_queue.RadioQueue.TheLaws.{the_row_laws as laws}
use Rattle.downlink_c.specs.Owned.{radio_owns}
use Rattle.downlink_c.specs.contracts.handle.RadioHandle.{the_row as Hd}
use Rattle.downlink_c.proofs.handle.RadioHandle.TheLaws.{lowers}
use Rattle.downlink_c.specs.contracts.holding.take as f
use Rattle.downlink_c.proofs.holding.take.Statement.{statement}
use Rattle.downlink_c.proofs.holding.take.Code as code

abbrev stayed : Stays f.ended.signature.params f.ended.kept
stayed = (stay_ref (0 ∷ []) tt (plain (λ _. Hd)), tt)

pub take_spec : {M : Type 1} → statement M
take_spec 𝓤 𝓛 𝓜 𝓡 wired =
    let c = f.clauses 𝓛 𝓜.mem 𝓡.returns in let W = walk_of 𝓛 f.ended stayed c in let 𝓣 = tables 𝓤 𝓛.H 𝓜 𝓡 𝓡.env in
    proved 𝓛 f.ended stayed c 𝓜 𝓡 (Goes-ref 𝓛 1 0 tt (plain (λ _. Hd)), tt)
    f.Key.name code.function (code.unfolded 𝓤 𝓛.H 𝓜 𝓡 wired)
    (λ κs. (mut_vals, tt)) (λ κs. (mut_Tells (named 0) κs.0 Hd, tt)) (λ κs qs bounds a _ are.
    let κ = κs.0 in let q = qs.0 in let rb = a.0.ref_ptr.0 in let ro = a.0.ref_ptr.1 in let h = a.0.now in let vs = mut_vals a.0 in
    let y : W.Ghost = ((κs, qs, bounds, a, (vs, tt)), tt) in
    qed 𝓛 (((‵ (flft κ q) ⊛ ‵ ftrue) ⊛ ‵ ((MutRef (named 0) κ Hd).own_val a.0 vs) ⊛ ‵ ftrue) ∷ raw (fact 𝓤 (h.is_made ≡ true)) ∷ []) ∵
    move ! (1 ∷ []) $ heard ! _ (λ made. split ! $ split ! $ move ! (2 ∷ []) $ split ! $ keep ! (0 ∷ 2 ∷ []) $
    enter ! _ _ _ _ _ $ alloc_all ! (λ l. pass_all ! refl ((tt, tt), tt) $
    fsplit3 ! $ move ! (1 ∷ 2 ∷ 3 ∷ []) $ opens ! tt Hd rb ro (λ us.
    move ! (1 ∷ []) $ peeks ! Hd _ (shows 𝓛 Hd) h us (λ is. fsplit ! $ move ! (1 ∷ []) $
    rewrite ! 0 (λ (m : Bool). ‵ (radio_owns m h.at h.radio)) made refl $
    in_a_block ! h.at (λ p. lies_at R full_share p h.radio) (id⊢ 𝓤 _) (λ b o e.
    let word = lowers.val_is h us is ∙ ap (λ (p : Ptr). lowers.lowered (record h { at = p }) ∷ []) e in
    let Cell = λ (ws : List Val). ‵ (cell_at full_share Hd.mir ws rb ro) in
    rewrite ! 2 Cell word refl $
    use1 𝓛 (some (λ (v : Val). ‵ (fat full_share (layout R) b o v) ⊛ ‵ (R.own_val h.radio (v ∷ [])))) (part_out 𝓛 R refl full_share h.radio b o) $ pick ! (λ v. split ! $ move ! (1 ∷ []) $
    peeks ! R _ (shows 𝓛 R) h.radio (v ∷ []) (λ held.
    let typed : T (has_ty (layout R) v) × WT v = ((laws.lawful 𝓛).typed h.radio (v ∷ []) held).0 in
    -- [what the value owns; its cell; what the field owns; the handle's cell; the open borrow, in three entries; the reference's first part]
    first ! $ blocks ! $
    sets ! (of_opd ! (load ! (through ! refl (fld ! refl (stop !))) (look_in ! 3 (sub ! 0 refl (whole !))))) refl (tt, tt) $
    sets ! (of_opd ! (get ! refl)) refl (tt, tt) $
    sets_last ! (of_opd ! (load ! (through ! refl (stop !)) (look ! 1 refl))) refl typed $
    exec ! 𝓣.C 𝓣.Λ (env code.Mir.locals l) (after 1 (code.function).body) (at_ret _ (W.post y)) $
    sets ! (of_opd ! (get ! refl)) refl typed $
    rewrite ! 3 Cell (sym word) refl $
    move ! (1 ∷ []) $ use1 𝓛 (‵ (froom (layout R) b o)) (𝓛.laws.at_room (layout R) b o v) $
    rewrite ! 0 (λ (p : Ptr). ‵ (room_at R p)) (sym e) refl $
    move ! (2 ∷ 0 ∷ []) $ fjoin ! $ move ! (2 ∷ 0 ∷ 3 ∷ 4 ∷ 5 ∷ []) $ closes ! tt Hd (record h { is_made = false }) us rb ro $
    -- [two parts of the reference; the token; what the value owns; the reference's first part]
    returns ! (look_at ! 0 refl) $ free_all ! refl $ move ! (4 ∷ []) $
    suffices ! _ (ends_at 𝓛 f.ended stayed c y v h.radio (record h { is_made = false }, tt) (tt, tt)) $ says ! (refl, refl) $
    group ! 3 $ nothing ! $ move ! (1 ∷ 0 ∷ []) $ join ! $ nothing ! $ move ! (2 ∷ 0 ∷ []) $ join ! $ frame ! $ frame ! $ done !))))))))
