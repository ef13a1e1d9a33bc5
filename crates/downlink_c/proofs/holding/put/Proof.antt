-- `put` meets its contract: a walk of its MIR, by hand. The value is moved into the memory, which held nothing.
use Rattle.std.proofs.Common.{◌≡◌, Bool, true, false, List, [], ◌∷◌, ◌++◌, refl, sym, ap, ◌∙◌, subst}
use Rattle.std.proofs.raw_atomic.Walks.{proved_at}
use Rattle.std.proofs.VecSteps.Shapes.{after}
use base.Fraction.{full_share}
use base.Logic.{SProp, ent, id⊢}
use base.Fml.{ftrue, flft}
use borrow.Table.OneValue.{part_in}
use contract.Monad.{fact}
use contract.Running.{tables}
use lib.Dec.{T}
use mir.Val.{Val, vunit, vptr, has_ty, WT}
use prog.Wp.{WpFn}
use types.Kit.{‵, raw, ◌⊛◌, at_ret, ◌$◌, ◌∵◌, !, qed, done, move, keep, use2, split, join, rewrite, fsplit, fsplit3, fjoin, feq_i, suffices, frame, group}
use types.Part.{whole, sub, look_in}
use types.Run.{enter, of_opd, unit_lit, load, init, stop, fld, assigns_last, first, blocks, exec, returns}
use types.ByLocal.{alloc_all, pass_all, free_all, look_at, get, through, sets, env}
use denote.Exit.{yes}
use denote.RattleType.{owns as own}
use denote.Laws.{Typed, shows}
use denote.Memory.{part_at, cell_at}
use denote.Param.{layout}
use denote.RawPtr.{Ptr, lies_at, room_at, in_a_block}
use denote.Signature.{plain, types_at}
use denote.Steps.{nothing, heard, only, opens, closes, peeks}
use denote.Struct.Members.{Lone}
use denote.Triple.Walked.{Stays, stay_dropped, stay_ref, walk_of, says, ends_at, Goes-ref, Goes-dropped}
use Rattle.downlink.specs.contracts.radio_queue.RadioQueue.{the_row as R}
use Rattle.downlink.proofs.radio_queue.RadioQueue.TheLaws.{the_row_laws as laws}
use Rattle.downlink_c.specs.Owned.{radio_owns}
use Rattle.downlink_c.specs.contracts.handle.RadioHandle.{the_row as Hd}
use Rattle.downlink_c.proofs.handle.RadioHandle.TheLaws.{lowers}
use Rattle.downlink_c.specs.contracts.holding.put as f
use Rattle.downlink_c.proofs.holding.put.Statement.{statement}
use Rattle.downlink_c.proofs.holding.put.Code as code

abbrev stayed : Stays f.ended.signature.params f.ended.kept
stayed = (stay_ref (0 ∷ []) tt (plain (λ _. Hd)), (stay_dropped (plain (λ _. R)) yes, tt))

one_value : (vs : List Val) → Lone vs → vs ≡ only vs ∷ []
one_value [] l = absurd l
one_value (v ∷ []) l = refl
one_value (v ∷ u ∷ us) l = absurd l

pub put_spec : {M : Type 1} → statement M
put_spec 𝓤 𝓛 𝓜 𝓡 wired =
    let c = f.clauses 𝓛 𝓜.mem 𝓡.returns in let W = walk_of 𝓛 f.ended stayed c in let 𝓣 = tables 𝓤 𝓛.H 𝓜 𝓡 𝓡.env in
    proved_at 𝓛 f.ended stayed c 𝓜 𝓡 (Goes-ref 𝓛 1 0 tt (plain (λ _. Hd)), (Goes-dropped 𝓛 1 (plain (λ _. R)) yes (λ κs x w. refl), tt))
    f.Key.name code.function (code.unfolded 𝓤 𝓛.H 𝓜 𝓡 wired) (λ z are.
    let κs = z.0.0 in let κ = κs.0 in let q = z.0.1.0 in let r = z.0.3.0 in let h = r.now in let x = z.0.3.1.0 in let rb = r.ref_ptr.0 in let ro = r.ref_ptr.1 in
    let Post : Val → SProp 𝓤 = W.post z in let Run : List Val → SProp 𝓤 = λ ws. WpFn 𝓤 𝓛.H 𝓣.C 𝓣.Λ code.function ws Post in
    let u : Val = only z.0.4.1.0 in let one : z.0.4.1.0 ≡ u ∷ [] = one_value z.0.4.1.0 (laws.single x z.0.4.1.0 are.1.0) in
    let typed : T (has_ty (layout R) u) × WT u = (subst (Typed (layout R ∷ [])) one ((laws.lawful 𝓛).typed x z.0.4.1.0 are.1.0)).0 in
    qed 𝓛 (((‵ (flft κ q) ⊛ ‵ ftrue) ⊛ ‵ (own (types_at f.signature.params κs) z.0.3 z.0.4)) ∷ raw (fact 𝓤 (h.is_made ≡ false)) ∷ []) ∵
    move ! (1 ∷ []) $ heard ! _ (λ made. split ! $ split ! $ move ! (2 ∷ []) $ fsplit ! $ move ! (1 ∷ []) $ fsplit ! $ keep ! (0 ∷ 2 ∷ 3 ∷ []) $
    rewrite ! 0 (λ (ws : List Val). ‵ (R.own_val x ws)) one refl $
    suffices ! (Run (vptr rb ro ∷ u ∷ [])) (subst (λ (ws : List Val). ent 𝓤 (Run (vptr rb ro ∷ u ∷ [])) (Run ws)) (sym (λ i. are.0.0 i ++ (one i ++ []))) (id⊢ 𝓤 (Run (vptr rb ro ∷ u ∷ [])))) $
    enter ! 𝓣.C 𝓣.Λ code.function (vptr rb ro ∷ u ∷ []) Post $ alloc_all ! (λ l. pass_all ! refl ((tt, tt), (typed, tt)) $
    move ! (1 ∷ []) $ fsplit3 ! $ move ! (1 ∷ 2 ∷ 4 ∷ []) $ opens ! tt Hd rb ro (λ us.
    move ! (1 ∷ []) $ peeks ! Hd _ (shows 𝓛 Hd) h us (λ is. fsplit ! $ move ! (1 ∷ []) $
    rewrite ! 0 (λ (m : Bool). ‵ (radio_owns m h.at h.radio)) made refl $
    in_a_block ! h.at (λ p. room_at R p) (id⊢ 𝓤 _) (λ b o e.
    let word = lowers.val_is h us is ∙ ap (λ (p : Ptr). lowers.lowered (record h { at = p }) ∷ []) e in
    let Cell = λ (ws : List Val). ‵ (cell_at full_share Hd.mir ws rb ro) in
    rewrite ! 2 Cell word refl $
    -- [the room; what the field owns; the handle's cell; the open borrow, in three entries; the reference's first part; the value]
    first ! $ blocks ! $
    sets ! (of_opd ! (load ! (through ! refl (fld ! refl (stop !))) (look_in ! 2 (sub ! 0 refl (whole !))))) refl (tt, tt) $
    sets ! (of_opd ! (get ! refl)) refl (tt, tt) $
    sets ! (of_opd ! (get ! refl)) refl typed $
    assigns_last ! (of_opd ! (get ! refl)) (through ! refl (stop !)) (init ! 0 refl typed) $
    exec ! 𝓣.C 𝓣.Λ (env code.Mir.locals l) (after 1 (code.function).body) (at_ret _ Post) $
    sets ! (of_opd ! (unit_lit !)) refl (tt, tt) $
    rewrite ! 2 Cell (sym word) refl $
    move ! (0 ∷ 7 ∷ []) $ use2 𝓛 (‵ (part_at R full_share x b o)) (part_in 𝓛 R refl full_share x b o u) $
    rewrite ! 0 (λ (p : Ptr). ‵ (lies_at R full_share p x)) (sym e) refl $
    move ! (1 ∷ []) $ fjoin ! $ move ! (1 ∷ []) $ closes ! tt Hd (record h { is_made = true; radio = x }) us rb ro $
    -- [two parts of the reference; the token; its first part]
    returns ! (look_at ! 0 refl) $ free_all ! refl $ move ! (3 ∷ []) $
    suffices ! _ (ends_at 𝓛 f.ended stayed c z vunit tt (record h { is_made = true; radio = x }, (tt, tt)) (tt, (tt, tt))) $ says ! refl $
    group ! 3 $ nothing ! $ nothing ! $ join ! $ move ! (1 ∷ 0 ∷ []) $ join ! $ nothing ! $ move ! (2 ∷ 0 ∷ []) $ join ! $ frame ! $ frame ! $
    feq_i ! _ (vunit ∷ []) _ refl $ done !))))))
