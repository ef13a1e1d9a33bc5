use Rattle.std.proofs.Common.{◌≡◌, ◌∙◌, ℕ, Bool, List, [], ◌∷◌, ◌++◌, sym, ap}
use Rattle.std.specs.FinSet as set
use Rattle.beacon.specs.Advert.{Announced, announced}
use Rattle.beacon.specs.Beacon.{beacon}
use Rattle.ap_config.specs.declared.setting.Setting.{Setting}
use Rattle.network.specs.Network.{Network, announced_at, beacon_frame, next_sequence, has_aged, age_units}
use Rattle.roster.specs.KeptUnits.{group_is_kept, is_waited_for}
use Rattle.network.specs.declared.reply.Reply.{Reply}
use Rattle.network.proofs.Aging.{group-stays_young, group-still_kept}
use Rattle.network.proofs.Beacons.{beacon-same}
use Rattle.network.proofs.network.Network.announce_for.Goals as goal

pub returns-clause-ok : goal.returns-clause-ok
returns-clause-ok c =
    let s : Setting = c.args.self.now.setting in
    let n = c.args.self.now.network in
    let aged : Network = age_units s n in
    let young = group-stays_young c.group_stays.ensures s n in
    let r : Reply = c.args.reply.now in
    let members = set.contains c.args.bits.now in
    let advert : announced c.announcement-advert.result ≡ announced_at s c.args.clock = c.announcement-advert.ensures.network ∙ ap (λ (t : Setting). announced_at t c.args.clock) c.setting-setting.ensures.setting in
    let written : c.write_beacon.new.out ≡ beacon_frame s c.args.clock n.stations aged.kept r.sequence =
    c.in_ok-write_beacon.ensures.ok
    ∙ ap (λ (o : List ℕ). o ++ beacon (announced c.announcement-advert.result) c.announcement-advert.result.seq c.setting-setting.result.now.network.dtim c.group_is_kept-group.result members) c.blank-frame.ensures
    ∙ ap (λ (a : Announced). beacon a c.announcement-advert.result.seq c.setting-setting.result.now.network.dtim c.group_is_kept-group.result members) advert
    ∙ ap (λ (q : ℕ). beacon (announced_at s c.args.clock) q c.setting-setting.result.now.network.dtim c.group_is_kept-group.result members) c.announcement-advert.ensures.sequence
    ∙ ap (λ (t : Setting). beacon (announced_at s c.args.clock) r.sequence t.network.dtim c.group_is_kept-group.result members) c.setting-setting.ensures.setting
    ∙ ap (λ (b : Bool). beacon (announced_at s c.args.clock) r.sequence s.network.dtim b members) (c.group_is_kept-group.ensures ∙ sym (group-still_kept (has_aged s n) young n.kept))
    ∙ beacon-same c.one_tim.ensures.same (announced_at s c.args.clock) r.sequence s.network.dtim (group_is_kept aged.kept) members (is_waited_for n.stations aged.kept) c.requires.waited_for in
    c.in_ok-send.ensures.ok
    ∙ ap (λ (f : List ℕ). record r { frames = r.frames ++ f ∷ []; sequence = next_sequence r.sequence }) written
