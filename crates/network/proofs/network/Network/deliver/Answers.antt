use Rattle.std.proofs.Common.{◌∙◌, List, ℕ, false, sym, ap}
use Rattle.std.proofs.lemmas.Result.{on_ok_weaker}
use Rattle.network.specs.declared.reply.unit.Delivery.TheVariants.{Now, Kept}
use Rattle.network.specs.Arrivals.{unit_shown}
use Rattle.ap_config.specs.declared.setting.Setting.{Setting}
use Rattle.network.specs.Replies.{after_reply, sending}
use Rattle.stations.specs.Stations.{changed}
use Rattle.network.specs.Units.{unit_frame}
use Rattle.network.specs.declared.reply.Reply.{Reply}
use Rattle.network.proofs.AloneLaws.{delivery-for}
use Rattle.network.proofs.UnitDelivery.{after-sent, left-apart, delivered, identifier-told}
use Rattle.network.proofs.network.Network.deliver.Goals as goal

pub keep_or_lose-requires-clause-apart : goal.keep_or_lose-requires-clause-apart
keep_or_lose-requires-clause-apart c =
    let n = c.args.self.now.network in
    let r : Reply = c.args.reply.now in
    left-apart r.keeping.leaving (changed r.change n.stations) c.in-Kept.whom c.requires.mode.awake
    (delivery-for c.args.unit.now.to (changed r.change n.stations) n.kept c.in-Kept.whom (sym c.delivery_of.ensures ∙ c.in-Kept.is))

pub returns-in-Now-clause-ok : goal.returns-in-Now-clause-ok
returns-in-Now-clause-ok c =
    let s : Setting = c.args.self.now.setting in
    let n = c.args.self.now.network in
    let r : Reply = c.args.reply.now in
    let u = unit_shown c.args.unit.now in
    let sent : (bss : List ℕ) → Reply = λ bss. sending r (unit_frame bss false u) in
    on_ok_weaker c.send_unit.result
    (λ is. delivered c.group_stays.ensures s u r n Now c.requires.mode.awake c.requires.mode.none_arrives (sym c.in-Now.is ∙ c.delivery_of.ensures)
    ∙ after-sent r n (unit_frame s.network.bssid false u)
    ∙ ap (λ (t : Setting). after_reply (sent t.network.bssid) n) (sym c.setting.ensures.setting)
    ∙ ap (λ (q : Reply). after_reply q n) (sym is))
    c.send_unit.ensures.ok

pub returns-in-Kept-clause-ok : goal.returns-in-Kept-clause-ok
returns-in-Kept-clause-ok c =
    let s : Setting = c.args.self.now.setting in
    let n = c.args.self.now.network in
    let r : Reply = c.args.reply.now in
    on_ok_weaker c.keep_or_lose.result
    (λ is. delivered c.group_stays.ensures s (unit_shown c.args.unit.now) r n (Kept c.in-Kept.whom) c.requires.mode.awake c.requires.mode.none_arrives (sym c.in-Kept.is ∙ c.delivery_of.ensures) ∙ is)
    c.keep_or_lose.ensures.ok

pub keep_or_lose-requires-clause-aid : goal.keep_or_lose-requires-clause-aid
keep_or_lose-requires-clause-aid c =
    let n = c.args.self.now.network in
    let r : Reply = c.args.reply.now in
    c.aid_at-aid.ensures
    ∙ identifier-told c.modes_keep_identifiers.ensures r.change c.args.unit.now.to n.stations n.kept c.in-Kept.whom c.args.state c.requires.mode.change c.requires.state (sym c.delivery_of.ensures ∙ c.in-Kept.is)
