use Rattle.std.proofs.Common.{◌≡◌, ◌∙◌, false, List, sym, ap, subst}
use Rattle.powersave.specs.declared.unit.Whom.TheVariants.{One}
use Rattle.powersave.specs.Keep.{units_for}
use Rattle.powersave.specs.declared.unit.Unit.{Unit as DataUnit}
use Rattle.ap_config.specs.declared.setting.Setting.{Setting}
use Rattle.network.specs.Network.{Network, send_each}
use Rattle.network.specs.Replies.{IsAwake, no_reply, after_reply}
use Rattle.stations.specs.Stations.{Table, changed}
use Rattle.roster.specs.declared.keeping.Leaving.{Leaving}
use Rattle.roster.specs.declared.keeping.Leaving.TheVariants.{All}
use Rattle.network.specs.declared.reply.Reply.{Reply}
use Rattle.stations.specs.declared.table.Change.{Change}
use Rattle.stations.specs.declared.table.Change.TheVariants.{SetMode}
use Rattle.network.proofs.UnitDelivery.{woken-replied}
use Rattle.network.proofs.network.Network.wake.Goals as goal

pub returns-clause-mode : goal.returns-clause-mode
returns-clause-mode c =
    let t : Table = c.args.self.now.network.stations in
    let leaving : c.send_kept.new.reply.keeping.leaving ≡ All (One c.args.from) = ap (λ (r : Reply). r.keeping.leaving) c.send_kept.ensures.same ∙ ap (λ (r : Reply). r.keeping.leaving) c.change_state.ensures in
    let change : c.send_kept.new.reply.change ≡ SetMode c.args.from false = ap (λ (r : Reply). r.change) c.send_kept.ensures.same ∙ ap (λ (r : Reply). r.change) c.change_state.ensures in
    let none : c.args.reply.now ≡ no_reply c.args.self.now.network.sequence = c.requires.nothing in
    record {
      change = rw change tt;
      awake = subst (λ (l : Leaving). IsAwake l (changed c.send_kept.new.reply.change t)) (sym leaving)
          (subst (λ (k : Change). IsAwake (All (One c.args.from)) (changed k t)) (sym change) (c.modes_alone.ensures.active c.args.from t));
      none_arrives = ap (λ (r : Reply). r.keeping.arriving) c.send_kept.ensures.same ∙ ap (λ (r : Reply). r.keeping.arriving) c.change_state.ensures ∙ ap (λ (r : Reply). r.keeping.arriving) none;
      sequence = c.send_kept.ensures.sequence;
      lost = ap (λ (r : Reply). r.lost) c.send_kept.ensures.same ∙ ap (λ (r : Reply). r.lost) c.change_state.ensures ∙ ap (λ (r : Reply). r.lost) none;
      wired = ap (λ (r : Reply). r.wired) c.send_kept.ensures.same ∙ ap (λ (r : Reply). r.wired) c.change_state.ensures ∙ ap (λ (r : Reply). r.wired) none;
      alone = ap (λ (r : Reply). r.served) c.send_kept.ensures.same ∙ ap (λ (r : Reply). r.served) c.change_state.ensures ∙ ap (λ (r : Reply). r.served) none;
    }

pub returns-clause-answer : goal.returns-clause-answer
returns-clause-answer c =
    let s : Setting = c.args.self.now.setting in
    let n : Network = c.args.self.now.network in
    let us : List DataUnit = units_for (One c.args.from) n.kept in
    let is = c.change_state.ensures ∙ ap (λ (r : Reply). record r { change = SetMode c.args.from false; keeping = record r.keeping { leaving = All (One c.args.from) } }) c.requires.nothing in
    ap (send_each s false us) (sym (ap (λ (q : Reply). after_reply q n) is ∙ woken-replied c.args.from n)) ∙ c.in_ok-send_kept.ensures.ok n
