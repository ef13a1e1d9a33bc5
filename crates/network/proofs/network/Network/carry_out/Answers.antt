use Rattle.std.proofs.Common.{◌≡◌, ℕ, ◌+◌, ◌*◌, ◌&&◌, Bool, not, [], length, Option, Some, None, inl, inr, refl, sym, ap, subst, ◌∙◌, arith}
use Rattle.std.specs.Prelude.{filter, nat_lt}
use Rattle.std.proofs.lemmas.Bool.{cases_lt}
use Rattle.std.proofs.lemmas.Option.{none-some}
use Rattle.ap_config.specs.declared.setting.Setting.{Setting}
use Rattle.network.specs.Network.{Network}
use Rattle.network.specs.NetworkView.{NetworkState, IsStill, MayFollow, carried_out, network_with, unsent}
use Rattle.network.specs.Replies.{Replied, after_reply, before_outcome}
use Rattle.roster.specs.Keeping.{kept_after, IsWithin}
use Rattle.roster.specs.Roster.{RosterState, is_aged}
use Rattle.network.specs.Sound.{IsSoundNetwork}
use Rattle.stations.specs.Stations.{StationTable, changed}
use Rattle.network.specs.declared.reply.Reply.{Reply}
use Rattle.roster.specs.declared.keeping.Arriving.{Arriving}
use Rattle.network.proofs.Aging.{before-none}
use Rattle.network.proofs.network.Network.carry_out.Goals as goal

-- where a unit comes, no beacon interval begins
not-begun : (r : Reply) (a : Arriving) → IsStill r → r.keeping.arriving ≡ Some a → r.clock ≡ 0
not-begun r a still comes = elim (cases_lt 0 r.clock) [
  | inl begins ↦ absurd (none-some a (sym (still begins).1 ∙ comes))
  | inr none ↦ omega (arith, none)
]

-- one that comes after units aged comes while none did
within-now : (quota : ℕ) (s : Setting) (r : Reply) (n : Network) → IsStill r → IsWithin quota r.change r.keeping.leaving (before_outcome s (Replied r) n).stations (before_outcome s (Replied r) n).kept r.keeping.arriving
    → IsWithin quota r.change r.keeping.leaving n.stations n.kept r.keeping.arriving
within-now quota s r n still = by r.keeping.arriving refl
  where
    by : (o : Option Arriving) → r.keeping.arriving ≡ o → IsWithin quota r.change r.keeping.leaving (before_outcome s (Replied r) n).stations (before_outcome s (Replied r) n).kept o → IsWithin quota r.change r.keeping.leaving n.stations n.kept o
    by None is within = tt
    by (Some a) is within =
        subst (λ (m : Network). IsWithin quota r.change r.keeping.leaving m.stations m.kept (Some a)) (before-none s r n (not-begun r a still is)) within

-- the network in the end
ended : (n : NetworkState) (r : Reply) (last : RosterState) (ages : Bool) (aged lost unread : ℕ) → ages ≡ (nat_lt 0 r.clock && n.setting.network.aging)
    → last.stations.table ≡ changed r.change n.network.stations → last.kept.entries ≡ kept_after r.keeping (filter (λ e. not (is_aged ages n.network.clock n.network.stations e)) n.network.kept)
    → aged ≡ length (filter (is_aged ages n.network.clock n.network.stations) n.network.kept) → lost ≡ r.lost → unread ≡ r.unread
    → network_with last (n.network.clock + r.clock) r.sequence (n.network.lost + aged + lost) (n.network.unread + unread) ≡ unsent (after_reply r (before_outcome n.setting (Replied r) n.network))
ended n r last ages aged lost unread is table entries count lost_is unread_is =
    let kept : last.kept.entries ≡ kept_after r.keeping (before_outcome n.setting (Replied r) n.network).kept =
    entries ∙ ap (λ (b : Bool). kept_after r.keeping (filter (λ e. not (is_aged b n.network.clock n.network.stations e)) n.network.kept)) is in
    let gone : n.network.lost + aged ≡ (before_outcome n.setting (Replied r) n.network).lost =
    ap (λ (k : ℕ). n.network.lost + k) (count ∙ ap (λ (b : Bool). length (filter (is_aged b n.network.clock n.network.stations) n.network.kept)) is) in
    let all : n.network.lost + aged + lost ≡ (before_outcome n.setting (Replied r) n.network).lost + r.lost = ap (λ (k : ℕ). k + lost) gone ∙ ap (λ (k : ℕ). (before_outcome n.setting (Replied r) n.network).lost + k) lost_is in
    λ i. record {
      stations = table i;
      kept = kept i;
      clock = n.network.clock + r.clock;
      sequence = r.sequence;
      lost = all i;
      unread = n.network.unread + unread_is i;
      air = [];
      wire = [];
    }

pub carry_out_from-requires-clause-within : goal.carry_out_from-requires-clause-within
carry_out_from-requires-clause-within c =
    let r : Reply = c.args.reply.now in
    let n : NetworkState = record { setting = c.self.inside.setting; events = c.self.inside.events; network = network_with c.self.inside.roster c.self.inside.clock c.self.inside.sequence c.self.inside.lost c.self.inside.unread } in
    let follows = subst (λ (k : NetworkState). MayFollow k (Replied r)) (sym c.self.view_is) c.requires.follows in
    subst (λ (quota : ℕ). IsWithin quota r.change r.keeping.leaving n.network.stations n.network.kept r.keeping.arriving) (sym c.self.invariant.quota)
    (within-now n.setting.network.quota n.setting r n.network follows.still follows.fitting.keeping)

pub carry_out_from-requires-clause-few : goal.carry_out_from-requires-clause-few
carry_out_from-requires-clause-few c =
    let most = c.checked_numbers.ensures.quota c.self.inside.setting.network c.self.invariant.accepted in
    omega (arith, c.self.invariant.sound.quota, most)

pub invariant_of-self-2 : goal.invariant_of-self-2
invariant_of-self-2 c =
    let r : Reply = c.args.reply.now in
    let n : NetworkState = record { setting = c.self.inside.setting; events = c.self.inside.events; network = network_with c.self.inside.roster c.self.inside.clock c.self.inside.sequence c.self.inside.lost c.self.inside.unread } in
    let follows = subst (λ (k : NetworkState). MayFollow k (Replied r)) (sym c.self.view_is) c.requires.follows in
    let told = c.in_ok-aged.ensures in
    let ages : c.units_age-ages.result ≡ (nat_lt 0 r.clock && n.setting.network.aging) = c.units_age-ages.ensures ∙ ap (λ (s : Setting). nat_lt 0 r.clock && s.network.aging) c.get.ensures in
    let is = ended n r c.carry_out_from.new.self c.units_age-ages.result c.from.result c.from-2.result c.from-3.result ages (ap (λ (k : StationTable). k.table) told.stations) told.entries (c.from.ensures ∙ told.count) c.from-2.ensures c.from-3.ensures in
    record {
      accepted = c.self.invariant.accepted;
      sound = subst (IsSoundNetwork n.setting (n.events + 1) (2 * (n.events + 1))) (sym is) follows.sound;
      most = ap (λ (k : StationTable). k.most) told.stations ∙ c.self.invariant.most;
      quota = told.quota ∙ c.self.invariant.quota;
      puts = omega (arith, told.puts, c.self.invariant.puts);
      clock = follows.clock;
    }

pub returns-clause-after : goal.returns-clause-after
returns-clause-after c =
    let r : Reply = c.args.reply.now in
    let n : NetworkState = record { setting = c.self.inside.setting; events = c.self.inside.events; network = network_with c.self.inside.roster c.self.inside.clock c.self.inside.sequence c.self.inside.lost c.self.inside.unread } in
    let told = c.in_ok-aged.ensures in
    let ages : c.units_age-ages.result ≡ (nat_lt 0 r.clock && n.setting.network.aging) = c.units_age-ages.ensures ∙ ap (λ (s : Setting). nat_lt 0 r.clock && s.network.aging) c.get.ensures in
    let is = ended n r c.carry_out_from.new.self c.units_age-ages.result c.from.result c.from-2.result c.from-3.result ages (ap (λ (k : StationTable). k.table) told.stations) told.entries (c.from.ensures ∙ told.count) c.from-2.ensures c.from-3.ensures in
    ap (λ (m : Network). record n { events = n.events + 1; network = m }) is ∙ ap (carried_out (Replied r)) c.self.view_is
