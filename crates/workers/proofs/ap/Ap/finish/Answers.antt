use Rattle.std.proofs.Common.{◌≡◌, ◌++◌, ◌<◌, ℕ, List, length, sym, ap, subst, ◌∙◌, vec_len}
use Rattle.std.specs.Prelude.{All, slice_get}
use Rattle.std.proofs.lemmas.List.Elements.{All-append}
use Rattle.events.specs.Items.{items_of}
use Rattle.events.specs.declared.event.Event.{Event}
use Rattle.events.specs.declared.section.Section.{Section}
use Rattle.events.specs.declared.air_item.AirItem.{AirItem}
use Rattle.network.specs.BssView.{BssView}
use Rattle.play.specs.Givers.{AreGivers, histories_of}
use Rattle.workers.specs.Receipts.{histories, limits, limits_of, AreFullLast, AreReceipts}
use Rattle.workers.specs.Ending.{sections_from, waiting_from}
use Rattle.workers.specs.declared.caller.Entry.{Entry}
use Rattle.workers.proofs.Endings.{seats-count, all-sent, count-from, ended-at, histories-from, limits-from, placed-from}
use Rattle.workers.proofs.ap.Ap.finish.Goals as goal

pub returns-clause-networks : goal.returns-clause-networks
returns-clause-networks g c =
    let networks : List BssView = c.in_ok-networks.networks.items in
    ap length (c.from_vec.ensures ∙ c.in_ok-sections.ensures.sections) ∙ count-from c.as_slice-3.result.now 0 networks
    ∙ seats-count g.N.ApName.config g.N.ApName.queue networks c.in_ok-networks.nets.items c.in_ok-networks.ensures

pub returns-clause-sections : goal.returns-clause-sections
returns-clause-sections g c place section at =
    let config = g.N.ApName.config in
    let networks : List BssView = c.in_ok-networks.networks.items in
    let left : List AirItem = c.in-Ok.left.items in
    let sections = c.from_vec.ensures ∙ c.in_ok-sections.ensures.sections ∙ ap (λ (items : List AirItem). sections_from items 0 networks) c.as_slice-3.ensures in
    (ended-at config left networks place section
    (all-sent config g.N.ApName.queue left networks c.in_ok-networks.nets.items c.in_ok-networks.ensures c.in-Ok.ensures.whole)
    (ap (λ (ss : List Section). slice_get ss place) (sym sections) ∙ at)).0

pub returns-clause-air : goal.returns-clause-air
returns-clause-air g c place section at =
    let config = g.N.ApName.config in
    let networks : List BssView = c.in_ok-networks.networks.items in
    let left : List AirItem = c.in-Ok.left.items in
    let sections = c.from_vec.ensures ∙ c.in_ok-sections.ensures.sections ∙ ap (λ (items : List AirItem). sections_from items 0 networks) c.as_slice-3.ensures in
    let all = c.from_vec-2.ensures ∙ c.in_ok-append.ensures.items ∙ (λ k. c.into_vec-left.ensures k ++ c.in_ok-sections.ensures.waited k) in
    ap (items_of place) all
    ∙ (ended-at config left networks place section
    (all-sent config g.N.ApName.queue left networks c.in_ok-networks.nets.items c.in_ok-networks.ensures c.in-Ok.ensures.whole)
    (ap (λ (ss : List Section). slice_get ss place) (sym sections) ∙ at)).1

pub returns-clause-nothing_else : goal.returns-clause-nothing_else
returns-clause-nothing_else g c =
    let config = g.N.ApName.config in
    let networks : List BssView = c.in_ok-networks.networks.items in
    let left : List AirItem = c.in-Ok.left.items in
    let all = c.from_vec-2.ensures ∙ c.in_ok-append.ensures.items ∙ (λ k. c.into_vec-left.ensures k ++ c.in_ok-sections.ensures.waited k) in
    subst (All (λ (item : AirItem). item.place < length config.networks)) (sym all)
    (All-append (λ (item : AirItem). item.place < length config.networks) left (waiting_from 0 networks)
    (subst (λ (n : ℕ). All (λ (item : AirItem). item.place < n) left) c.transmitter.invariant.networks c.in-Ok.ensures.nothing_else)
    (placed-from config left 0 networks
    (all-sent config g.N.ApName.queue left networks c.in_ok-networks.nets.items c.in_ok-networks.ensures c.in-Ok.ensures.whole)))

pub returns-clause-receipts : goal.returns-clause-receipts
returns-clause-receipts g c =
    let is = c.from_vec.ensures ∙ c.in_ok-sections.ensures.sections in
    let took : histories c.as_slice.result.now ≡ histories_of c.from_vec.result = ap histories c.as_slice.ensures.value ∙ sym (ap histories_of is ∙ histories-from c.as_slice-3.result.now 0 c.in_ok-networks.networks.items) in
    subst (λ (x : List (List Entry) × List (List Event)). AreReceipts x.0 x.1 c.in_ok-givers.givers) (λ k. (c.as_slice-2.ensures.value k, took k)) c.in_ok-givers.ensures.receipts

pub returns-clause-givers : goal.returns-clause-givers
returns-clause-givers g c =
    let is = c.from_vec.ensures ∙ c.in_ok-sections.ensures.sections in
    let took : histories c.as_slice.result.now ≡ histories_of c.from_vec.result = ap histories c.as_slice.ensures.value ∙ sym (ap histories_of is ∙ histories-from c.as_slice-3.result.now 0 c.in_ok-networks.networks.items) in
    let count : length c.as_slice-2.result.now ≡ vec_len c.args.callers = ap length c.as_slice-2.ensures.value ∙ sym c.args.callers.ok.0 in
    subst (λ (x : ℕ × List (List Event)). AreGivers x.0 x.1 c.in_ok-givers.givers) (λ k. (count k, took k)) c.in_ok-givers.ensures.givers

pub returns-clause-full : goal.returns-clause-full
returns-clause-full g c =
    let networks : List BssView = c.in_ok-networks.networks.items in
    let is = c.from_vec.ensures ∙ c.in_ok-sections.ensures.sections in
    let took : histories c.as_slice.result.now ≡ histories_of c.from_vec.result = ap histories c.as_slice.ensures.value ∙ sym (ap histories_of is ∙ histories-from c.as_slice-3.result.now 0 networks) in
    let most : limits c.as_slice.result.now ≡ limits_of c.from_vec.result = ap limits c.as_slice.ensures.value ∙ sym (ap limits_of is ∙ limits-from c.as_slice-3.result.now 0 networks) in
    subst (λ (x : List ℕ × List (List Event) × List (List Entry)). AreFullLast x.0 x.1 x.2) (λ k. (most k, took k, c.as_slice-2.ensures.value k)) c.in_ok-givers.ensures.full
