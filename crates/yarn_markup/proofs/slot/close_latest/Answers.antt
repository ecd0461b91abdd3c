use Rattle.std.proofs.Common.{sym, ◌∙◌}
use Rattle.yarn_markup.proofs.SlotLemmas.{latest_open, none_latest, set_latest, none_open}
use Rattle.yarn_markup.proofs.LatestLemmas.{none_placed, latest_placed, latest_within, tracked_latest}
use Rattle.yarn_markup.proofs.slot.close_latest.Goals as goal

pub index-requires : goal.index-requires
index-requires c =
    let place = sym c.get.ensures.value ∙ sym c.copied.ensures ∙ c.in-Some.is in
    let latest = latest_placed c.args.name.now c.args.latest.now c.args.slots.now.items c.in-Some.at c.requires place in
    latest_within c.args.name.now c.args.slots.now.items c.in-Some.at _ latest c.args.slots.now.ok.0

pub index-requires-in-Some : goal.index-requires-in-Some
index-requires-in-Some c =
    let place = sym c.get.ensures.value ∙ sym c.copied.ensures ∙ c.in-Some.is in
    let latest = latest_placed c.args.name.now c.args.latest.now c.args.slots.now.items c.in-Some.at c.requires place in
    latest_within c.args.name.now c.args.slots.now.items c.in-Some.at _ latest c.args.slots.now.ok.0

pub index_mut-requires : goal.index_mut-requires
index_mut-requires c =
    let place = sym c.get.ensures.value ∙ sym c.copied.ensures ∙ c.in-Some.is in
    let latest = latest_placed c.args.name.now c.args.latest.now c.args.slots.now.items c.in-Some.at c.requires place in
    latest_within c.args.name.now c.args.slots.now.items c.in-Some.at _ latest c.args.slots.now.ok.0

pub returns-in_ok-set_latest-in-Some-clause-found : goal.returns-in_ok-set_latest-in-Some-clause-found
returns-in_ok-set_latest-in-Some-clause-found c =
    let place = sym c.get.ensures.value ∙ sym c.copied.ensures ∙ c.in-Some.is in
    let latest = latest_placed c.args.name.now c.args.latest.now c.args.slots.now.items c.in-Some.at c.requires place in
    latest_open c.args.name.now c.args.slots.now.items c.in-Some.at latest

pub returns-in_ok-set_latest-in-Some-clause-closed : goal.returns-in_ok-set_latest-in-Some-clause-closed
returns-in_ok-set_latest-in-Some-clause-closed c =
    let place = sym c.get.ensures.value ∙ sym c.copied.ensures ∙ c.in-Some.is in
    let latest = latest_placed c.args.name.now c.args.latest.now c.args.slots.now.items c.in-Some.at c.requires place in
    set_latest c.args.name.now c.args.now c.args.slots.now.items c.in-Some.at c.index_mut.result.now c.index-in-Some.result.now c.saturating_sub.result latest
    c.index_mut.ensures.value c.index-in-Some.ensures c.saturating_sub.ensures

pub returns-in_ok-set_latest-in-Some-clause-tracked : goal.returns-in_ok-set_latest-in-Some-clause-tracked
returns-in_ok-set_latest-in-Some-clause-tracked c =
    let place = sym c.get.ensures.value ∙ sym c.copied.ensures ∙ c.in-Some.is in
    let latest = latest_placed c.args.name.now c.args.latest.now c.args.slots.now.items c.in-Some.at c.requires place in
    tracked_latest c.args.latest.now c.set_latest.new.latest c.args.name.now c.args.now c.in-Some.at c.args.slots.now.items _ c.index.result.now c.requires latest
    c.index.ensures c.in_ok-set_latest-in-Some.ensures
    (set_latest c.args.name.now c.args.now c.args.slots.now.items c.in-Some.at c.index_mut.result.now c.index-in-Some.result.now c.saturating_sub.result latest
    c.index_mut.ensures.value c.index-in-Some.ensures c.saturating_sub.ensures)

pub returns-in-None-clause-found : goal.returns-in-None-clause-found
returns-in-None-clause-found c =
    none_open c.args.name.now c.args.slots.now.items
    (none_placed c.args.name.now c.args.latest.now c.args.slots.now.items c.requires (sym c.get.ensures.value ∙ sym c.copied.ensures ∙ c.in-None.is))

pub returns-in-None-clause-closed : goal.returns-in-None-clause-closed
returns-in-None-clause-closed c =
    none_latest c.args.name.now c.args.now c.args.slots.now.items
    (none_placed c.args.name.now c.args.latest.now c.args.slots.now.items c.requires (sym c.get.ensures.value ∙ sym c.copied.ensures ∙ c.in-None.is))
