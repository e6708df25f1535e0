use Rattle.std.proofs.Common.{◌≡◌, ℕ, ◌<◌, ◌≤◌, ◌^◌, length, ap, sym, ◌∙◌, subst, arith}
use Rattle.named_list.specs.Named.{names}
use Rattle.job_plan.specs.Ranges.{IsPlan}
use Rattle.job_join.specs.declared.joining.Joining.{Joining}
use Rattle.job_join.specs.Channels.{channels_of}
use Rattle.job_join.specs.Standing.{rate_of}
use Rattle.job_join.specs.Joining.{scans_of}
use Rattle.job_join.proofs.JoinedLemmas.{sizes-within, ready-All, frames-All, plan_of-parts}
use Rattle.job_join.proofs.Ranges.{IsPlan-joined}
use Rattle.job_join.proofs.join.plan_of.Goals as goal

pub station_plans-requires : goal.station_plans-requires
station_plans-requires c = frames-All c.args.j.now c.requires.joining c.requires.scans c.requires.accepted.0 c.requires.accepted.1

pub products_in-requires : goal.products_in-requires
products_in-requires c =
    let j : Joining = c.args.j.now in
    let few : length (channels_of j.job.now) ≤ 64 = (sizes-within j c.requires.joining c.requires.scans c.requires.accepted.0 c.requires.accepted.1).channels in
    let same : length (names j.channels) ≡ length (channels_of j.job.now) = ap length c.requires.joining.channels in
    omega arith

pub scan_plans-requires-clause-ready : goal.scan_plans-requires-clause-ready
scan_plans-requires-clause-ready c = ready-All c.args.j.now c.requires.joining c.requires.scans c.requires.accepted.0 c.requires.accepted.1

pub new-requires : goal.new-requires
new-requires c =
    let j : Joining = c.args.j.now in
    let bounded : rate_of j.job.now (scans_of j) < 2 ^ 32 = subst (λ (rate : ℕ). rate < 2 ^ 32) (c.rate_in.ensures ∙ c.requires.joining.rate) c.rate_in.type_inv in
    subst IsPlan (sym (plan_of-parts j c.requires.joining c.lags.ensures c.integration.ensures.value (c.from.ensures ∙ c.epoch.ensures.value) c.rate_in.ensures c.knot.ensures (c.of.ensures ∙ c.in_ok-stations.ensures)
    (c.of-2.ensures ∙ c.in_ok-channels.ensures) (c.of-3.ensures ∙ c.in_ok-products.ensures) (c.of-4.ensures ∙ c.in_ok-scans.ensures)))
    (IsPlan-joined j.job.now c.requires.accepted.0 (scans_of j) c.requires.joining.job c.requires.scans bounded c.requires.accepted.1)

pub returns : goal.returns
returns c =
    let j : Joining = c.args.j.now in
    c.new.ensures ∙ plan_of-parts j c.requires.joining c.lags.ensures c.integration.ensures.value (c.from.ensures ∙ c.epoch.ensures.value) c.rate_in.ensures c.knot.ensures (c.of.ensures ∙ c.in_ok-stations.ensures)
    (c.of-2.ensures ∙ c.in_ok-channels.ensures) (c.of-3.ensures ∙ c.in_ok-products.ensures) (c.of-4.ensures ∙ c.in_ok-scans.ensures)
