use Rattle.std.proofs.Common.{◌≡◌, ◌^◌, ◌∷◌, [], ◌++◌, ℕ, List, map, bytes_eq, unwrap_or, ap, ◌∙◌, arith}
use Rattle.std.proofs.lemmas.List.{take_all}
use Rattle.named_list.specs.Named.{names}
use Rattle.job_plan.specs.declared.plan.ProductPlan.{ProductPlan}
use Rattle.job_join.specs.Joined.{product_plan, number_of}
use Rattle.job_join.proofs.PlansLemmas.{map-turn, position-few}
use Rattle.job_join.proofs.lists.product_plans.Goals as goal

pub number_of-x-requires : goal.number_of-x-requires
number_of-x-requires c =
    rw (c.requires.numbers c.at.result.0.now) (position-few (λ other. bytes_eq other c.at.result.0.now) (names c.args.j.now.channels) (2 ^ 32) c.requires.few)

pub number_of-y-requires : goal.number_of-y-requires
number_of-y-requires c =
    rw (c.requires.numbers c.at.result.1.now) (position-few (λ other. bytes_eq other c.at.result.1.now) (names c.args.j.now.channels) (2 ^ 32) c.requires.few)

pub loop-i-preserved : goal.loop-i-preserved
loop-i-preserved c =
    let channels : List (List ℕ) = names c.args.j.now.channels in
    let one : c.number_of-x.result ≡ number_of channels c.at.result.0.now = c.number_of-x.ensures ∙ ap (λ o. unwrap_or o 0) (c.requires.numbers c.at.result.0.now) in
    let other : c.number_of-y.result ≡ number_of channels c.at.result.1.now = c.number_of-y.ensures ∙ ap (λ o. unwrap_or o 0) (c.requires.numbers c.at.result.1.now) in
    map-turn (product_plan channels) c.products-pairs.result.now c.loop-i.i (c.at.result.0.now, c.at.result.1.now) c.loop-i.all.items c.push.new.self.items c.at.ensures c.loop-i.invariant
    (c.in_ok-push.ensures.items ∙ ap (λ (p : ProductPlan). c.loop-i.all.items ++ p ∷ []) (same one other))
  where
    same : {m n i k : ℕ} → m ≡ n → i ≡ k → ◌≡◌ {A = ProductPlan} (record { x = m; y = i }) (record { x = n; y = k })
    same e es = cc

pub returns : goal.returns
returns c =
    c.loop-i.invariant ∙ ap (map (product_plan (names c.args.j.now.channels))) (take_all c.loop-i.i c.products-pairs.result.now (omega arith) ∙ c.products-pairs.ensures.value)
