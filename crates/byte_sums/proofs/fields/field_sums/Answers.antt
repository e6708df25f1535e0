use Rattle.std.proofs.Common.{◌≡◌, ◌+◌, ◌*◌, refl, ap, ◌∙◌, arith}
use Rattle.byte_sums.specs.Fields.{lower_product, upper_product, lower_sum, upper_sum}
use Rattle.byte_sums.proofs.Small.{weaker}
use Rattle.byte_sums.proofs.Joined.{lower-more, upper-more, none-of, still-small, zeros-small}
use Rattle.byte_sums.proofs.fields.field_sums.Goals as goal

pub loop-i-init : goal.loop-i-init
loop-i-init c = record {
  first_lower = none-of (lower_product c.args.a.now c.args.b.now c.args.lag);
  first_upper = none-of (upper_product c.args.a.now c.args.b.now c.args.lag);
  second_lower = none-of (lower_product c.args.a.now c.args.b.now (c.args.lag + 1));
  second_upper = none-of (upper_product c.args.a.now c.args.b.now (c.args.lag + 1));
  first_lower_len = refl;
  first_upper_len = refl;
  second_lower_len = refl;
  second_upper_len = refl;
  first_lower_small = zeros-small;
  first_upper_small = zeros-small;
  second_lower_small = zeros-small;
  second_upper_small = zeros-small;
}

pub parted-first-requires-clause-lens : goal.parted-first-requires-clause-lens
parted-first-requires-clause-lens c = (c.loop-i.invariant.first_lower_len, c.loop-i.invariant.first_upper_len, c.triple.ensures.len)

pub parted-first-requires-clause-lower : goal.parted-first-requires-clause-lower
parted-first-requires-clause-lower c = weaker (75 * c.loop-i.i) 60000 _ (omega arith) c.loop-i.invariant.first_lower_small

pub parted-first-requires-clause-upper : goal.parted-first-requires-clause-upper
parted-first-requires-clause-upper c = weaker (75 * c.loop-i.i) 60000 _ (omega arith) c.loop-i.invariant.first_upper_small

pub parted-second-requires-clause-lens : goal.parted-second-requires-clause-lens
parted-second-requires-clause-lens c = (c.loop-i.invariant.second_lower_len, c.loop-i.invariant.second_upper_len, c.triple-in-loop-i.ensures.len)

pub parted-second-requires-clause-lower : goal.parted-second-requires-clause-lower
parted-second-requires-clause-lower c = weaker (75 * c.loop-i.i) 60000 _ (omega arith) c.loop-i.invariant.second_lower_small

pub parted-second-requires-clause-upper : goal.parted-second-requires-clause-upper
parted-second-requires-clause-upper c = weaker (75 * c.loop-i.i) 60000 _ (omega arith) c.loop-i.invariant.second_upper_small

pub loop-i-preserved : goal.loop-i-preserved
loop-i-preserved c =
    let a = c.args.a.now in
    let b = c.args.b.now in
    let i = c.loop-i.i in
    let lag = c.args.lag in
    record {
      first_lower = lower-more a b lag i c.triple.result c.triple.ensures.len c.triple.ensures.lanes c.requires.a c.requires.b _ _ c.loop-i.invariant.first_lower c.parted-first.ensures.lower;
      first_upper = upper-more a b lag i c.triple.result c.triple.ensures.len c.triple.ensures.lanes c.requires.a c.requires.b _ _ c.loop-i.invariant.first_upper c.parted-first.ensures.upper;
      second_lower =
          lower-more a b (lag + 1) i c.triple-in-loop-i.result c.triple-in-loop-i.ensures.len c.triple-in-loop-i.ensures.lanes c.requires.a c.requires.b _ _ c.loop-i.invariant.second_lower
          c.parted-second.ensures.lower;
      second_upper =
          upper-more a b (lag + 1) i c.triple-in-loop-i.result c.triple-in-loop-i.ensures.len c.triple-in-loop-i.ensures.lanes c.requires.a c.requires.b _ _ c.loop-i.invariant.second_upper
          c.parted-second.ensures.upper;
      first_lower_len = c.parted-first.ensures.lower_len;
      first_upper_len = c.parted-first.ensures.upper_len;
      second_lower_len = c.parted-second.ensures.lower_len;
      second_upper_len = c.parted-second.ensures.upper_len;
      first_lower_small = still-small i _ (c.parted-first.ensures.lower_small (75 * i) c.loop-i.invariant.first_lower_small);
      first_upper_small = still-small i _ (c.parted-first.ensures.upper_small (75 * i) c.loop-i.invariant.first_upper_small);
      second_lower_small = still-small i _ (c.parted-second.ensures.lower_small (75 * i) c.loop-i.invariant.second_lower_small);
      second_upper_small = still-small i _ (c.parted-second.ensures.upper_small (75 * i) c.loop-i.invariant.second_upper_small);
    }

pub returns-clause-first : goal.returns-clause-first
returns-clause-first c =
    let a = c.args.a.now in
    let b = c.args.b.now in
    let all : c.loop-i.i ≡ c.args.count = omega arith in
    (c.total.ensures ∙ c.loop-i.invariant.first_lower ∙ ap (λ i. lower_sum a b c.args.lag (96 * i)) all, c.total-2.ensures ∙ c.loop-i.invariant.second_lower ∙ ap (λ i. lower_sum a b (c.args.lag + 1) (96 * i)) all)

pub returns-clause-second : goal.returns-clause-second
returns-clause-second c =
    let a = c.args.a.now in
    let b = c.args.b.now in
    let all : c.loop-i.i ≡ c.args.count = omega arith in
    (c.total-3.ensures ∙ c.loop-i.invariant.first_upper ∙ ap (λ i. upper_sum a b c.args.lag (96 * i)) all, c.total-4.ensures ∙ c.loop-i.invariant.second_upper ∙ ap (λ i. upper_sum a b (c.args.lag + 1) (96 * i)) all)
