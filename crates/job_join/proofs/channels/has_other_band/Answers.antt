use Rattle.std.proofs.Common.{◌≡◌, ◌<◌, ◌&&◌, true, Bool, ℕ, List, [], length, get_or, ap, sym, ◌∙◌, rules, arith}
use Rattle.std.specs.List.{list_any}
use Rattle.std.proofs.lemmas.List.{length-map}
use Rattle.named_list.specs.Named.{names}
use Rattle.job_join.specs.Channels.{differ}
use Rattle.job_join.specs.Places.{stands_of, chans_under}
use Rattle.job_join.proofs.Firsts.{any-found, any-skip}
use Rattle.job_join.proofs.Sets.{get_or-names}
use Rattle.job_join.proofs.channels.has_other_band.Goals as goal

pub returns-then-differs : goal.returns-then-differs
returns-then-differs c =
    let p : List ℕ → Bool = λ name. differ (chans_under (stands_of c.args.place.now.stands.items) name) in
    let xs : List (List ℕ) = names c.args.channels.now in
    let taken : c.args.place.now.taken ≡ true = search rules in
    let here : get_or xs c.loop-i.i [] ≡ c.at.result.0.now = get_or-names c.args.channels.now c.loop-i.i (c.at.result.0.now, c.at.result.1.now) [] c.at.ensures.entry in
    let passes = ap (λ hs. differ (chans_under (stands_of hs) c.at.result.0.now)) (sym c.deref.ensures.value) ∙ (sym c.differs.ensures ∙ c.if-differs.true) in
    let less : c.loop-i.i < length xs = omega (arith, length-map c.args.channels.now (λ (x : List ℕ × Unit {0}). x.0)) in
    any-found p xs c.loop-i.i [] (list_any p xs) less (ap p here ∙ passes) c.loop-i.invariant ∙ sym (ap (λ t. t && list_any p xs) taken)

pub loop-i-preserved : goal.loop-i-preserved
loop-i-preserved c =
    let p : List ℕ → Bool = λ name. differ (chans_under (stands_of c.args.place.now.stands.items) name) in
    let xs : List (List ℕ) = names c.args.channels.now in
    let here : get_or xs c.loop-i.i [] ≡ c.at.result.0.now = get_or-names c.args.channels.now c.loop-i.i (c.at.result.0.now, c.at.result.1.now) [] c.at.ensures.entry in
    let fails = ap (λ hs. differ (chans_under (stands_of hs) c.at.result.0.now)) (sym c.deref.ensures.value) ∙ (sym c.differs.ensures ∙ c.if-differs.false) in
    let less : c.loop-i.i < length xs = omega (arith, length-map c.args.channels.now (λ (x : List ℕ × Unit {0}). x.0)) in
    any-skip p xs c.loop-i.i [] (list_any p xs) less (ap p here ∙ fails) c.loop-i.invariant
