use Rattle.std.proofs.Common.{◌≡◌, ◌&&◌, true, Bool, ℕ, List, get_or, ap, sym, ◌∙◌, rules, arith}
use Rattle.std.specs.List.{list_any}
use Rattle.std.proofs.lemmas.Option.{get_or_from_slice_get}
use Rattle.job_join.specs.Places.{stands_of}
use Rattle.job_join.proofs.Firsts.{any-found, any-skip}
use Rattle.job_join.proofs.ChannelsLemmas.{is_unlike}
use Rattle.job_join.proofs.channels.has_unlike_product.Goals as goal

pub returns-then-is_unlike : goal.returns-then-is_unlike
returns-then-is_unlike c =
    let p : List ℕ × List ℕ → Bool = is_unlike (stands_of c.args.place.now.stands.items) in
    let xs : List (List ℕ × List ℕ) = c.args.products.now in
    let x : List ℕ × List ℕ = (c.at.result.0.now, c.at.result.1.now) in
    let taken : c.args.place.now.taken ≡ true = search rules in
    let here : get_or xs c.loop-i.i x ≡ x = get_or_from_slice_get xs c.loop-i.i x x c.at.ensures in
    let passes = ap (λ hs. is_unlike (stands_of hs) x) (sym c.deref.ensures.value) ∙ (sym c.is_unlike.ensures ∙ c.if-is_unlike.true) in
    any-found p xs c.loop-i.i x (list_any p xs) (omega arith) (ap p here ∙ passes) c.loop-i.invariant ∙ sym (ap (λ t. t && list_any p xs) taken)

pub loop-i-preserved : goal.loop-i-preserved
loop-i-preserved c =
    let p : List ℕ × List ℕ → Bool = is_unlike (stands_of c.args.place.now.stands.items) in
    let xs : List (List ℕ × List ℕ) = c.args.products.now in
    let x : List ℕ × List ℕ = (c.at.result.0.now, c.at.result.1.now) in
    let here : get_or xs c.loop-i.i x ≡ x = get_or_from_slice_get xs c.loop-i.i x x c.at.ensures in
    let fails = ap (λ hs. is_unlike (stands_of hs) x) (sym c.deref.ensures.value) ∙ (sym c.is_unlike.ensures ∙ c.if-is_unlike.false) in
    any-skip p xs c.loop-i.i x (list_any p xs) (omega arith) (ap p here ∙ fails) c.loop-i.invariant
