use Rattle.std.proofs.Common.{◌∙◌, ap, rules, List, length, arith}
use Rattle.std.proofs.lemmas.Fn.{dedup_same}
use Rattle.std.proofs.lemmas.List.Sorted.{IsPermutation-sym, length_permutation}
use Rattle.frame_index.specs.FrameOrder.{place_under}
use Rattle.frame_index.proofs.FirstPlaces.{Entry, equal_keys, dedup-equal_keys, places-dedup, sorted-dedup, places-sorted, length-dedup}
use Rattle.frame_index.proofs.valid.ValidFrames.first_places.Goals as goal

pub invariant_of-result : goal.invariant_of-result
invariant_of-result c =
    let kept = dedup_same _ equal_keys _ (λ x y b f' x' y' k. search rules) _ _ c.dedup_by_key.ensures.filtered ∙ dedup-equal_keys c.sort_unstable.new.self.items in
    record { sorted = rw kept (sorted-dedup c.sort_unstable.new.self.items c.sort_unstable.ensures.sorted) }

pub returns-clause-first : goal.returns-clause-first
returns-clause-first c = λ ordered frame.
    let kept = dedup_same _ equal_keys _ (λ x y b f' x' y' k. search rules) _ _ c.dedup_by_key.ensures.filtered ∙ dedup-equal_keys c.sort_unstable.new.self.items in
    ap (λ (es : List Entry). place_under es frame) kept
    ∙ places-dedup c.sort_unstable.new.self.items frame
    ∙ places-sorted c.args.self.entries.items c.sort_unstable.new.self.items frame ordered c.sort_unstable.ensures.sorted
    c.sort_unstable.ensures.permutation (IsPermutation-sym _ _ c.sort_unstable.ensures.permutation)

pub returns-clause-doubled : goal.returns-clause-doubled
returns-clause-doubled c =
    let kept = dedup_same _ equal_keys _ (λ x y b f' x' y' k. search rules) _ _ c.dedup_by_key.ensures.filtered ∙ dedup-equal_keys c.sort_unstable.new.self.items in
    let fewer = ap (λ (es : List Entry). length es) kept ∙ length-dedup c.args.self.entries.items c.sort_unstable.new.self.items c.sort_unstable.ensures.sorted c.sort_unstable.ensures.permutation in
    let all = length_permutation c.args.self.entries.items c.sort_unstable.new.self.items c.sort_unstable.ensures.permutation in
    omega (arith, fewer, all, c.len.ensures, c.len-all.ensures, c.dedup_by_key.ensures.bound)
