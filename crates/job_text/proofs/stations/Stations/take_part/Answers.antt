use Rattle.std.proofs.Common.{◌≡◌, ◌<◌, length, get_or, map}
use Rattle.std.proofs.lemmas.Result.{err_from_is_err_and}
use Rattle.job_text.specs.Values.{field}
use Rattle.job_text.specs.Faults.{part_fault}
use Rattle.job_text.specs.Growing.{with_part}
use Rattle.job_text.proofs.StationLemmas.{grown-here, refused-here}
use Rattle.job_text.proofs.ChannelLemmas.{AreIndexed-part}
use Rattle.job_text.proofs.stations.Stations.take_part.Goals as goal

pub invariant_of-result : goal.invariant_of-result
invariant_of-result c =
    let inside : c.in-Some.i < length c.self.inside.list.items = rw (← c.self.view_is) at c.in-Some.ensures.within in
    let old : c.index_mut.result.now ≡ get_or c.self.inside.list.items c.in-Some.i c.index_mut.result.now = c.index_mut.ensures.value in
    rw (c.in_ok-put_name.ensures, c.field-2.ensures)
    (AreIndexed-part c.self.invariant c.args.part (map (λ field. field.now) c.args.fields.now) c.in-Some.i c.take_part.new.self c.index_mut.result.now _ inside old c.in_ok-take_part.ensures.taken c.in_ok-take_part.ensures.sound)

pub returns : goal.returns
returns c =
    let inside : c.in-Some.i < length c.self.inside.list.items = rw (← c.self.view_is) at c.in-Some.ensures.within in
    let key : c.field.result.now ≡ field (map (λ field. field.now) c.args.fields.now) 0 = c.field.ensures in
    let there = rw (← c.self.view_is, key) at c.in-Some.ensures.there in
    let old : c.index_mut.result.now ≡ get_or c.self.inside.list.items c.in-Some.i c.index_mut.result.now = c.index_mut.ensures.value in
    rw (← c.self.view_is)
    (grown-here c.self.invariant.at_places (map (λ field. field.now) c.args.fields.now) c.in-Some.i c.index_mut.result.now inside there old
    (part_fault c.args.part (map (λ field. field.now) c.args.fields.now)) (with_part c.args.part (map (λ field. field.now) c.args.fields.now)) c.take_part.new.self c.in_ok-take_part.ensures.taken)

pub returns-in_err-take_part : goal.returns-in_err-take_part
returns-in_err-take_part c =
    let inside : c.in-Some.i < length c.self.inside.list.items = rw (← c.self.view_is) at c.in-Some.ensures.within in
    let key : c.field.result.now ≡ field (map (λ field. field.now) c.args.fields.now) 0 = c.field.ensures in
    let there = rw (← c.self.view_is, key) at c.in-Some.ensures.there in
    let old : c.index_mut.result.now ≡ get_or c.self.inside.list.items c.in-Some.i c.index_mut.result.now = c.index_mut.ensures.value in
    let p = err_from_is_err_and c.from_residual.result c.from_residual.ensures.1 in
    rw (← c.self.view_is, p.1, p.2)
    (refused-here c.self.invariant.at_places (map (λ field. field.now) c.args.fields.now) c.in-Some.i c.index_mut.result.now inside there old
    (part_fault c.args.part (map (λ field. field.now) c.args.fields.now)) _ c.in_err-take_part.ensures.taken)
