use Rattle.std.proofs.Common.{◌≡◌, ◌∙◌, sym, length, vec_len, w64, FitsSigned, rules}
use Rattle.std.proofs.lemmas.Int.{to_z-of_z}
use Rattle.entry_list.proofs.IndexLemmas.{free_by, taken_by, pushed_by, unchanged_by, popped, on_ok, on_err}
use Rattle.entry_list.proofs.list.EntryList.add.Goals as goal

pub returns-then-contains_key-clause-answer : goal.returns-then-contains_key-clause-answer
returns-then-contains_key-clause-answer g c =
    let fits : FitsSigned w64 c.second.result = search rules in
    let test = simp to_z-of_z at c.contains_key.ensures in
    rw (← c.self.view_is)
    ((λ no. search rules), λ free. absurd (taken_by g.E.HasSecond.second_of _ c.self.inside.index c.second.result c.args.e c.contains_key.result c.self.invariant.1 test c.second.ensures c.if-contains_key.true free))

pub returns-then-contains_key-clause-differ : goal.returns-then-contains_key-clause-differ
returns-then-contains_key-clause-differ g c = rw (← c.self.view_is) c.self.invariant.0

pub invariant_of-self-then-is_err : goal.invariant_of-self-then-is_err
invariant_of-self-then-is_err g c =
    let long : vec_len c.push.new.self ≡ length c.push.new.self.items = search rules in
    let same = popped c.self.inside.entries.items c.push.new.self.items c.pop.new.self.items c.args.e (vec_len c.push.new.self) c.in_ok-push.ensures.items long c.pop.ensures.rest in
    unchanged_by g.E.HasSecond.second_of c.self.inside.entries.items c.pop.new.self.items c.self.inside.index c.insert.new.self c.self.invariant same
    (on_err c.insert.result _ (sym c.is_err.ensures.value ∙ c.if-is_err.true) c.insert.ensures.err)

pub returns-then-is_err-clause-differ : goal.returns-then-is_err-clause-differ
returns-then-is_err-clause-differ g c =
    let long : vec_len c.push.new.self ≡ length c.push.new.self.items = search rules in
    let same = popped c.self.inside.entries.items c.push.new.self.items c.pop.new.self.items c.args.e (vec_len c.push.new.self) c.in_ok-push.ensures.items long c.pop.ensures.rest in
    rw same c.self.invariant.0

pub invariant_of-self-else-is_err : goal.invariant_of-self-else-is_err
invariant_of-self-else-is_err g c =
    let fits : FitsSigned w64 c.second.result = search rules in
    let fits_2 : FitsSigned w64 c.second-2.result = search rules in
    let test = simp to_z-of_z at c.contains_key.ensures in
    let free = free_by g.E.HasSecond.second_of _ c.self.inside.index c.second.result c.args.e c.contains_key.result c.self.invariant.1 test c.second.ensures c.if-contains_key.false in
    let updates = simp to_z-of_z at (on_ok c.insert.result _ (sym c.is_err.ensures.value ∙ c.if-is_err.false) c.insert.ensures.updates) in
    pushed_by _ _ _ c.self.inside.index c.insert.new.self c.second-2.result c.args.e c.self.invariant free c.second-2.ensures c.in_ok-push.ensures.items updates

pub returns-clause-answer : goal.returns-clause-answer
returns-clause-answer g c =
    let fits : FitsSigned w64 c.second.result = search rules in
    let test = simp to_z-of_z at c.contains_key.ensures in
    rw (← c.self.view_is)
    ((λ _. free_by g.E.HasSecond.second_of _ c.self.inside.index c.second.result c.args.e c.contains_key.result c.self.invariant.1 test c.second.ensures c.if-contains_key.false), λ _. search rules)

pub returns-clause-differ : goal.returns-clause-differ
returns-clause-differ g c =
    let fits : FitsSigned w64 c.second.result = search rules in
    let fits_2 : FitsSigned w64 c.second-2.result = search rules in
    let test = simp to_z-of_z at c.contains_key.ensures in
    let free = free_by g.E.HasSecond.second_of _ c.self.inside.index c.second.result c.args.e c.contains_key.result c.self.invariant.1 test c.second.ensures c.if-contains_key.false in
    let updates = simp to_z-of_z at (on_ok c.insert.result _ (sym c.is_err.ensures.value ∙ c.if-is_err.false) c.insert.ensures.updates) in
    (pushed_by _ _ _ c.self.inside.index c.insert.new.self c.second-2.result c.args.e c.self.invariant free c.second-2.ensures c.in_ok-push.ensures.items updates).0
