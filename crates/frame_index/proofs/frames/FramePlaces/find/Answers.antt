use Rattle.std.proofs.Common.{rules}
use Rattle.std.proofs.lemmas.List.Sorted.{answers_always}
use Rattle.frame_index.proofs.FirstPlaces.{Entry, searched}
use Rattle.frame_index.proofs.frames.FramePlaces.find.Goals as goal

pub returns-in-Ok : goal.returns-in-Ok
returns-in-Ok c =
    let by_key = c.binary_search_by_key.ensures.position (λ (e : Entry). e.0) (answers_always _ _ _ (λ f a r g called. search rules)) in
    let found = searched c.args.self.now.entries.items c.args.frame.now c.binary_search_by_key.result c.args.self.now.sorted
    (rw c.deref.ensures.value at c.binary_search_by_key.ensures.bound) (rw c.deref.ensures.value at by_key) in
    (rw c.in-Ok.is at found) c.index.result.now c.index.ensures

pub returns-in-Err : goal.returns-in-Err
returns-in-Err c =
    let by_key = c.binary_search_by_key.ensures.position (λ (e : Entry). e.0) (answers_always _ _ _ (λ f a r g called. search rules)) in
    let found = searched c.args.self.now.entries.items c.args.frame.now c.binary_search_by_key.result c.args.self.now.sorted
    (rw c.deref.ensures.value at c.binary_search_by_key.ensures.bound) (rw c.deref.ensures.value at by_key) in
    rw c.in-Err.is at found
