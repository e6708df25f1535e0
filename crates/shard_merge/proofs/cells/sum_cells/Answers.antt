use Rattle.std.proofs.Common.{◌≡◌, ◌∙◌, List, ℕ, Option, ap, subst}
use Rattle.dev_traits.specs.Told.{WhereTold}
use Rattle.corr_model.specs.Files.{Files}
use Rattle.corr_model.specs.declared.cell.Cell.{Cell}
use Rattle.journal_image.specs.Image.{KeptEpoch}
use Rattle.shelf_file.specs.Seen.{seen_under}
use Rattle.shard_merge.specs.Adding.{added_in}
use Rattle.shard_merge.specs.Covers.{added, kept_in}
use Rattle.shard_merge.specs.Reading.{IsReadFrom}
use Rattle.shard_merge.proofs.CellsShards.{sums-told, OnOk-follows}
use Rattle.shard_merge.proofs.cells.sum_cells.Goals as goal

pub returns-clause-sums : goal.returns-clause-sums
returns-clause-sums g c =
    let s = c.args.shard.now in
    let told = g.F.Shelf.told c.args.shelf.now in
    let file = c.new-file.result in
    let listed = c.stretch-kept.result.now in
    let sums = c.add_all.new.sums in
    let same_told : g.F.Shelf.told file.shelf.now ≡ told = ap g.F.Shelf.told c.new-file.ensures.shelf in
    let same_name : file.name.now ≡ s.name = c.new-file.ensures.name ∙ c.text_of.ensures in
    let Seen : Option Files → List ℕ → ℕ → Type 0 = λ t name size. WhereTold (seen_under t name size) (λ image. sums ≡ added_in image c.clear.new.cells listed) in
    let Zeros : List Cell → Type 0 = λ zeros. WhereTold told (λ files. (id : List ℕ) (kept : List KeptEpoch) → IsReadFrom files id c.args.plan.now s kept → sums ≡ added zeros (kept_in c.args.number c.args.m kept)) in
    OnOk-follows c.add_all.result _ _
    (λ is. subst Zeros c.clear.ensures
    (sums-told told c.args.plan.now s c.args.number c.args.m c.clear.new.cells sums listed c.requires.listed.short c.stretch-kept.ensures.all
    (subst (λ (size : ℕ). Seen told s.name size) c.new-file.ensures.size
    (subst (λ (name : List ℕ). Seen told name file.size) same_name
    (subst (λ (t : Option Files). Seen t file.name.now file.size) same_told is)))))
    c.add_all.ensures.sums
