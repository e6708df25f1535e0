use Rattle.std.proofs.Common.{◌≡◌, ◌∙◌, ap, sym, length, arith}
use Rattle.std.proofs.lemmas.List.{with_items_is}
use Rattle.run_ready.proofs.FilesLemmas.{read_file}
use Rattle.run_ready.proofs.texts.read_whole.Goals as goal

pub returns-in-Ok-clause-bytes : goal.returns-in-Ok-clause-bytes
returns-in-Ok-clause-bytes g c =
    let stretch = rw c.bytes.ensures at c.in-Ok.ensures.stretch in
    let same : length c.read_stretch.new.buf ≡ c.in_ok-bytes.bytes.len = c.read_stretch.auto.buf ∙ ap length c.deref_mut.ensures.value ∙ sym c.in_ok-bytes.bytes.ok.0 in
    rw (with_items_is c.in_ok-bytes.bytes c.read_stretch.new.buf same)
    (read_file (g.F.Shelf.told c.args.shelf.now) c.args.name.now _ c.args.size c.read_stretch.new.buf (omega (arith, c.deref_mut.ensures.len, c.in_ok-bytes.ensures.len)) (stretch c.requires.text))
