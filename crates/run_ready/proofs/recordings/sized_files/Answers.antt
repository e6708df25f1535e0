use Rattle.std.proofs.Common.{◌≡◌, ◌∙◌, ◌+◌, List, map, take, sym, subst}
use Rattle.std.specs.Str.{IsUtf8}
use Rattle.frame_index.specs.declared.recording.FileRef.{FileRef}
use Rattle.frame_index.specs.Recording.{IsOnShelf}
use Rattle.run_ready.specs.Sizes.{no_file, no_file_of}
use Rattle.run_ready.proofs.FilesLemmas.{told-more, names-more}
use Rattle.run_ready.proofs.FirstLemmas.{told-next, IsFirst-no_file_of}
use Rattle.run_ready.proofs.recordings.sized_files.Goals as goal

pub sized_file-requires : goal.sized_file-requires
sized_file-requires g c = record {
  text = subst IsUtf8 (sym c.name-item.is) (c.requires.texts c.loop-name.name-index c.name-item.result c.loop-name-test.true);
}

pub loop-name-preserved : goal.loop-name-preserved
loop-name-preserved g c = record {
  same = c.sized_file.ensures.same ∙ c.loop-name.invariant.same;
  faults = c.in_ok-file.ensures.counts ∙ c.loop-name.invariant.faults;
  names =
      subst (λ (fs : List FileRef). map (λ (f : FileRef). f.name) fs ≡ take (c.loop-name.name-index + 1) c.args.names.now) (sym c.in_ok-add.ensures)
      (names-more c.loop-name.list.items c.in_ok-file.file c.args.names.now c.loop-name.name-index c.name-item.result c.loop-name-test.true c.name-item.is
      c.loop-name.invariant.names c.in_ok-file.ensures.name);
  shelved =
      told-more IsOnShelf c.loop-name.list.items c.in_ok-file.file c.in_ok-add.ensures
      c.loop-name.invariant.same c.loop-name.invariant.shelved c.in_ok-file.ensures.shelved;
  first =
      told-next no_file no_file_of IsFirst-no_file_of c.args.names.now c.loop-name.name-index c.name-item.result c.loop-name-test.true c.name-item.is
      c.loop-name.invariant.same c.loop-name.invariant.first c.in_ok-file.ensures.there;
}
