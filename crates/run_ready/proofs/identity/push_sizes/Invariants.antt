use Rattle.std.proofs.Common.{◌≡◌, ◌++◌, map, take}
use Rattle.frame_index.specs.declared.recording.FileRef.{FileRef}
use Rattle.run_ready.proofs.identity.push_sizes.Given as goal

abbrev pub invariant-loop-file : goal.invariant-loop-file
invariant-loop-file l = l.sizes.items ≡ l.initial.sizes.items ++ map (λ (f : FileRef). f.size) (take l.file-index l.files)
