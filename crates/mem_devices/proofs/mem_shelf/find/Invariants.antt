use Rattle.std.proofs.Common.{◌≡◌, drop}
use Rattle.mem_devices.specs.MemShelfState.{bytes_under, files_of}
use Rattle.mem_devices.proofs.mem_shelf.find.Given as goal

-- none of the files so far has the name
abbrev pub invariant-loop-key : goal.invariant-loop-key
invariant-loop-key l =
    bytes_under (files_of l.files) l.name ≡ bytes_under (files_of (drop l.key-index l.files)) l.name
