-- What contracts say of a disk in memory.
use Rattle.std.specs.Prelude.{ℕ, List, length, Option, Some, Bool}
use Rattle.mem_devices.specs.MemDiskPlan.{MemDiskPlan}
use Rattle.mem_devices.specs.MemDiskState.{State, start, IsImage}
use Rattle.mem_devices.specs.MemDiskRecord.{replay, state_after}
use Rattle.mem_devices.specs.declared.mem_disk.MemDisk.{MemDisk}
use Rattle.mem_devices.specs.declared.mem_disk.torn_file.TornFile.{TornFile}

-- what a file with its record of calls is now
abbrev pub file_state : TornFile → State
file_state file = replay (start file.first.items) file.calls.items

-- how many calls of it were recorded
abbrev pub file_moment : TornFile → ℕ
file_moment file = length file.calls.items

-- the images after the first `t` of them
abbrev pub file_images : TornFile → ℕ → List ℕ → Type 0
file_images file t image = IsImage (state_after file.first.items file.calls.items t) image

-- the disk's file between its last sync and now
abbrev pub state_of : MemDisk → State
state_of disk = file_state disk.file

-- what a read of it gives
abbrev pub seen_of : MemDisk → Option (List ℕ)
seen_of disk = Some (state_of disk).seen

-- how many calls of `write_at`, `cut` and `sync` the disk has recorded
abbrev pub moment_of : MemDisk → ℕ
moment_of disk = file_moment disk.file

-- what a crash after the first `t` of them may leave
abbrev pub images_of : MemDisk → ℕ → List ℕ → Type 0
images_of disk = file_images disk.file

-- which calls fail, and the number of the next one
abbrev pub plan_of : MemDisk → MemDiskPlan
plan_of disk = disk.plan

-- how often a call has failed
abbrev pub faults_of : MemDisk → ℕ
faults_of disk = disk.faults

-- whether the last call failed for want of memory
abbrev pub refused_of : MemDisk → Bool
refused_of disk = disk.refused
