-- What a record of calls makes of a file.
use Rattle.std.specs.Prelude.{ℕ, ◌+◌, List, [], ◌∷◌, ◌++◌, length, take, if◌then◌else◌}
use Rattle.mem_devices.specs.MemDiskState.{State, start, after_write, after_cut, after_sync}
use Rattle.mem_devices.specs.declared.mem_disk.torn_file.Call.{Call}
use Rattle.mem_devices.specs.declared.mem_disk.torn_file.Call.TheVariants.{Write, Cut, Sync}

-- after one call; its flag says whether it was done
abbrev pub after : State → Call → State
after s (Write at bytes done) = after_write s at bytes.items done
after s (Cut len done) = after_cut s len done
after s (Sync done) = after_sync s done

-- after all of them
abbrev pub replay : State → List Call → State
replay s [] = s
replay s (call ∷ calls) = replay (after s call) calls

-- the file after the first `t` calls
abbrev pub state_after : List ℕ → List Call → ℕ → State
state_after first calls t = replay (start first) (take t calls)

-- the ranges after one call
abbrev pub torn_next : List (ℕ × ℕ) → Call → List (ℕ × ℕ)
torn_next torn (Write at bytes done) = torn ++ (at, at + length bytes.items) ∷ []
torn_next torn (Cut len done) = torn
torn_next torn (Sync done) = if done then [] else torn

-- the place behind what the call writes
abbrev pub call_end : Call → ℕ
call_end (Write at bytes done) = at + length bytes.items
call_end (Cut len done) = 0
call_end (Sync done) = 0
