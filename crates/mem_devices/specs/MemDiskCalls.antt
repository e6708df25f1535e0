-- What each call of a disk in memory does, whether it is done or fails.
use Rattle.std.specs.Prelude.{◌≡◌, ◌↔◌, ℕ, ◌+◌, ◌<◌, ◌≤◌, ◌^◌, List, length, take, Bool, true, false, not, option_map, is_some, Some, Result, IfOk, OnOk, IsErr, IsTrue}
use Rattle.dev_traits.specs.Fault.{Counts}
use Rattle.dev_traits.specs.Files.{ReadsAt}
use Rattle.dev_traits.specs.Told.{WhereTold}
use Rattle.dev_traits.specs.Images.{put_at, Same, Torn, Shorn}
use Rattle.dev_traits.specs.Moments.{Goes, IsDurable}
use Rattle.mem_devices.specs.MemDiskPlan.{fails_next, after_call}
use Rattle.mem_devices.specs.MemDiskState.{State, after_write, after_cut, after_sync}
use Rattle.mem_devices.specs.MemDiskWords.{state_of, seen_of, moment_of, images_of, plan_of, faults_of, refused_of}
use Rattle.mem_devices.specs.declared.mem_disk.MemDisk.{MemDisk}

-- A call that reads: it fails just where the plan lists it or the disk has stopped, and the file stays as it is.
pub record Reads {T E : Type 0} (old new : MemDisk) (result : Result T E) : Type 0 where
  pub same : seen_of new ≡ seen_of old
  pub goes : Goes moment_of images_of Same old new
  pub counts : Counts (faults_of old) (faults_of new) result
  pub plan : plan_of new ≡ after_call (plan_of old)
  pub fails : IsErr result ↔ IsTrue (fails_next (plan_of old))
  pub state : state_of new ≡ state_of old
  pub moment : moment_of new ≡ moment_of old
  pub not_refused : refused_of new ≡ false

-- `len`
pub record ReadsLength {E : Type 0} (old new : MemDisk) (result : Result ℕ E) : Type 0 where
  pub reads : Reads old new result
  pub bound : IfOk result (λ n. n < 2 ^ 63)
  pub len : IfOk result (λ n. WhereTold (seen_of old) (λ bytes. n ≡ length bytes))

-- `read_at` of a place into a buffer
pub record ReadsBytes {E : Type 0} (at : ℕ) (buf_old buf_new : List ℕ) (old new : MemDisk) (result : Result ℕ E) : Type 0 where
  pub reads : Reads old new result
  pub within : IfOk result (λ n. n ≤ length buf_old)
  pub read : IfOk result (λ n. WhereTold (seen_of old) (λ bytes. ReadsAt (Some bytes) at buf_old n buf_new))

-- A call that changes the file, each image of which comes by `step`. One that the plan lists fails, and so
-- does each once the disk has stopped; any other only for want of memory. Where memory is wanting nothing changes; else the call is recorded
-- and leaves the state `then`, of one that is done or fails.
pub record Changes {T E : Type 0} (step : List ℕ → List ℕ → Type 0) (then : Bool → State) (old new : MemDisk) (result : Result T E) : Type 0 where
  pub goes : Goes moment_of images_of step old new
  pub counts : Counts (faults_of old) (faults_of new) result
  pub plan : plan_of new ≡ after_call (plan_of old)
  pub listed : IsTrue (fails_next (plan_of old)) → IsErr result
  pub unlisted : fails_next (plan_of old) ≡ false → (IsErr result ↔ IsTrue (refused_of new))
  pub recorded : refused_of new ≡ false → state_of new ≡ then (not (fails_next (plan_of old)))
  pub next_moment : refused_of new ≡ false → moment_of new ≡ moment_of old + 1
  pub unchanged : refused_of new ≡ true → state_of new ≡ state_of old
  pub same_moment : refused_of new ≡ true → moment_of new ≡ moment_of old

-- `write_at` of these bytes from a place on
pub record Writes {T E : Type 0} (at : ℕ) (bytes : List ℕ) (old new : MemDisk) (result : Result T E) : Type 0 where
  pub changes : Changes (Torn at (at + length bytes)) (after_write (state_of old) at bytes) old new result
  pub written : OnOk result (seen_of new ≡ option_map (put_at at bytes) (seen_of old))
  pub tells : is_some (seen_of new) ≡ is_some (seen_of old)

-- `cut` to a length
pub record Cuts {T E : Type 0} (len : ℕ) (old new : MemDisk) (result : Result T E) : Type 0 where
  pub changes : Changes (Shorn len) (after_cut (state_of old) len) old new result
  pub cut : OnOk result (seen_of new ≡ option_map (take len) (seen_of old))
  pub tells : is_some (seen_of new) ≡ is_some (seen_of old)

-- `sync`
pub record Syncs {T E : Type 0} (old new : MemDisk) (result : Result T E) : Type 0 where
  pub changes : Changes Same (after_sync (state_of old)) old new result
  pub same : seen_of new ≡ seen_of old
  pub durable : OnOk result (IsDurable (seen_of new) (images_of new (moment_of new)))
