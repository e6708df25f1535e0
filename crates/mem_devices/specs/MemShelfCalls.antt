-- What each call of a shelf in memory does, whether it is done or fails.
use Rattle.std.specs.Prelude.{◌≡◌, ◌↔◌, ℕ, ◌<◌, ◌≤◌, ◌^◌, List, length, Option, Some, Result, IfOk, IfSome, OnErr, IsErr, IsTrue}
use Rattle.dev_traits.specs.Fault.{Counts}
use Rattle.dev_traits.specs.Files.{size_of, ReadsAt}
use Rattle.mem_devices.specs.MemShelfState.{MemShelfState, bytes_under, fails_next, after_call}

-- A call takes its number, and the files stay as they are; it fails just where the number is listed.
pub record Calls {T E : Type 0} (old new : MemShelfState) (result : Result T E) : Type 0 where
  pub same : Some (bytes_under new.files) ≡ Some (bytes_under old.files)
  pub counts : Counts old.faults new.faults result
  pub fails : IsErr result ↔ IsTrue (fails_next old)
  pub called : new ≡ after_call old

-- `size` of a name
pub record Sizes {E : Type 0} (name : List ℕ) (old new : MemShelfState) (result : Result (Option ℕ) E) : Type 0 where
  pub calls : Calls old new result
  pub bound : IfOk result (λ size. IfSome size (λ n. n < 2 ^ 63))
  pub size : IfOk result (λ size. size ≡ size_of (bytes_under old.files name))

-- `read_at` of a place under a name into a buffer, which a call that fails leaves as it was
pub record Reads {E : Type 0} (name : List ℕ) (at : ℕ) (buf_old buf_new : List ℕ) (old new : MemShelfState) (result : Result ℕ E) : Type 0 where
  pub calls : Calls old new result
  pub within : IfOk result (λ n. n ≤ length buf_old)
  pub read : IfOk result (λ n. ReadsAt (bytes_under old.files name) at buf_old n buf_new)
  pub untouched : OnErr result (buf_new ≡ buf_old)
