-- A file in memory, one recorded call on.
use Rattle.std.proofs.Common.{Vec, Global, ◌≡◌, ◌<◌, ◌+◌, ◌++◌, ◌∷◌, [], ℕ, List, Bool, true, false, not, Some, length, max, min, take, if◌then◌else◌, sym, ap, ◌∙◌, arith, refl, subst}
use Rattle.std.proofs.lemmas.List.{take_all}
use Rattle.dev_traits.specs.Images.{put_at, Same, Torn, Shorn}
use Rattle.dev_traits.specs.Moments.{Goes, IsDurable}
use Rattle.dev_traits.proofs.Moments.{goes_within}
use Rattle.mem_devices.specs.MemDiskState.{State, start, after_write, after_cut, after_sync, IsImage}
use Rattle.mem_devices.specs.MemDiskRecord.{after, replay, state_after}
use Rattle.mem_devices.specs.MemDiskImages.{IsBetween, between_now}
use Rattle.mem_devices.specs.MemDiskWords.{file_state, file_moment, file_images, moment_of, images_of}
use Rattle.mem_devices.specs.declared.mem_disk.MemDisk.{MemDisk}
use Rattle.mem_devices.specs.declared.mem_disk.torn_file.TornFile.{TornFile}
use Rattle.mem_devices.specs.declared.mem_disk.torn_file.Call.{Call}
use Rattle.mem_devices.specs.declared.mem_disk.torn_file.Call.TheVariants.{Write, Cut, Sync}
use Rattle.mem_devices.proofs.MemDiskReplay.{replay_push, pushed, Follows, follows_on, now_bounded}
use Rattle.mem_devices.proofs.MemDiskComes.{write_comes, cut_comes, sync_comes, only_start}

abbrev firsts : TornFile → List ℕ
firsts file = file.first.items

abbrev calls_of : TornFile → List Call
calls_of file = file.calls.items

now_short : (file : TornFile) → (file_state file).most < 9223372036854775808
now_short file = now_bounded file.first.items file.calls.items file.short

-- the fields after a write
pub write_follows : (old : TornFile) (at : ℕ) (bytes : List ℕ) (v : Vec ℕ Global) (done : Bool) (calls : List Call) (seen : List ℕ) (most : ℕ)
    → v.items ≡ bytes → calls ≡ old.calls.items ++ Write at v done ∷ [] → seen ≡ (if done then put_at at bytes old.bytes.items else old.bytes.items) → most ≡ max old.most (at + length bytes) → at + length bytes < 9223372036854775808
    → Follows old.first.items calls seen old.least most
write_follows old at bytes v done calls seen most same is reads high short =
    let r = file_state old in
    let reads' : seen ≡ (if done then put_at at v.items r.seen else r.seen) =
    reads ∙ ap (λ (l : List ℕ). if done then put_at at l old.bytes.items else old.bytes.items) (sym same) ∙ ap (λ (l : List ℕ). if done then put_at at v.items l else l) old.reads in
    let high' : most ≡ max r.most (at + length v.items) =
    high ∙ ap (λ n. max n (at + length bytes)) old.lengths.1 ∙ ap (λ (l : List ℕ). max r.most (at + length l)) (sym same) in
    follows_on old.first.items old.calls.items calls (Write at v done) seen old.least most old.short is reads' old.lengths.0 high' (omega (arith, now_short old, old.lengths.1, high, short))

pub write_state : (first : List ℕ) (old new : List Call) (at : ℕ) (bytes : List ℕ) (v : Vec ℕ Global) (done : Bool) → v.items ≡ bytes → new ≡ old ++ Write at v done ∷ []
    → replay (start first) new ≡ after_write (replay (start first) old) at bytes done
write_state first old new at bytes v done same is =
    ap (replay (start first)) is ∙ replay_push (start first) old (Write at v done) ∙ ap (λ (l : List ℕ). after_write (replay (start first) old) at l done) same

pub write_goes : (old new : TornFile) (at : ℕ) (bytes : List ℕ) (v : Vec ℕ Global) (done : Bool) → v.items ≡ bytes → new.first.items ≡ old.first.items → new.calls.items ≡ old.calls.items ++ Write at v done ∷ []
    → Goes file_moment file_images (Torn at (at + length bytes)) old new
write_goes old new at bytes v done same first is =
    subst (λ (l : List ℕ). Goes file_moment file_images (Torn at (at + length l)) old new) same
    (pushed firsts calls_of (Torn at (at + length v.items)) old new (Write at v done) first is
    (λ image now. write_comes (file_state old) at v.items done image (between_now old.first.items old.calls.items) now))

take_choice : (done : Bool) (len k : ℕ) (xs : List ℕ) → k ≡ length xs → take (if done then len else k) xs ≡ (if done then take len xs else xs)
take_choice true len k xs is = refl
take_choice false len k xs is = take_all k xs (omega arith)

-- the fields after a cut
pub cut_follows : (old : TornFile) (len long kept : ℕ) (done : Bool) (calls : List Call) (seen : List ℕ) (least : ℕ)
    → calls ≡ old.calls.items ++ Cut len done ∷ [] → long ≡ length old.bytes.items → kept ≡ (if done then len else long) → seen ≡ take kept old.bytes.items → least ≡ min old.least len
    → Follows old.first.items calls seen least old.most
cut_follows old len long kept done calls seen least is is_long is_kept reads low =
    let r = file_state old in
    let reads' : seen ≡ (if done then take len r.seen else r.seen) =
    reads ∙ ap (λ k. take k old.bytes.items) is_kept ∙ take_choice done len long old.bytes.items is_long ∙ ap (λ (l : List ℕ). if done then take len l else l) old.reads in
    follows_on old.first.items old.calls.items calls (Cut len done) seen least old.most old.short is reads' (low ∙ ap (λ n. min n len) old.lengths.0) old.lengths.1 (omega (arith, now_short old, old.lengths.1))

pub cut_state : (first : List ℕ) (old new : List Call) (len : ℕ) (done : Bool) → new ≡ old ++ Cut len done ∷ [] → replay (start first) new ≡ after_cut (replay (start first) old) len done
cut_state first old new len done is = ap (replay (start first)) is ∙ replay_push (start first) old (Cut len done)

pub cut_goes : (old new : TornFile) (len : ℕ) (done : Bool) → new.first.items ≡ old.first.items → new.calls.items ≡ old.calls.items ++ Cut len done ∷ [] → Goes file_moment file_images (Shorn len) old new
cut_goes old new len done first is =
    pushed firsts calls_of (Shorn len) old new (Cut len done) first is
    (λ image now. cut_comes (file_state old) len done image (between_now old.first.items old.calls.items) now)

synced : (r : State) (done : Bool) (bytes : List ℕ) (k low high least most : ℕ) → bytes ≡ r.seen → low ≡ r.least → high ≡ r.most → k ≡ length bytes → least ≡ (if done then k else low) → most ≡ (if done then k else high) → IsBetween r → r.most < 9223372036854775808
    → (bytes ≡ (after r (Sync done)).seen) × (least ≡ (after r (Sync done)).least) × (most ≡ (after r (Sync done)).most) × (most < 9223372036854775808)
synced r true bytes k low high least most reads is_low is_high long e f b bound = (reads, e ∙ long ∙ ap length reads, f ∙ long ∙ ap length reads, omega (arith, f, long, ap length reads, b.most))
synced r false bytes k low high least most reads is_low is_high long e f b bound = (reads, e ∙ is_low, f ∙ is_high, omega (arith, f, is_high))

-- the fields after a sync
pub sync_follows : (old : TornFile) (done : Bool) (calls : List Call) (long least most : ℕ) → calls ≡ old.calls.items ++ Sync done ∷ [] → long ≡ length old.bytes.items → least ≡ (if done then long else old.least) → most ≡ (if done then long else old.most)
    → Follows old.first.items calls old.bytes.items least most
sync_follows old done calls long least most is is_long low high =
    let facts = synced (file_state old) done old.bytes.items long old.least old.most least most old.reads old.lengths.0 old.lengths.1 is_long low high (between_now old.first.items old.calls.items) (now_short old) in
    follows_on old.first.items old.calls.items calls (Sync done) old.bytes.items least most old.short is facts.0 facts.1 facts.2 facts.3

pub sync_state : (first : List ℕ) (old new : List Call) (done : Bool) → new ≡ old ++ Sync done ∷ [] → replay (start first) new ≡ after_sync (replay (start first) old) done
sync_state first old new done is = ap (replay (start first)) is ∙ replay_push (start first) old (Sync done)

pub sync_goes : (old new : TornFile) (done : Bool) → new.first.items ≡ old.first.items → new.calls.items ≡ old.calls.items ++ Sync done ∷ [] → Goes file_moment file_images Same old new
sync_goes old new done first is =
    pushed firsts calls_of Same old new (Sync done) first is
    (λ image now. sync_comes (file_state old) done image (between_now old.first.items old.calls.items) now)

-- after a sync that was done the one image is what a read gives
pub sync_durable : (file : TornFile) (old : State) (fails : Bool) → fails ≡ false → file_state file ≡ after_sync old (not fails) → IsDurable (Some (file_state file).seen) (file_images file (file_moment file))
sync_durable file old fails works is =
    let e : file_state file ≡ start old.seen = is ∙ ap (λ b. after_sync old (not b)) works in
    let whole : state_after file.first.items file.calls.items (length file.calls.items) ≡ start old.seen = ap (replay (start file.first.items)) (take_all (length file.calls.items) file.calls.items (omega arith)) ∙ e in
    λ image now.
    let alone : image ≡ old.seen = only_start old.seen image (subst (λ s. IsImage s image) whole now) in
    ap Some (ap (λ (s : State). s.seen) e ∙ sym alone)

-- what a call does to the disk's file it does to the disk
pub disk_goes : (step : List ℕ → List ℕ → Type 0) (old new : MemDisk) (file : TornFile) → new.file ≡ file → Goes file_moment file_images step old.file file → Goes moment_of images_of step old new
disk_goes step old new file is goes =
    goes_within (λ (d : MemDisk). d.file) file_moment file_images step old new (subst (λ (f : TornFile). Goes file_moment file_images step old.file f) (sym is) goes)
