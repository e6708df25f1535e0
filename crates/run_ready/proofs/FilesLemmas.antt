-- Files on a shelf by their sizes, and by the bytes under their names.
use Rattle.std.proofs.Common.{◌≡◌, ◌∙◌, ◌≤◌, ◌<◌, ◌+◌, ◌/◌, ◌^◌, ℕ, zero, suc, List, [], ◌∷◌, ◌++◌, length, get_or, take, map, Option, None, Some, refl, sym, ap, ap₂, subst, arith}
use Rattle.std.specs.Prelude.{sum_by, slice_get, option_map}
use Rattle.std.specs.List.{All, AllZip}
use Rattle.std.specs.Option.{MatchOption, IsSomeAnd}
use Rattle.std.proofs.lemmas.List.{take_more, map-append}
use Rattle.std.proofs.lemmas.List.Elements.{All-tail, All-append, All-cons}
use Rattle.std.proofs.lemmas.List.Sums.{sum_by_more_le, sum_by-cons}
use Rattle.std.proofs.lemmas.Slice.Zip.{AllZip-left, AllZip-long, all_zipped_more}
use Rattle.dev_traits.specs.Files.{size_of, bytes_of}
use Rattle.dev_traits.specs.Told.{WhereTold}
use Rattle.shelf_stretch.specs.Stretch.{stretch}
use Rattle.shelf_stretch.proofs.StretchLemmas.{stretch-whole}
use Rattle.corr_model.specs.Files.{Files, bytes_under}
use Rattle.corr_model.specs.Slots.{slots_of}
use Rattle.vdif_frame.specs.declared.shape.Field.{Field}
use Rattle.frame_index.specs.declared.recording.FileRef.{FileRef}
use Rattle.frame_index.specs.Foreign.{foreign_field}
use Rattle.frame_index.specs.Recording.{IsOnShelf, AreOnShelf, bytes_on}
use Rattle.job_plan.specs.declared.plan.StationPlan.{StationPlan}
use Rattle.station_stream.specs.declared.recording.Recording.{Recording}
use Rattle.station_stream.specs.Part.{IsNamedBy, IsRecordingOf}
use Rattle.run_notes.specs.Answers.{recording_answer}
use Rattle.run_ready.specs.declared.recordings.StationFiles.{StationFiles}
use Rattle.run_ready.specs.Recordings.{slot_count, slot_total, foreign_answer}
use Rattle.station_stream.specs.Recorded.{AreNamed, AreRecorded}
use Rattle.run_ready.specs.Sizes.{IsSizedBy, AreShelved, slots_together}
use Rattle.run_ready.proofs.ToldLemmas.{WhereTold-then}

-- the bytes of the files are those under their names
bytes_on-names : (files : Files) (fs : List FileRef) → bytes_on files fs ≡ map (bytes_under files) (map (λ (f : FileRef). f.name) fs)
bytes_on-names files [] = refl
bytes_on-names files (f ∷ fs) = ap₂ (λ (b : List ℕ) (bs : List (List ℕ)). b ∷ bs) (by (files f.name)) (bytes_on-names files fs)
  where
    by : (o : Option (List ℕ)) → bytes_of o ≡ bytes_under (λ _. o) []
    by None = refl
    by (Some bytes) = refl

-- what is foreign among a station's files is so among what stands under its names
pub foreign_answer-sized : (files : Files) (s : StationPlan) (fs : List FileRef) (v : Option Field) → map (λ (f : FileRef). f.name) fs ≡ s.files
    → foreign_field s.shape (slots_of s.shape.frame_bytes (bytes_on files fs)) ≡ v
    → foreign_answer files s ≡ option_map (recording_answer s.key) v
foreign_answer-sized files s fs v names is =
    ap (λ (bytes : List (List ℕ)). option_map (recording_answer s.key) (foreign_field s.shape (slots_of s.shape.frame_bytes bytes)))
    (ap (map (bytes_under files)) (sym names) ∙ sym (bytes_on-names files fs))
    ∙ ap (option_map (recording_answer s.key)) is

-- a file's size is the length of what stands under its name
pub length-shelved : (files : Files) (f : FileRef) → IsOnShelf files f → length (bytes_under files f.name) ≡ f.size
length-shelved files f is = by (files f.name) is.size
  where
    by : (o : Option (List ℕ)) → size_of o ≡ Some f.size → length (bytes_under (λ _. o) []) ≡ f.size
    by None there = absurd cc
    by (Some bytes) there = cc

-- so the slots by the sizes are those by the bytes
slots-shelved : (files : Files) (size : ℕ) (fs : List FileRef) → AreOnShelf fs files
    → sum_by (λ (f : FileRef). f.size / size) fs ≡ sum_by (λ name. length (bytes_under files name) / size) (map (λ (f : FileRef). f.name) fs)
slots-shelved files size [] are = refl
slots-shelved files size (f ∷ fs) are =
    sum_by-cons (λ (f : FileRef). f.size / size) f fs
    ∙ ap₂ (λ m n. m + n)
    (ap (λ n. n / size) (sym (length-shelved files f (are 0 f (omega arith)))))
    (slots-shelved files size fs (All-tail (IsOnShelf files) f fs are))
    ∙ sym (sum_by-cons (λ name. length (bytes_under files name) / size) f.name (map (λ (g : FileRef). g.name) fs))

slot_count-sized : (files : Files) (s : StationPlan) (z : StationFiles) → IsSizedBy s z → AreOnShelf z.files files → z.slots ≡ slot_count files s
slot_count-sized files s z is are =
    is.slots ∙ slots-shelved files s.shape.frame_bytes z.files are
    ∙ ap (sum_by (λ name. length (bytes_under files name) / s.shape.frame_bytes)) is.names

-- the slots of all stations
pub slot_total-sized : (files : Files) (stations : List StationPlan) (sized : List StationFiles) → AllZip IsSizedBy stations sized → AreShelved sized files
    → slots_together sized ≡ slot_total files stations
slot_total-sized files [] [] all are = refl
slot_total-sized files (s ∷ stations) (z ∷ sized) all are =
    sum_by-cons (λ (z : StationFiles). z.slots) z sized
    ∙ ap₂ (λ m n. m + n)
    (slot_count-sized files s z all.0 (are 0 z (omega arith)))
    (slot_total-sized files stations sized all.1 (All-tail (λ (y : StationFiles). AreOnShelf y.files files) z sized are))
    ∙ sym (sum_by-cons (slot_count files) s stations)
slot_total-sized files stations sized all are = absurd all

-- each station has less than 2^96 of them
pub bound-sized : (stations : List StationPlan) (sized : List StationFiles) → AllZip IsSizedBy stations sized → All (λ (z : StationFiles). z.slots < 2 ^ 96) sized
bound-sized stations sized all k d inside =
    by stations sized all k d inside
  where
    by : (stations : List StationPlan) (sized : List StationFiles) → AllZip IsSizedBy stations sized → (k : ℕ) (d : StationFiles) → k < length sized → (get_or sized k d).slots < 2 ^ 96
    by stations [] all k d inside = absurd (omega arith)
    by [] (z ∷ sized) all k d inside = absurd all
    by (s ∷ stations) (z ∷ sized) all zero d inside = all.0.bound
    by (s ∷ stations) (z ∷ sized) all (suc k) d inside = by stations sized all.1 k d (omega arith)

-- and no more than all together
pub few-together : (sized : List StationFiles) → slots_together sized ≤ 2 ^ 26 → All (λ (z : StationFiles). z.slots ≤ 2 ^ 26) sized
few-together sized few k d inside = omega (arith, sum_by_more_le (λ (z : StationFiles). z.slots) sized k d inside)

-- one more item
pub All-more : {A : Type 0} (P : A → Type 0) (xs : List A) (x : A) → All P xs → P x → All P (xs ++ x ∷ [])
All-more P xs x all here = All-append P xs (x ∷ []) all (All-cons P x [] here (λ k d inside. absurd (omega arith)))

-- the same where the files are told
pub told-more : {A : Type 0} {told later : Option Files} (P : Files → A → Type 0) (xs : List A) {ys : List A} (x : A) → ys ≡ xs ++ x ∷ [] → later ≡ told
    → WhereTold told (λ files. All (P files) xs) → WhereTold later (λ files. P files x) → WhereTold told (λ files. All (P files) ys)
told-more {A} {told} {later} P xs {ys} x more same all here =
    WhereTold-then told later _ _ _ (λ files are is. subst (All (P files)) (sym more) (All-more (P files) xs x are is)) same all here

-- one more name
pub names-more : (fs : List FileRef) (f : FileRef) (names : List (List ℕ)) (i : ℕ) (x : List ℕ)
    → i < length names → x ≡ get_or names i x → map (λ (g : FileRef). g.name) fs ≡ take i names → f.name ≡ x
    → map (λ (g : FileRef). g.name) (fs ++ f ∷ []) ≡ take (i + 1) names
names-more fs f names i x inside at so_far here =
    map-append (λ (g : FileRef). g.name) fs (f ∷ [])
    ∙ ap₂ (λ (a : List (List ℕ)) (b : List ℕ). a ++ b ∷ []) so_far (here ∙ at)
    ∙ sym (take_more names i x inside)

-- one more pair
pub AllZip-take : {A B : Type 0} (R : A → B → Type 0) (xs : List A) (ys : List B) (i : ℕ) (x : A) (y : B)
    → i < length xs → x ≡ get_or xs i x → AllZip R (take i xs) ys → R x y → AllZip R (take (i + 1) xs) (ys ++ y ∷ [])
AllZip-take {A} R xs ys i x y inside at all here =
    let same : take i xs ++ x ∷ [] ≡ take (i + 1) xs = ap (λ (w : A). take i xs ++ w ∷ []) at ∙ sym (take_more xs i x inside) in
    let P : List A → Type 0 = λ zs. AllZip R zs (ys ++ y ∷ []) in
    subst P same (all_zipped_more R (take i xs) ys x y all here)

-- the pair at a place
pub AllZip-at : {A B : Type 0} (R : A → B → Type 0) (xs : List A) (ys : List B) (i : ℕ) (x : A) (y : B)
    → AllZip R xs ys → slice_get xs i ≡ Some x → slice_get ys i ≡ Some y → R x y
AllZip-at {A} {B} R xs ys i x y all at there =
    let P : Option A → Type 0 = λ o. MatchOption o (Unit {0}) (λ w. IsSomeAnd (slice_get ys i) (R w)) in
    let Q : Option B → Type 0 = λ o. IsSomeAnd o (R x) in
    subst Q there (subst P at (AllZip-left R xs ys all i))

pub AreNamed-zip : (stations : List StationPlan) (list : List Recording) → AllZip IsNamedBy stations list → AreNamed stations list
AreNamed-zip stations list all = record {
  each = AllZip-long IsNamedBy stations list all;
  named = λ i s r at there. AllZip-at IsNamedBy stations list i s r all at there;
}

pub AreRecorded-zip : (files : Files) (stations : List StationPlan) (list : List Recording) → AllZip (IsRecordingOf files) stations list → AreRecorded files stations list
AreRecorded-zip files stations list all i s r at there = AllZip-at (IsRecordingOf files) stations list i s r all at there

-- a stretch of a file's length from its first byte on is the file
file-stretch : (file : Option (List ℕ)) (size : ℕ) (read : List ℕ) → read ≡ stretch 0 size (bytes_of file) → size_of file ≡ Some size → file ≡ Some read
file-stretch None size read is e = cc
file-stretch (Some bytes) size read is e =
    let long : length bytes ≡ size = cc in
    ap (λ (l : List ℕ). Some l) (sym (is ∙ ap (λ (n : ℕ). stretch 0 n bytes) (sym long) ∙ stretch-whole bytes))

pub read_file : (told : Option Files) (name : List ℕ) (n size : ℕ) (read : List ℕ) → n ≡ size
    → WhereTold told (λ files. read ≡ stretch 0 n (bytes_of (files name)))
    → WhereTold told (λ files. size_of (files name) ≡ Some size → files name ≡ Some read)
read_file None name n size read same is = tt
read_file (Some files) name n size read same is = λ e.
    file-stretch (files name) size read (is ∙ ap (λ (m : ℕ). stretch 0 m (bytes_of (files name))) same) e
