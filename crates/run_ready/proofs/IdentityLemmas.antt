-- The identity of a job: its length, and the lengths of the recordings in it.
use Rattle.std.proofs.Common.{◌≡◌, ◌∙◌, ◌≤◌, ◌<◌, ◌+◌, ◌*◌, ◌^◌, ℕ, List, [], ◌∷◌, ◌++◌, length, get_or, take, map, Option, None, Some, refl, sym, ap, ap₂, arith}
use Rattle.std.specs.Prelude.{codes}
use Rattle.std.specs.List.{AllZip, flat_map}
use Rattle.std.proofs.lemmas.List.{length-append, length-map, map-append, append-nil, take_more}
use Rattle.std.proofs.lemmas.List.Concat.{flat_map-append}
use Rattle.std.proofs.lemmas.List.Elements.{All-tail}
use Rattle.byteorder.specs.Endian.{little_bytes}
use Rattle.dev_traits.specs.Told.{WhereTold}
use Rattle.corr_model.specs.Files.{Files, bytes_under}
use Rattle.frame_index.specs.declared.recording.FileRef.{FileRef}
use Rattle.frame_index.specs.Recording.{IsOnShelf, AreOnShelf}
use Rattle.job_plan.specs.declared.plan.StationPlan.{StationPlan}
use Rattle.checkpoint_journal.specs.Identity.{identity_of}
use Rattle.run_ready.specs.declared.recordings.StationFiles.{StationFiles}
use Rattle.run_ready.specs.Identities.{lengths_of, schedule_text}
use Rattle.run_ready.specs.Sizes.{IsSizedBy, AreShelved, sizes_in}
use Rattle.run_ready.proofs.FilesLemmas.{length-shelved}
use Rattle.run_ready.proofs.ToldLemmas.{WhereTold-moved}

-- one station more
pub sizes_in-more : (sized : List StationFiles) (i : ℕ) (d : StationFiles) → i < length sized
    → sizes_in (take i sized) ++ map (λ (f : FileRef). f.size) (get_or sized i d).files ≡ sizes_in (take (i + 1) sized)
sizes_in-more sized i d inside =
    let one : StationFiles → List ℕ = λ z. map (λ (f : FileRef). f.size) z.files in
    let next : StationFiles = get_or sized i d in
    sym
    (ap sizes_in (take_more sized i d inside) ∙ flat_map-append one (take i sized) (next ∷ [])
    ∙ ap (λ (ns : List ℕ). sizes_in (take i sized) ++ ns) (append-nil (one next)))

length-numbers : (xs : List ℕ) → length (flat_map (little_bytes 8) xs) ≡ 8 * length xs
length-numbers [] = refl
length-numbers (x ∷ xs) =
    let eight : length (little_bytes 8 x) ≡ 8 = refl in
    omega (arith, length-append (little_bytes 8 x) (flat_map (little_bytes 8) xs), eight, length-numbers xs)

-- the sizes are as many as the files, of which each station has less than 2^32
length-sizes_in : (stations : List StationPlan) (sized : List StationFiles) → AllZip IsSizedBy stations sized
    → length (sizes_in sized) ≤ 4294967296 * length stations
length-sizes_in [] [] all = omega arith
length-sizes_in [] (z ∷ sized) all = absurd all
length-sizes_in (s ∷ stations) [] all = absurd all
length-sizes_in (s ∷ stations) (z ∷ sized) all =
    omega (
      arith,
      length-append (map (λ (f : FileRef). f.size) z.files) (sizes_in sized),
      length-map z.files (λ (f : FileRef). f.size),
      all.0.few,
      length-sizes_in stations sized all.1,
    )

length-pieces : (a b c d e f g : List ℕ)
    → length (a ++ b ++ c ++ d ++ e ++ f ++ g) ≡ length a + length b + length c + length d + length e + length f + length g
length-pieces a b c d e f g =
    omega (
      arith,
      length-append a b,
      length-append (a ++ b) c,
      length-append (a ++ b ++ c) d,
      length-append (a ++ b ++ c ++ d) e,
      length-append (a ++ b ++ c ++ d ++ e) f,
      length-append (a ++ b ++ c ++ d ++ e ++ f) g,
    )

-- an identity is short where its texts are, and there are few stations
pub length-identity_of : (schedule job : List ℕ) (stations : List StationPlan) (sized : List StationFiles)
    → length schedule ≤ 8388608 → length job ≤ 4194304 → length stations ≤ 32 → AllZip IsSizedBy stations sized
    → length (identity_of schedule job (sizes_in sized)) < 2 ^ 61
length-identity_of schedule job stations sized short few_lines few all =
    let sizes : List ℕ = sizes_in sized in
    let whole =
    length-pieces (codes "VLBIJRN2") (little_bytes 8 (length schedule)) (little_bytes 8 (length job)) (little_bytes 8 (length sizes))
    (flat_map (little_bytes 8) sizes) schedule job in
    let mark : length (codes "VLBIJRN2") ≡ 8 = refl in
    let first : length (little_bytes 8 (length schedule)) ≡ 8 = refl in
    let second : length (little_bytes 8 (length job)) ≡ 8 = refl in
    let third : length (little_bytes 8 (length sizes)) ≡ 8 = refl in
    omega (arith, whole, mark, first, second, third, length-numbers sizes, length-sizes_in stations sized all, short, few_lines, few)

sizes-shelved : (files : Files) (fs : List FileRef) → AreOnShelf fs files
    → map (λ (f : FileRef). f.size) fs ≡ map (λ name. length (bytes_under files name)) (map (λ (f : FileRef). f.name) fs)
sizes-shelved files [] are = refl
sizes-shelved files (f ∷ fs) are =
    ap₂ (λ (n : ℕ) (ns : List ℕ). n ∷ ns) (sym (length-shelved files f (are 0 f (omega arith))))
    (sizes-shelved files fs (All-tail (IsOnShelf files) f fs are))

-- the sizes are the lengths of what stands under the files' names
pub sizes_in-shelved : (files : Files) (stations : List StationPlan) (sized : List StationFiles) → AllZip IsSizedBy stations sized → AreShelved sized files
    → sizes_in sized ≡ lengths_of files stations
sizes_in-shelved files [] [] all are = refl
sizes_in-shelved files (s ∷ stations) (z ∷ sized) all are =
    let count : List ℕ → ℕ = λ name. length (bytes_under files name) in
    ap₂ (λ (a b : List ℕ). a ++ b)
    (sizes-shelved files z.files (are 0 z (omega arith)) ∙ ap (map count) all.0.names)
    (sizes_in-shelved files stations sized all.1 (All-tail (λ (y : StationFiles). AreOnShelf y.files files) z sized are))
    ∙ sym (map-append count s.files (flat_map (λ (t : StationPlan). t.files) stations))
sizes_in-shelved files stations sized all are = absurd all

-- the bytes under a name at which a text stands
pub bytes_under-there : (files : Files) (name text : List ℕ) → files name ≡ Some text → bytes_under files name ≡ text
bytes_under-there files name text is = by (files name) is
  where
    by : (o : Option (List ℕ)) → o ≡ Some text → bytes_under (λ _. o) [] ≡ text
    by None there = absurd cc
    by (Some bytes) there = cc

-- the identity by the texts is that by what stands under their names
pub told-identity : (told later : Option Files) (job : List ℕ) (vex : Option (List ℕ)) (schedule text id : List ℕ) (stations : List StationPlan) → later ≡ told
    → WhereTold told (λ files. schedule ≡ schedule_text files vex) → WhereTold told (λ files. text ≡ bytes_under files job)
    → WhereTold later (λ files. id ≡ identity_of schedule text (lengths_of files stations))
    → WhereTold told (λ files. id ≡ identity_of (schedule_text files vex) (bytes_under files job) (lengths_of files stations))
told-identity told later job vex schedule text id stations moved scheduled written is =
    by told scheduled written (WhereTold-moved told later (λ files. id ≡ identity_of schedule text (lengths_of files stations)) moved is)
  where
    by : (t : Option Files) → WhereTold t (λ files. schedule ≡ schedule_text files vex) → WhereTold t (λ files. text ≡ bytes_under files job)
        → WhereTold t (λ files. id ≡ identity_of schedule text (lengths_of files stations))
        → WhereTold t (λ files. id ≡ identity_of (schedule_text files vex) (bytes_under files job) (lengths_of files stations))
    by None scheduled written is = tt
    by (Some files) scheduled written is = is ∙ ap₂ (λ (v j : List ℕ). identity_of v j (lengths_of files stations)) scheduled written
