-- The frames of one more thread.
use Rattle.std.proofs.Common.{◌≡◌, refl, sym, ap, subst, ℕ, ◌+◌, ◌<◌, List, [], ◌∷◌, ◌++◌, length, get_or, Option, Vec, Global, below_more, arith}
use Rattle.std.proofs.lemmas.List.{length-append, get_or_append_left, get_or_push}
use Rattle.frame_index.specs.Recording.{Shelved}
use Rattle.station_stream.specs.declared.part.StationPart.{StationPart}
use Rattle.station_stream.specs.declared.sweep.Sweep.{Sweep}
use Rattle.station_stream.specs.declared.thread_frames.ThreadFrames.{ThreadFrames}
use Rattle.station_stream.specs.declared.threads.Threads.{Threads}
use Rattle.station_stream.specs.Threads.{AreFramesOf, AreThreads}

-- the frames at each place, told by their list
abbrev AreAll : Option Shelved → StationPart → Sweep → List ℕ → List ThreadFrames → ℕ → Type 0
AreAll told part s numbers frames i = (d : ThreadFrames) → AreFramesOf told part s.first s.last (get_or numbers i 0) (get_or frames i d)

AreAll-push : (told : Option Shelved) (part : StationPart) (s : Sweep) (numbers : List ℕ) (frames : List ThreadFrames) (number : ℕ) (f : ThreadFrames)
    → length numbers ≡ length frames
    → ((i : ℕ) → i < length frames → AreAll told part s numbers frames i)
    → AreFramesOf told part s.first s.last number f
    → (i : ℕ) → i < length frames + 1 → AreAll told part s (numbers ++ number ∷ []) (frames ++ f ∷ []) i
AreAll-push told part s numbers frames number f each old new =
    below_more (AreAll told part s (numbers ++ number ∷ []) (frames ++ f ∷ [])) (length frames)
    (λ i h d. subst (λ (n : ℕ). AreFramesOf told part s.first s.last n (get_or (frames ++ f ∷ []) i d)) (sym (get_or_append_left numbers (number ∷ []) 0 i (omega (arith, each, h))))
    (subst (AreFramesOf told part s.first s.last (get_or numbers i 0)) (sym (get_or_append_left frames (f ∷ []) d i h)) (old i h d)))
    (λ d. subst (λ (n : ℕ). AreFramesOf told part s.first s.last n (get_or (frames ++ f ∷ []) (length frames) d)) (sym (get_or_push numbers number 0 (length frames) each))
    (subst (AreFramesOf told part s.first s.last number) (sym (get_or_push frames f d (length frames) refl)) new))

pub AreThreads-push : (told : Option Shelved) (part : StationPart) (t : Threads) (number : ℕ) (f : ThreadFrames) (numbers : Vec ℕ Global) (frames : Vec ThreadFrames Global)
    → AreThreads told part t → numbers.items ≡ t.numbers.items ++ number ∷ [] → frames.items ≡ t.frames.items ++ f ∷ []
    → AreFramesOf told part t.sweep.first t.sweep.last number f
    → AreThreads told part (record { sweep = t.sweep; numbers = numbers; frames = frames })
AreThreads-push told part t number f numbers frames are numbers_is frames_is new = record {
  each = omega (arith, are.each, ap length numbers_is, ap length frames_is, length-append t.numbers.items (number ∷ []), length-append t.frames.items (f ∷ []));
  frames = λ i d h.
      rw (numbers_is, frames_is)
      (AreAll-push told part t.sweep t.numbers.items t.frames.items number f are.each (λ k below e. are.frames k e below) new i
      (omega (arith, h, ap length frames_is, length-append t.frames.items (f ∷ []))) d);
}
