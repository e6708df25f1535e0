-- The record of calls, one call on.
use Rattle.std.proofs.Common.{◌≡◌, ◌<◌, ◌≤◌, ◌⊎◌, ℕ, ◌+◌, List, [], ◌∷◌, ◌++◌, length, get_or, true, false, take, refl, arith, subst, sym, ap, ◌∙◌, ⊎_elim, length-append}
use Rattle.std.proofs.lemmas.List.{take-append-le, take_all, take_more}
use Rattle.dev_traits.specs.Moments.{Goes}
use Rattle.mem_devices.specs.MemDiskState.{State, start, IsImage}
use Rattle.mem_devices.specs.MemDiskRecord.{after, replay, torn_next, call_end}
use Rattle.mem_devices.specs.declared.mem_disk.torn_file.Call.{Call}
use Rattle.mem_devices.specs.declared.mem_disk.torn_file.Call.TheVariants.{Write, Cut, Sync}

le_or_lt : (m n : ℕ) → (m ≤ n) ⊎ (n < m)
le_or_lt m n = grind arith

pub replay_push : (s : State) (calls : List Call) (call : Call) → replay s (calls ++ call ∷ []) ≡ after (replay s calls) call
replay_push s [] call = refl
replay_push s (c ∷ calls) call = replay_push (after s c) calls call

pub take_whole : (k : ℕ) (calls : List Call) (call : Call) → length calls < k → take k (calls ++ call ∷ []) ≡ calls ++ call ∷ []
take_whole k calls call more = take_all k (calls ++ call ∷ []) (omega (arith, length-append calls (call ∷ [])))

pub bounded_push : (s : State) (calls : List Call) (call : Call) (bound : ℕ) → ((k : ℕ) → (replay s (take k calls)).most < bound) → (after (replay s calls) call).most < bound → (k : ℕ) → (replay s (take k (calls ++ call ∷ []))).most < bound
bounded_push s calls call bound each last k =
    let P : State → Type 0 = λ r. r.most < bound in
    ⊎_elim
    (λ (le : k ≤ length calls). subst (λ l. P (replay s l)) (sym (take-append-le k calls (call ∷ []) le)) (each k))
    (λ (lt : length calls < k). subst (λ l. P (replay s l)) (sym (take_whole k calls call lt)) (subst P (sym (replay_push s calls call)) last))
    (le_or_lt k (length calls))

-- the moments after one more call, of any disk that keeps such a record
module _ {D : Type 0} (first : D → List ℕ) (calls : D → List Call) where
  abbrev pub moment_of : D → ℕ
  moment_of d = length (calls d)

  abbrev pub images_of : D → ℕ → List ℕ → Type 0
  images_of d t image = IsImage (replay (start (first d)) (take t (calls d))) image

  pub pushed : (step : List ℕ → List ℕ → Type 0) (old new : D) (call : Call) → first new ≡ first old → calls new ≡ calls old ++ call ∷ []
      → ((image : List ℕ) → IsImage (after (replay (start (first old)) (calls old)) call) image → (v : List ℕ) × IsImage (replay (start (first old)) (calls old)) v × step v image)
      → Goes moment_of images_of step old new
  pushed step old new call same is comes =
      let longer : length (calls new) ≡ length (calls old) + 1 = omega (arith, ap length is, length-append (calls old) (call ∷ [])) in
      let early : (t : ℕ) → t ≤ length (calls old) → replay (start (first new)) (take t (calls new)) ≡ replay (start (first old)) (take t (calls old)) =
      λ t le. ap (λ f. replay (start f) (take t (calls new))) same ∙ ap (λ l. replay (start (first old)) l) (ap (take t) is ∙ take-append-le t (calls old) (call ∷ []) le) in
      let late : (t : ℕ) → length (calls old) < t → replay (start (first new)) (take t (calls new)) ≡ after (replay (start (first old)) (calls old)) call =
      λ t lt. ap (λ f. replay (start f) (take t (calls new))) same ∙ ap (λ l. replay (start (first old)) l) (ap (take t) is ∙ take_whole t (calls old) call lt) ∙ replay_push (start (first old)) (calls old) call in
      let whole : replay (start (first old)) (take (length (calls old)) (calls old)) ≡ replay (start (first old)) (calls old) =
      ap (λ l. replay (start (first old)) l) (take_all (length (calls old)) (calls old) (omega arith)) in
      record {
        later = omega (arith, longer);
        past = λ t image le now. subst (λ s. IsImage s image) (early t le) now;
        kept = λ t image le before. subst (λ s. IsImage s image) (sym (early t le)) before;
        narrows = λ t t' image more up at_most now. let e : t' ≡ t = omega (arith, longer, more, up, at_most) in subst (λ q. IsImage (replay (start (first new)) (take q (calls new))) image) e now;
        each = λ t image more at_most now.
            let from = comes image (subst (λ s. IsImage s image) (late t more) now) in
            (from.0, subst (λ s. IsImage s from.0) (sym whole) from.1, from.2);
      }

-- the fields follow the record
pub record Follows (first : List ℕ) (calls : List Call) (bytes : List ℕ) (least most : ℕ) : Type 0 where
  pub reads : bytes ≡ (replay (start first) calls).seen
  pub lengths : (least ≡ (replay (start first) calls).least) × (most ≡ (replay (start first) calls).most)
  pub bounded : (k : ℕ) → (replay (start first) (take k calls)).most < 9223372036854775808

pub follows_on : (first : List ℕ) (calls new : List Call) (call : Call) (bytes : List ℕ) (least most : ℕ) → ((k : ℕ) → (replay (start first) (take k calls)).most < 9223372036854775808) → new ≡ calls ++ call ∷ []
    → bytes ≡ (after (replay (start first) calls) call).seen → least ≡ (after (replay (start first) calls) call).least → most ≡ (after (replay (start first) calls) call).most → most < 9223372036854775808
    → Follows first new bytes least most
follows_on first calls new call bytes least most bounded is reads low high below =
    let e : replay (start first) (calls ++ call ∷ []) ≡ after (replay (start first) calls) call = replay_push (start first) calls call in
    let whole : Follows first (calls ++ call ∷ []) bytes least most = record {
      reads = reads ∙ ap (λ (s : State). s.seen) (sym e);
      lengths = (low ∙ ap (λ (s : State). s.least) (sym e), high ∙ ap (λ (s : State). s.most) (sym e));
      bounded = bounded_push (start first) calls call 9223372036854775808 bounded (subst (λ n. n < 9223372036854775808) high below);
    } in
    subst (λ l. Follows first l bytes least most) (sym is) whole

pub now_bounded : (first : List ℕ) (calls : List Call) → ((k : ℕ) → (replay (start first) (take k calls)).most < 9223372036854775808) → (replay (start first) calls).most < 9223372036854775808
now_bounded first calls bounded = subst (λ l. (replay (start first) l).most < 9223372036854775808) (take_all (length calls) calls (omega arith)) (bounded (length calls))

pub torn-after : (s : State) (call : Call) → (after s call).torn ≡ torn_next s.torn call
torn-after s (Write at bytes done) = refl
torn-after s (Cut len done) = refl
torn-after s (Sync true) = refl
torn-after s (Sync false) = refl

pub most-after : (s : State) (call : Call) → (after s call).most < 9223372036854775808 → call_end call < 9223372036854775808
most-after s (Write at bytes done) below = omega (arith, below)
most-after s (Cut len done) below = omega arith
most-after s (Sync done) below = omega arith

-- the record up to a call and with it
pub replay_more : (s : State) (calls : List Call) (i : ℕ) (d : Call) → i < length calls → replay s (take (i + 1) calls) ≡ after (replay s (take i calls)) (get_or calls i d)
replay_more s calls i d lt = ap (replay s) (take_more calls i d lt) ∙ replay_push s (take i calls) (get_or calls i d)
