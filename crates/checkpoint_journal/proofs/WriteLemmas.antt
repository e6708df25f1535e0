-- What a write or a cut leaves of a journal's file.
use Rattle.std.proofs.Common.{◌≡◌, ◌≢◌, ◌⊎◌, ⊎_elim, ◌∙◌, ℕ, ◌+◌, ◌-◌, ◌<◌, ◌≤◌, true, List, [], ◌∷◌, ◌++◌, length, get_or, take, drop, replicate, refl, sym, ap, arith, take-append-drop, length-append, append_assoc}
use Rattle.std.proofs.lemmas.List.{take_at, drop_at, take_more, take_all, drop_all, append-nil, length-take, length-drop, get_or-take, get_or-drop, drop_more}
use Rattle.std.proofs.lemmas.Grind.{same_number_lists}
use Rattle.std.proofs.lemmas.Bool.Decides.{nat_tests}
use Rattle.dev_traits.specs.Images.{put_at, Torn, Shorn}
use Rattle.journal_image.specs.Image.{is_blank}
use Rattle.checkpoint_journal.specs.Runs.{KeepsFront, KeepsBlank, IsClosedHead, put_over}

pub blank_short : (image : List ℕ) → length image ≤ 1 → is_blank image ≡ true
blank_short image short = grind (arith, nat_tests)

pub blank_closed : (image : List ℕ) → get_or image 0 0 ≢ 1 → is_blank image ≡ true
blank_closed image shut = grind (arith, nat_tests)

pub blank_means : (v : List ℕ) → is_blank v ≡ true → 1 < length v → get_or v 0 0 ≢ 1
blank_means v blank long = grind (arith, nat_tests)

short_or_long : (v : List ℕ) → (length v ≤ 1) ⊎ (1 < length v)
short_or_long v = grind arith

one_or_not : (x : ℕ) → (x ≡ 1) ⊎ (x ≢ 1)
one_or_not x = grind arith

-- a write over the head gate of a file of one byte at most
pub blank_torn : (e : ℕ) (v image : List ℕ) → length v ≤ 1 → e ≤ 1 → Torn 0 e v image → is_blank image ≡ true
blank_torn e v image short end torn = blank_short image (omega (arith, torn.no_longer))

-- a cut to the head gate
pub blank_shorn : (v image : List ℕ) → Shorn 1 v image → KeepsBlank v image
blank_shorn v image shorn blank = ⊎_elim
    (λ (short : length image ≤ 1). blank_short image short)
    (λ (long : 1 < length image).
    let same = shorn.front 0 (omega arith) (omega arith) in
    let shut = blank_means v blank (omega (arith, shorn.no_longer)) in
    blank_closed image (λ one. shut (sym same ∙ one)))
    (short_or_long image)

pub blank_joined : (u v w : List ℕ) → KeepsBlank u v → KeepsBlank v w → KeepsBlank u w
blank_joined u v w first second blank = second (first blank)

pub front_joined : (n : ℕ) (u v w : List ℕ) → KeepsFront n u v → KeepsFront n v w → KeepsFront n u w
front_joined n u v w first second inside =
    let a = first inside in
    let b = second a.0 in
    (b.0, b.1 ∙ a.1)

pub front_same_one : (n : ℕ) (v : List ℕ) → KeepsFront n v v
front_same_one n v inside = (inside, refl)

-- a write behind the front
pub front_torn : (n a e : ℕ) → n ≤ a → (v image : List ℕ) → Torn a e v image → KeepsFront n v image
front_torn n a e below v image torn inside = (
  omega (arith, torn.no_shorter),
  same_number_lists (take n image) (take n v) (omega (arith, length-take n image, length-take n v, torn.no_shorter)) (λ i lt.
      let in_n : i < n = omega (arith, length-take n image) in
      get_or-take n image i 0 in_n ∙ torn.before i (omega arith) (omega arith) ∙ sym (get_or-take n v i 0 in_n)),
)

-- what stands in the front
pub front_at : (n i : ℕ) (v image : List ℕ) → i < n → take n image ≡ take n v → get_or image i 0 ≡ get_or v i 0
front_at n i v image below same = sym (get_or-take n image i 0 below) ∙ ap (λ (l : List ℕ). get_or l i 0) same ∙ get_or-take n v i 0 below

-- a closed head gate stays closed
pub closed_front : (v image : List ℕ) → 1 ≤ length v → get_or v 0 0 ≢ 1 → KeepsFront 1 v image → (1 ≤ length image) × (get_or image 0 0 ≢ 1)
closed_front v image some shut keeps =
    let k = keeps some in
    (k.0, λ one. shut (sym (front_at 1 0 v image (omega arith) k.1) ∙ one))

pub put_at-inside : (at : ℕ) (bytes old : List ℕ) → at ≤ length old → put_at at bytes old ≡ take at old ++ (bytes ++ drop (at + length bytes) old)
put_at-inside at bytes old inside =
    let none : at - length old ≡ 0 = omega arith in
    ap (λ n. take at old ++ replicate n 0 ++ bytes ++ drop (at + length bytes) old) none
    ∙ ap (λ (l : List ℕ). l ++ bytes ++ drop (at + length bytes) old) (append-nil (take at old))
    ∙ append_assoc (take at old) bytes (drop (at + length bytes) old)

pub torn_joined : (a e : ℕ) (u v w : List ℕ) → Torn a e u v → Torn a e v w → Torn a e u w
torn_joined a e u v w first second = record {
  before = λ i inside below. second.before i (omega (arith, first.no_shorter)) below ∙ first.before i inside below;
  behind = λ i inside above. second.behind i (omega (arith, first.no_shorter)) above ∙ first.behind i inside above;
  no_shorter = omega (arith, first.no_shorter, second.no_shorter);
  no_longer = omega (arith, first.no_longer, second.no_longer);
}

-- only the byte at one place may differ
pub torn_byte : (a : ℕ) (v image : List ℕ) → a < length v → Torn a (a + 1) v image → image ≡ take a v ++ get_or image a 0 ∷ drop (a + 1) v
torn_byte a v image inside torn =
    let long : length image ≡ length v = omega (arith, torn.no_shorter, torn.no_longer) in
    let ahead : take a image ≡ take a v = (front_torn a a (a + 1) (omega arith) v image torn (omega arith)).1 in
    let back : drop (a + 1) image ≡ drop (a + 1) v = same_number_lists (drop (a + 1) image) (drop (a + 1) v) (omega (arith, length-drop (a + 1) image, length-drop (a + 1) v, long)) (λ i lt.
    let in_v : a + 1 + i < length v = omega (arith, length-drop (a + 1) image, long) in
    get_or-drop (a + 1) image i 0 ∙ torn.behind (a + 1 + i) in_v (omega arith) ∙ sym (get_or-drop (a + 1) v i 0)) in
    sym (take-append-drop a image) ∙ ap (λ (l : List ℕ). l ++ drop a image) ahead ∙ ap (λ (l : List ℕ). take a v ++ l) (drop_more image a 0 (omega arith) ∙ ap (λ (l : List ℕ). get_or image a 0 ∷ l) back)

-- the identity and the closed gate behind a closed head gate
pub staged_identity : (id v : List ℕ) → IsClosedHead v → put_at (1 + length id) (0 ∷ []) (put_at 1 id v) ≡ get_or v 0 0 ∷ (id ++ 0 ∷ [])
staged_identity id [] closed = let no = closed.alone in absurd (omega arith)
staged_identity id (b ∷ []) closed =
    let size : length (b ∷ id) ≡ 1 + length id = omega arith in
    let past : drop (1 + length id) (b ∷ []) ≡ [] = drop_all (1 + length id) (b ∷ []) (omega arith) in
    let first : put_at 1 id (b ∷ []) ≡ b ∷ id = put_at-inside 1 id (b ∷ []) (omega arith) ∙ ap (λ (l : List ℕ). b ∷ (id ++ l)) past ∙ ap (λ (l : List ℕ). b ∷ l) (append-nil id) in
    let all : take (1 + length id) (b ∷ id) ≡ b ∷ id = take_all (1 + length id) (b ∷ id) (omega arith) in
    let rest : drop (1 + length id + 1) (b ∷ id) ≡ [] = drop_all (1 + length id + 1) (b ∷ id) (omega arith) in
    ap (put_at (1 + length id) (0 ∷ [])) first ∙ put_at-inside (1 + length id) (0 ∷ []) (b ∷ id) (omega arith) ∙ ap (λ (l : List ℕ). l ++ (0 ∷ drop (1 + length id + 1) (b ∷ id))) all ∙ ap (λ (l : List ℕ). b ∷ (id ++ 0 ∷ l)) rest
staged_identity id (b ∷ c ∷ v) closed = let no = closed.alone in absurd (omega arith)

-- and the gate opened
pub opened_identity : (id v : List ℕ) (b : ℕ) → v ≡ b ∷ (id ++ 0 ∷ []) → put_at 0 (1 ∷ []) v ≡ 1 ∷ (id ++ 0 ∷ [])
opened_identity id v b is = put_at-inside 0 (1 ∷ []) v (omega arith) ∙ ap (λ (l : List ℕ). 1 ∷ drop 1 l) is

-- images that come from a closed head gate by writes behind it
pub blank_closed_front : (u v image : List ℕ) → IsClosedHead u → KeepsFront 1 u v → KeepsFront 1 v image → (is_blank v ≡ true) × (is_blank image ≡ true)
blank_closed_front u v image closed first second =
    let a = closed_front u v (omega (arith, closed.alone)) closed.closed first in
    let b = closed_front v image a.0 a.1 second in
    (blank_closed v a.1, blank_closed image b.1)

-- bytes written behind a gate
pub over_gate : (gate : ℕ) (bytes u : List ℕ) → gate < length u → put_over (gate + 1) bytes u ≡ take gate u ++ (get_or u gate 0 ∷ (bytes ++ drop (gate + 1 + length bytes) u))
over_gate gate bytes u inside =
    let cut : take (gate + 1) u ≡ take gate u ++ get_or u gate 0 ∷ [] = take_more u gate 0 inside in
    ap (λ (l : List ℕ). l ++ (bytes ++ drop (gate + 1 + length bytes) u)) cut ∙ append_assoc (take gate u) (get_or u gate 0 ∷ []) (bytes ++ drop (gate + 1 + length bytes) u)

-- one byte of an image, written over
pub put_byte : (gate x y : ℕ) (front tail : List ℕ) → length front ≡ gate → put_at gate (y ∷ []) (front ++ x ∷ tail) ≡ front ++ y ∷ tail
put_byte gate x y front tail size =
    let inside : gate ≤ length (front ++ x ∷ tail) = omega (arith, length-append front (x ∷ tail)) in
    let one : length (front ++ x ∷ []) ≡ gate + 1 = omega (arith, length-append front (x ∷ [])) in
    put_at-inside gate (y ∷ []) (front ++ x ∷ tail) inside
    ∙ ap (λ (l : List ℕ). l ++ (y ∷ drop (gate + 1) (front ++ x ∷ tail))) (take_at front (x ∷ tail) gate size)
    ∙ ap (λ (l : List ℕ). front ++ y ∷ l) (ap (drop (gate + 1)) (sym (append_assoc front (x ∷ []) tail)) ∙ drop_at (front ++ x ∷ []) tail (gate + 1) one)
