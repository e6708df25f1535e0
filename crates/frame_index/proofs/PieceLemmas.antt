-- Slots that are met in pieces.
use Rattle.std.proofs.Common.{◌≡◌, ◌∙◌, refl, sym, ap, subst, ⊎_elim, ℕ, zero, suc, add-one, zero-add, get_or, Some, None, ◌+◌, ◌-◌, ◌*◌, ◌/◌, ◌≤◌, ◌<◌, min, List, [], ◌∷◌, ◌++◌, Option, length, take, drop, add-zero, arith}
use Rattle.std.proofs.lemmas.List.{append-nil, append_assoc, map-append, take-take, drop-take, drop-drop, length-take-le, take_all, take_more, length-take, length-map}
use Rattle.std.proofs.Math.Nat.{div-mul-le_self}
use Rattle.std.proofs.lemmas.Bool.{cases_lt}
use Rattle.std.proofs.lemmas.List.Sums.{sum_by_more}
use Rattle.std.proofs.lemmas.List.Elements.{All-get_or}
use Rattle.std.specs.Str.{IsUtf8}
use Rattle.std.proofs.lemmas.List.FromFn.{map-range_with_len_more}
use Rattle.std.proofs.lemmas.Nat.{mul-le}
use Rattle.dev_traits.specs.Files.{size_of, bytes_of}
use Rattle.dev_traits.specs.Told.{WhereTold}
use Rattle.vdif_frame.specs.Shape.{ShapeFields}
use Rattle.corr_model.specs.Slots.{Slot, slot_at, placed_slot, placed_in, placed_from}
use Rattle.frame_index.specs.declared.builder.Builder.{Builder}
use Rattle.frame_index.specs.declared.recording.FileRef.{FileRef}
use Rattle.frame_index.specs.declared.recording.Layout.{Layout}
use Rattle.frame_index.specs.Layouts.{IsLayoutOf}
use Rattle.frame_index.specs.Recording.{Shelved, IsOnShelf, AreOnShelf, bytes_on, slot_total}
use Rattle.frame_index.specs.Building.{Holds, Extends}
use Rattle.frame_index.proofs.ToldLemmas.{WhereTold-both}
use Rattle.frame_index.specs.Pieces.{placed_run, IsPieceOf}
use Rattle.shelf_stretch.specs.Stretch.{stretch}
use Rattle.shelf_stretch.proofs.StretchLemmas.{stretch-inside}

-- ---- builders that stand for more and more slots

pub Extends-none : (shape : ShapeFields) (b : Builder) → Extends shape b b []
Extends-none shape b = λ done holds. subst (λ (l : List Slot). Holds shape l b) (sym (append-nil done)) holds

pub Extends-on : (shape : ShapeFields) (a b c : Builder) (xs ys : List Slot) → Extends shape a b xs → Extends shape b c ys → Extends shape a c (xs ++ ys)
Extends-on shape a b c xs ys first second = λ done holds.
    subst (λ (l : List Slot). Holds shape l c) (append_assoc done xs ys) (second (done ++ xs) (first done holds))

-- the same slots, told otherwise
pub Extends-same : (shape : ShapeFields) (a b : Builder) (xs ys : List Slot) → xs ≡ ys → Extends shape a b xs → Extends shape a b ys
Extends-same shape a b xs ys e = subst (λ (l : List Slot). Extends shape a b l) e

-- ---- runs of slots

pub placed_run-more : (size file : ℕ) (bytes : List ℕ) (k n : ℕ) → placed_run size file bytes k n ++ placed_slot size file bytes (k + n) ∷ [] ≡ placed_run size file bytes k (n + 1)
placed_run-more size file bytes k n = sym (map-range_with_len_more (placed_slot size file bytes) k n (k + n) refl)

placed_from-append : (size file : ℕ) (xs ys : List (List ℕ)) → placed_from size file (xs ++ ys) ≡ placed_from size file xs ++ placed_from size (file + length xs) ys
placed_from-append size file [] ys = rw add-zero refl
placed_from-append size file (x ∷ xs) ys =
    let rest = placed_from-append size (file + 1) xs ys in
    let number : file + 1 + length xs ≡ file + length (x ∷ xs) = omega arith in
    ap (λ (l : List Slot). placed_in size file x ++ l) (rest ∙ ap (λ (n : ℕ). placed_from size (file + 1) xs ++ placed_from size n ys) number)
    ∙ sym (append_assoc (placed_in size file x) (placed_from size (file + 1) xs) (placed_from size (file + length (x ∷ xs)) ys))

-- ---- heads in a piece

take-both : (m n : ℕ) (l : List ℕ) → take m (take n l) ≡ take (min m n) l
take-both m n l =
    ⊎_elim
    (λ below. take-take m n l (omega arith) ∙ ap (λ (i : ℕ). take i l) (omega arith))
    (λ above. take_all m (take n l) (omega (arith, length-take n l)) ∙ ap (λ (i : ℕ). take i l) (omega arith))
    (cases_lt m n)

split_product : (k n size : ℕ) → 1 ≤ n → (k + n) * size ≡ k * size + ((n - 1) * size + size)
split_product k zero size some = absurd (omega arith)
split_product k (suc n) size some = grind arith

pub head_of_piece : (size head k n j : ℕ) (bytes heads : List ℕ) → 0 < size → head ≡ min 32 size → IsPieceOf size bytes k n heads
    → length heads ≡ (n - 1) * size + head → j < n
    → take 32 (slot_at size bytes (k + j)) ≡ take (j * size + head - j * size) (drop (j * size) heads)
head_of_piece size head k n j bytes heads some is_head piece long below =
    let before : j * size + head ≤ (n - 1) * size + head = omega (arith, mul-le j size (n - 1) size (omega arith) (omega arith)) in
    let rest : ℕ = length heads - j * size in
    let enough : head ≤ rest = omega arith in
    let parts : length heads ≡ j * size + rest = omega arith in
    let place : k * size + j * size ≡ (k + j) * size = grind arith in
    let width : j * size + head - j * size ≡ head = omega arith in
    let slot : take 32 (take size (drop ((k + j) * size) bytes)) ≡ take head (drop ((k + j) * size) bytes) =
    take-both 32 size (drop ((k + j) * size) bytes) ∙ ap (λ (m : ℕ). take m (drop ((k + j) * size) bytes)) (sym is_head) in
    let held : drop (j * size) heads ≡ take rest (drop ((k + j) * size) bytes) =
    ap (drop (j * size)) (piece.is ∙ ap (λ (m : ℕ). take m (drop (k * size) bytes)) parts)
    ∙ drop-take (j * size) rest (drop (k * size) bytes)
    ∙ ap (take rest) (drop-drop (j * size) (k * size) bytes ∙ ap (λ (m : ℕ). drop m bytes) place) in
    slot
    ∙ sym (take-take head rest (drop ((k + j) * size) bytes) enough)
    ∙ sym (ap (take head) held)
    ∙ ap (λ (m : ℕ). take m (drop (j * size) heads)) (sym width)

-- ---- a file's slots, head by head

pub heads-step : (shape : ShapeFields) (layout : Layout) (file k n j : ℕ) (heads : List ℕ) (a b c : Builder) → IsLayoutOf shape layout
    → length heads ≡ (n - 1) * layout.size + layout.head → j < n
    → ((bytes : List ℕ) → IsPieceOf shape.frame_bytes bytes k n heads → Extends shape a b (placed_run shape.frame_bytes file bytes k j))
    → ((bytes : List ℕ) → k + j < length bytes / shape.frame_bytes
    → take 32 (slot_at shape.frame_bytes bytes (k + j)) ≡ take (j * layout.size + layout.head - j * layout.size) (drop (j * layout.size) heads)
    → Extends shape b c (placed_slot shape.frame_bytes file bytes (k + j) ∷ []))
    → (bytes : List ℕ) → IsPieceOf shape.frame_bytes bytes k n heads → Extends shape a c (placed_run shape.frame_bytes file bytes k (j + 1))
heads-step shape layout file k n j heads a b c is long below so_far next bytes piece =
    let size : layout.size ≡ shape.frame_bytes = is.size in
    let long_here : length heads ≡ (n - 1) * shape.frame_bytes + layout.head = long ∙ ap (λ (m : ℕ). (n - 1) * m + layout.head) size in
    let some : 0 < shape.frame_bytes = rw (← size) is.some in
    let head : take 32 (slot_at shape.frame_bytes bytes (k + j)) ≡ take (j * layout.size + layout.head - j * layout.size) (drop (j * layout.size) heads) =
    head_of_piece shape.frame_bytes layout.head k n j bytes heads some is.head piece long_here below
    ∙ ap (λ (m : ℕ). take (j * m + layout.head - j * m) (drop (j * m) heads)) (sym size) in
    Extends-same shape a c (placed_run shape.frame_bytes file bytes k j ++ placed_slot shape.frame_bytes file bytes (k + j) ∷ []) (placed_run shape.frame_bytes file bytes k (j + 1))
    (placed_run-more shape.frame_bytes file bytes k j)
    (Extends-on shape a b c (placed_run shape.frame_bytes file bytes k j) (placed_slot shape.frame_bytes file bytes (k + j) ∷ [])
    (so_far bytes piece) (next bytes (omega (arith, piece.within)) head))

-- what was read is a piece of the file
pub IsPieceOf-read : (shape : ShapeFields) (layout : Layout) (k n : ℕ) (bytes old new : List ℕ) → IsLayoutOf shape layout → 1 ≤ n
    → length old ≡ (n - 1) * layout.size + layout.head → length new ≡ length old
    → new ≡ stretch (k * layout.size) (length old) bytes
    → k + n ≤ length bytes / shape.frame_bytes
    → IsPieceOf shape.frame_bytes bytes k n new
IsPieceOf-read shape layout k n bytes old new is some long same read within =
    let size : layout.size ≡ shape.frame_bytes = is.size in
    let all : (k + n) * layout.size ≤ length bytes =
    rw size (omega (arith, mul-le (k + n) shape.frame_bytes (length bytes / shape.frame_bytes) shape.frame_bytes within (omega arith), div-mul-le_self (length bytes) shape.frame_bytes)) in
    let parts : (k + n) * layout.size ≡ k * layout.size + ((n - 1) * layout.size + layout.size) = split_product k n layout.size some in
    let head : layout.head ≤ layout.size = omega (arith, is.head) in
    let inside : k * layout.size + length old ≤ length bytes = omega arith in
    record {
      within = within;
      is = read ∙ stretch-inside (k * layout.size) (length old) bytes inside ∙ ap (λ (m : ℕ). take m (drop (k * layout.size) bytes)) (sym same) ∙ ap (λ (m : ℕ). take (length new) (drop (k * m) bytes)) size;
    }

-- ---- a file's slots, piece by piece

run-append : (size file : ℕ) (bytes : List ℕ) (k n : ℕ)
    → placed_run size file bytes 0 k ++ placed_run size file bytes k n ≡ placed_run size file bytes 0 (k + n)
run-append size file bytes k zero = rw (append-nil, add-zero) refl
run-append size file bytes k (suc n) =
    let more : placed_run size file bytes k (suc n) ≡ placed_run size file bytes k n ++ placed_slot size file bytes (k + n) ∷ [] =
    ap (λ (m : ℕ). placed_run size file bytes k m) (sym (add-one n)) ∙ sym (placed_run-more size file bytes k n) in
    let all : placed_run size file bytes 0 (k + n) ++ placed_slot size file bytes (k + n) ∷ [] ≡ placed_run size file bytes 0 (k + suc n) =
    ap (λ (m : ℕ). placed_run size file bytes 0 (k + n) ++ placed_slot size file bytes m ∷ []) (sym (zero-add (k + n)))
    ∙ placed_run-more size file bytes 0 (k + n)
    ∙ ap (λ (m : ℕ). placed_run size file bytes 0 m) (omega arith) in
    ap (λ (l : List Slot). placed_run size file bytes 0 k ++ l) more
    ∙ sym (append_assoc (placed_run size file bytes 0 k) (placed_run size file bytes k n) (placed_slot size file bytes (k + n) ∷ []))
    ∙ ap (λ (l : List Slot). l ++ placed_slot size file bytes (k + n) ∷ []) (run-append size file bytes k n)
    ∙ all

pub file-step : (told now : Option Shelved) (shape : ShapeFields) (file count k n : ℕ) (name : List ℕ) (a b c : Builder) → now ≡ told → k + n ≤ count
    → WhereTold told (λ files. count ≡ length (bytes_of (files name)) / shape.frame_bytes → Extends shape a b (placed_run shape.frame_bytes file (bytes_of (files name)) 0 k))
    → WhereTold now (λ files. k + n ≤ length (bytes_of (files name)) / shape.frame_bytes → Extends shape b c (placed_run shape.frame_bytes file (bytes_of (files name)) k n))
    → WhereTold told (λ files. count ≡ length (bytes_of (files name)) / shape.frame_bytes → Extends shape a c (placed_run shape.frame_bytes file (bytes_of (files name)) 0 (k + n)))
file-step told now shape file count k n name a b c e within so_far next =
    WhereTold-both told
    (λ files. count ≡ length (bytes_of (files name)) / shape.frame_bytes → Extends shape a b (placed_run shape.frame_bytes file (bytes_of (files name)) 0 k))
    (λ files. k + n ≤ length (bytes_of (files name)) / shape.frame_bytes → Extends shape b c (placed_run shape.frame_bytes file (bytes_of (files name)) k n))
    (λ files. count ≡ length (bytes_of (files name)) / shape.frame_bytes → Extends shape a c (placed_run shape.frame_bytes file (bytes_of (files name)) 0 (k + n)))
    (λ files before piece slots.
    Extends-same shape a c (placed_run shape.frame_bytes file (bytes_of (files name)) 0 k ++ placed_run shape.frame_bytes file (bytes_of (files name)) k n) (placed_run shape.frame_bytes file (bytes_of (files name)) 0 (k + n))
    (run-append shape.frame_bytes file (bytes_of (files name)) k n)
    (Extends-on shape a b c (placed_run shape.frame_bytes file (bytes_of (files name)) 0 k) (placed_run shape.frame_bytes file (bytes_of (files name)) k n) (before slots) (piece (omega arith))))
    so_far
    (subst (λ (t : Option Shelved). WhereTold t (λ files. k + n ≤ length (bytes_of (files name)) / shape.frame_bytes → Extends shape b c (placed_run shape.frame_bytes file (bytes_of (files name)) k n))) e next)

-- ---- the slots of all files, file by file

size-bytes : (file : Option (List ℕ)) (n : ℕ) → size_of file ≡ Some n → length (bytes_of file) ≡ n
size-bytes None n e = cc
size-bytes (Some bytes) n e = cc

bytes_on-more : (shelf : Shelved) (files : List FileRef) (f : FileRef) (i : ℕ) → i < length files → f ≡ get_or files i f
    → bytes_on shelf (take (i + 1) files) ≡ bytes_on shelf (take i files) ++ bytes_of (shelf f.name) ∷ []
bytes_on-more shelf files f i h is =
    ap (bytes_on shelf) (take_more files i f h)
    ∙ map-append (λ (file : FileRef). bytes_of (shelf file.name)) (take i files) (get_or files i f ∷ [])
    ∙ ap (λ (file : FileRef). bytes_on shelf (take i files) ++ bytes_of (shelf file.name) ∷ []) (sym is)

placed_from-more : (size : ℕ) (shelf : Shelved) (files : List FileRef) (f : FileRef) (i : ℕ) → i < length files → f ≡ get_or files i f
    → placed_from size 0 (bytes_on shelf (take i files)) ++ placed_in size i (bytes_of (shelf f.name)) ≡ placed_from size 0 (bytes_on shelf (take (i + 1) files))
placed_from-more size shelf files f i h is =
    let number : 0 + length (bytes_on shelf (take i files)) ≡ i =
    omega (arith, length-map (take i files) (λ (file : FileRef). bytes_of (shelf file.name)), length-take-le i files (omega arith)) in
    sym (ap (placed_from size 0) (bytes_on-more shelf files f i h is)
    ∙ placed_from-append size 0 (bytes_on shelf (take i files)) (bytes_of (shelf f.name) ∷ [])
    ∙ ap (λ (l : List Slot). placed_from size 0 (bytes_on shelf (take i files)) ++ l) (append-nil (placed_in size (0 + length (bytes_on shelf (take i files))) (bytes_of (shelf f.name))))
    ∙ ap (λ (n : ℕ). placed_from size 0 (bytes_on shelf (take i files)) ++ placed_in size n (bytes_of (shelf f.name))) number)

files-here : (told : Option Shelved) (shape : ShapeFields) (files : List FileRef) (f : FileRef) (i : ℕ) (a b c : Builder)
    → i < length files → f ≡ get_or files i f
    → WhereTold told (λ shelf. AreOnShelf files shelf → Extends shape a b (placed_from shape.frame_bytes 0 (bytes_on shelf (take i files))))
    → (IsUtf8 f.name → WhereTold told (λ shelf. f.size / shape.frame_bytes ≡ length (bytes_of (shelf f.name)) / shape.frame_bytes → Extends shape b c (placed_in shape.frame_bytes i (bytes_of (shelf f.name)))))
    → WhereTold told (λ shelf. AreOnShelf files shelf → Extends shape a c (placed_from shape.frame_bytes 0 (bytes_on shelf (take (i + 1) files))))
files-here None shape files f i a b c h is so_far next = tt
files-here (Some shelf) shape files f i a b c h is so_far next = λ on_shelf.
    let here : IsOnShelf shelf f = subst (IsOnShelf shelf) (sym is) (All-get_or (IsOnShelf shelf) files i f h on_shelf) in
    let slots : f.size / shape.frame_bytes ≡ length (bytes_of (shelf f.name)) / shape.frame_bytes = ap (λ (n : ℕ). n / shape.frame_bytes) (sym (size-bytes (shelf f.name) f.size here.size)) in
    Extends-same shape a c (placed_from shape.frame_bytes 0 (bytes_on shelf (take i files)) ++ placed_in shape.frame_bytes i (bytes_of (shelf f.name))) (placed_from shape.frame_bytes 0 (bytes_on shelf (take (i + 1) files)))
    (placed_from-more shape.frame_bytes shelf files f i h is)
    (Extends-on shape a b c (placed_from shape.frame_bytes 0 (bytes_on shelf (take i files))) (placed_in shape.frame_bytes i (bytes_of (shelf f.name))) (so_far on_shelf) (next here.text slots))

pub files-step : (told now : Option Shelved) (shape : ShapeFields) (files : List FileRef) (f : FileRef) (i number count : ℕ) (name : List ℕ) (a b c : Builder)
    → now ≡ told → i < length files → f ≡ get_or files i f → number ≡ i → count ≡ f.size / shape.frame_bytes → name ≡ f.name
    → WhereTold told (λ shelf. AreOnShelf files shelf → Extends shape a b (placed_from shape.frame_bytes 0 (bytes_on shelf (take i files))))
    → (IsUtf8 name → WhereTold now (λ shelf. count ≡ length (bytes_of (shelf name)) / shape.frame_bytes → Extends shape b c (placed_in shape.frame_bytes number (bytes_of (shelf name)))))
    → WhereTold told (λ shelf. AreOnShelf files shelf → Extends shape a c (placed_from shape.frame_bytes 0 (bytes_on shelf (take (i + 1) files))))
files-step told now shape files f i number count name a b c e h is is_number is_count is_name so_far next =
    let named : IsUtf8 f.name → WhereTold now (λ shelf. count ≡ length (bytes_of (shelf f.name)) / shape.frame_bytes → Extends shape b c (placed_in shape.frame_bytes number (bytes_of (shelf f.name)))) =
    subst (λ (n : List ℕ). IsUtf8 n → WhereTold now (λ shelf. count ≡ length (bytes_of (shelf n)) / shape.frame_bytes → Extends shape b c (placed_in shape.frame_bytes number (bytes_of (shelf n))))) is_name next in
    let counted : IsUtf8 f.name → WhereTold now (λ shelf. f.size / shape.frame_bytes ≡ length (bytes_of (shelf f.name)) / shape.frame_bytes → Extends shape b c (placed_in shape.frame_bytes number (bytes_of (shelf f.name)))) =
    subst (λ (n : ℕ). IsUtf8 f.name → WhereTold now (λ shelf. n ≡ length (bytes_of (shelf f.name)) / shape.frame_bytes → Extends shape b c (placed_in shape.frame_bytes number (bytes_of (shelf f.name))))) is_count named in
    let numbered : IsUtf8 f.name → WhereTold now (λ shelf. f.size / shape.frame_bytes ≡ length (bytes_of (shelf f.name)) / shape.frame_bytes → Extends shape b c (placed_in shape.frame_bytes i (bytes_of (shelf f.name)))) =
    subst (λ (n : ℕ). IsUtf8 f.name → WhereTold now (λ shelf. f.size / shape.frame_bytes ≡ length (bytes_of (shelf f.name)) / shape.frame_bytes → Extends shape b c (placed_in shape.frame_bytes n (bytes_of (shelf f.name))))) is_number counted in
    files-here told shape files f i a b c h is so_far
    (subst (λ (t : Option Shelved). IsUtf8 f.name → WhereTold t (λ shelf. f.size / shape.frame_bytes ≡ length (bytes_of (shelf f.name)) / shape.frame_bytes → Extends shape b c (placed_in shape.frame_bytes i (bytes_of (shelf f.name))))) e numbered)

pub slot_total-more : (shape : ShapeFields) (files : List FileRef) (f : FileRef) (i : ℕ) → i < length files → f ≡ get_or files i f
    → slot_total shape (take (i + 1) files) ≡ slot_total shape (take i files) + f.size / shape.frame_bytes
slot_total-more shape files f i h is =
    sum_by_more (λ (file : FileRef). file.size / shape.frame_bytes) files i f h
    ∙ ap (λ (file : FileRef). slot_total shape (take i files) + file.size / shape.frame_bytes) (sym is)
