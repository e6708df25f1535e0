-- The text of a record file, integration by integration.
use Rattle.std.proofs.Common.{◌≡◌, ℕ, zero, suc, max, ◌%◌, ◌^◌, ◌+◌, ◌*◌, ◌<◌, ◌≤◌, List, [], ◌∷◌, ◌++◌, length, get_or, map, Option, Some, refl, sym, ap, ◌∙◌, subst, arith, length-append}
use Rattle.std.specs.List.{All, fold, flat_map, range_with_len, enumerate_from, slice_get}
use Rattle.std.specs.Int.{byte_at}
use Rattle.std.proofs.Math.Nat.{mod-add-mod}
use Rattle.std.specs.Option.{option_map, option_map_or}
use Rattle.std.proofs.lemmas.List.{length-map, get_or-map}
use Rattle.std.proofs.lemmas.List.Folds.{flat_map-map}
use Rattle.std.proofs.lemmas.List.FromFn.{length-range_with_len, get_or-range_with_len, length-enumerate_from, get_or-enumerate_from, fill_by_all}
use Rattle.std.proofs.lemmas.Option.{slice_get-get_or, slice_get-map, slice_get_read, same_Some}
use Rattle.corr_model.specs.declared.cell.Cell.{Cell}
use Rattle.corr_model.specs.declared.records.RecordAt.{RecordAt}
use Rattle.corr_model.specs.Records.{Head, HeadScan, IsHead, IsHeadScan, head_text, end_text, records_text, vis_text, places_of, scan_places, product_places, baseline_places}
use Rattle.corr_model.proofs.RecordLemmas.{records_text-none, vis_text-parts, places_of-scans}
use Rattle.vis_records.specs.declared.head.VisScan.{VisScan}
use Rattle.vis_records.specs.Heads.{scan_of, baseline_of}
use Rattle.vis_writer.specs.Cells.{CellsOf, widest, IsFull, all_cells, scan_cells, integrations_of, records_of, cells_of, integrations_at}
use Rattle.vis_writer.specs.Texts.{scan_text_by, text_at, scans_text}
use Rattle.vis_writer.proofs.Rows.{flat_map-next, records_text-append, length-rows, length-baseline_places}

pub length-product_places : (head : Head) (number : ℕ) (s : HeadScan) (m : ℕ) → length (product_places head number s m) ≡ records_of head s
length-product_places head number s m =
    length-rows (baseline_places number s m) (length s.baselines) (range_with_len 0 (length head.products)) (length-baseline_places number s m)
    ∙ ap (λ n. n * length s.baselines) (length-range_with_len 0 (length head.products))

-- things with records and as many cells
record Even {A : Type 0} (lags : ℕ) (places : A → List RecordAt) (cells : A → List Cell) (things : List A) : Type 0 where
  text : records_text lags (flat_map places things) (flat_map cells things) ≡ flat_map (λ x. records_text lags (places x) (cells x)) things
  long : length (flat_map cells things) ≡ length (flat_map places things) * lags

even : {A : Type 0} (lags : ℕ) (places : A → List RecordAt) (cells : A → List Cell) (things : List A)
    → ((k : ℕ) (d : A) → k < length things → length (cells (get_or things k d)) ≡ length (places (get_or things k d)) * lags)
    → Even lags places cells things
even lags places cells [] each = record { text = records_text-none lags []; long = omega arith }
even lags places cells (x ∷ things) each =
    let one : length (cells x) ≡ length (places x) * lags = each 0 x (omega arith) in
    let rest = even lags places cells things (λ k d h. each (suc k) d (omega (arith, h))) in
    record {
      text =
          records_text-append lags (places x) (flat_map places things) (cells x) (flat_map cells things) one
          ∙ ap (λ (t : List ℕ). records_text lags (places x) (cells x) ++ t) rest.text;
      long =
          length-append (cells x) (flat_map cells things)
          ∙ omega (arith, one, rest.long)
          ∙ ap (λ n. n * lags) (sym (length-append (places x) (flat_map places things)));
    }

-- the cells of an integration of the scan with this number
pub full-at : (head : Head) (of : CellsOf) (number m : ℕ) (s : HeadScan) → IsFull head of
    → slice_get head.scans number ≡ Some s → m < integrations_of head s
    → length (of number m) ≡ cells_of head s
full-at head of number m s full there h =
    let count : integrations_at head number ≡ integrations_of head s = ap (λ (o : Option HeadScan). option_map_or (integrations_of head) o 0) there in
    full number m (omega (arith, count, h)) ∙ ap (λ (o : Option HeadScan). option_map_or (cells_of head) o 0) there

scan_even : (head : Head) (of : CellsOf) (number : ℕ) (s : HeadScan) → IsFull head of → slice_get head.scans number ≡ Some s
    → Even head.lags (product_places head number s) (of number) (range_with_len 0 (integrations_of head s))
scan_even head of number s full there =
    even head.lags (product_places head number s) (of number) (range_with_len 0 (integrations_of head s)) each
  where
    each : (k d : ℕ) → k < length (range_with_len 0 (integrations_of head s))
        → length (of number (get_or (range_with_len 0 (integrations_of head s)) k d))
        ≡ length (product_places head number s (get_or (range_with_len 0 (integrations_of head s)) k d)) * head.lags
    each k d h =
        let within : k < integrations_of head s = omega (arith, h, length-range_with_len 0 (integrations_of head s)) in
        let here : 0 + k ≡ k = omega arith in
        let item : get_or (range_with_len 0 (integrations_of head s)) k d ≡ k = get_or-range_with_len 0 (integrations_of head s) k d within ∙ here in
        ap (λ m. length (of number m)) item
        ∙ full-at head of number k s full there within
        ∙ ap (λ n. n * head.lags) (sym (length-product_places head number s (get_or (range_with_len 0 (integrations_of head s)) k d)))

places_in : Head → ℕ × HeadScan → List RecordAt
places_in head s = scan_places head s.0 s.1

-- the scan that stands at a place of the numbered list
numbered : (head : Head) (k : ℕ) (d : ℕ × HeadScan) → k < length (enumerate_from 0 head.scans)
    → (get_or (enumerate_from 0 head.scans) k d ≡ (k, get_or head.scans k d.1)) × (slice_get head.scans k ≡ Some (get_or head.scans k d.1))
numbered head k d h =
    let within : k < length head.scans = omega (arith, h, length-enumerate_from 0 head.scans) in
    let here : 0 + k ≡ k = omega arith in (
      get_or-enumerate_from 0 head.scans k d within ∙ ap (λ (n : ℕ). (n, get_or head.scans k d.1)) here,
      slice_get-get_or head.scans k d.1 within,
    )

all_even : (head : Head) (of : CellsOf) → IsFull head of
    → Even head.lags (λ (s : ℕ × HeadScan). scan_places head s.0 s.1) (scan_cells head of) (enumerate_from 0 head.scans)
all_even head of full = even head.lags (λ (s : ℕ × HeadScan). scan_places head s.0 s.1) (scan_cells head of) (enumerate_from 0 head.scans) each
  where
    each : (k : ℕ) (d : ℕ × HeadScan) → k < length (enumerate_from 0 head.scans)
        → length (scan_cells head of (get_or (enumerate_from 0 head.scans) k d))
        ≡ length (scan_places head (get_or (enumerate_from 0 head.scans) k d).0 (get_or (enumerate_from 0 head.scans) k d).1) * head.lags
    each k d h =
        let at = numbered head k d h in
        let P : ℕ × HeadScan → Type 0 = λ s. length (scan_cells head of s) ≡ length (scan_places head s.0 s.1) * head.lags in
        subst P (sym at.0) (scan_even head of k (get_or head.scans k d.1) full at.1).long

-- the texts of all scans, by their numbers
texts_numbered : (head : Head) (of : CellsOf) → IsFull head of
    → flat_map (λ (s : ℕ × HeadScan). records_text head.lags (scan_places head s.0 s.1) (scan_cells head of s)) (enumerate_from 0 head.scans)
    ≡ scans_text head of
texts_numbered head of full =
    let f : ℕ × HeadScan → List ℕ = λ s. records_text head.lags (scan_places head s.0 s.1) (scan_cells head of s) in
    let numbers = range_with_len 0 (length head.scans) in
    let listed : map f (enumerate_from 0 head.scans) ≡ map (text_at head of) numbers =
    fill_by_all (text_at head of) (map f (enumerate_from 0 head.scans)) (length head.scans) []
    (length-map (enumerate_from 0 head.scans) f ∙ length-enumerate_from 0 head.scans) each in
    sym (flat_map-map (λ (t : List ℕ). t) f (enumerate_from 0 head.scans))
    ∙ ap (flat_map (λ (t : List ℕ). t)) listed
    ∙ flat_map-map (λ (t : List ℕ). t) (text_at head of) numbers
  where
    each : (k : ℕ) → k < length head.scans
        → get_or (map (λ (s : ℕ × HeadScan). records_text head.lags (scan_places head s.0 s.1) (scan_cells head of s)) (enumerate_from 0 head.scans)) k []
        ≡ text_at head of k
    each k h =
        let d : ℕ × HeadScan = (0, record { name = []; second = 0; samples = 0; baselines = [] }) in
        let within : k < length (enumerate_from 0 head.scans) = omega (arith, h, length-enumerate_from 0 head.scans) in
        let at = numbered head k d within in
        let f : ℕ × HeadScan → List ℕ = λ s. records_text head.lags (scan_places head s.0 s.1) (scan_cells head of s) in
        get_or-map f (enumerate_from 0 head.scans) k d [] within
        ∙ ap f at.0
        ∙ (scan_even head of k (get_or head.scans k d.1) full at.1).text
        ∙ ap (λ (o : Option HeadScan). option_map_or (scan_text_by head of k) o []) (sym at.1)

pub vis_text-scans : (head : Head) (of : CellsOf) → IsFull head of
    → vis_text head (all_cells head of)
    ≡ (head_text head ++ scans_text head of) ++ end_text (length (places_of head))
unfolding all_cells
vis_text-scans head of full =
    vis_text-parts head (all_cells head of)
    ∙ ap (λ (p : List RecordAt). (head_text head ++ records_text head.lags p (all_cells head of)) ++ end_text (length (places_of head))) (places_of-scans head)
    ∙ ap (λ (t : List ℕ). (head_text head ++ t) ++ end_text (length (places_of head))) ((all_even head of full).text ∙ texts_numbered head of full)

-- a scan in memory stands in the head by its number
pub scan-at : (head : Head) (listed : List VisScan) (k : ℕ) (scan : VisScan) → map scan_of listed ≡ head.scans
    → k < length listed → scan ≡ get_or listed k scan
    → slice_get head.scans k ≡ Some (scan_of scan)
scan-at head listed k scan same h is =
    ap (λ (l : List HeadScan). slice_get l k) (sym same)
    ∙ slice_get-map scan_of listed k
    ∙ ap (option_map scan_of) (slice_get_read listed (length listed) k scan refl h is)

-- the same by the number of scans of the head
pub scan-there : (head : Head) (listed : List VisScan) (k : ℕ) (scan : VisScan) → map scan_of listed ≡ head.scans
    → k < length head.scans → scan ≡ get_or listed k scan
    → slice_get head.scans k ≡ Some (scan_of scan)
scan-there head listed k scan same inside is =
    let many : length head.scans ≡ length listed = sym (ap length same) ∙ length-map listed scan_of in
    scan-at head listed k scan same (omega (arith, many, inside)) is

pub text_at-some : (head : Head) (of : CellsOf) (k : ℕ) (s : HeadScan) → slice_get head.scans k ≡ Some s
    → scan_text_by head of k s ≡ text_at head of k
text_at-some head of k s there = ap (λ (o : Option HeadScan). option_map_or (scan_text_by head of k) o []) (sym there)

-- no integration has more cells than the widest
fold-grows : {A : Type 0} (f : A → ℕ) (a : ℕ) (xs : List A) → a ≤ fold (λ most x. max most (f x)) a xs
fold-grows f a [] = omega arith
fold-grows f a (x ∷ xs) = let more = fold-grows f (max a (f x)) xs in omega (arith, more)

fold-most : {A : Type 0} (f : A → ℕ) (a : ℕ) (xs : List A) (k : ℕ) (x : A) → slice_get xs k ≡ Some x
    → f x ≤ fold (λ most y. max most (f y)) a xs
fold-most f a [] k x there = cc
fold-most f a (y ∷ ys) zero x there =
    let same : f y ≡ f x = ap f (same_Some y x there) in
    let more = fold-grows f (max a (f y)) ys in omega (arith, more, same)
fold-most f a (y ∷ ys) (suc k) x there = fold-most f (max a (f y)) ys k x there

pub widest-at : (head : Head) (k : ℕ) (s : HeadScan) → slice_get head.scans k ≡ Some s → cells_of head s ≤ widest head
widest-at head k s there = fold-most (cells_of head) 0 head.scans k s there

-- the places of the scan with this number
abbrev pub places_at : Head → ℕ → List RecordAt
places_at head k = option_map_or (scan_places head k) (slice_get head.scans k) []

pub length-places_at : (head : Head) (k : ℕ) (s : HeadScan) → slice_get head.scans k ≡ Some s
    → length (places_at head k) ≡ integrations_of head s * records_of head s
length-places_at head k s there =
    ap (λ (o : Option HeadScan). length (option_map_or (scan_places head k) o [])) there
    ∙ length-rows (product_places head k s) (records_of head s) (range_with_len 0 (integrations_of head s)) (length-product_places head k s)
    ∙ ap (λ n. n * records_of head s) (length-range_with_len 0 (integrations_of head s))

pub places_of-numbered : (head : Head) → places_of head ≡ flat_map (places_at head) (range_with_len 0 (length head.scans))
places_of-numbered head =
    let f : ℕ × HeadScan → List RecordAt = λ s. scan_places head s.0 s.1 in
    let numbers = range_with_len 0 (length head.scans) in
    let listed : map f (enumerate_from 0 head.scans) ≡ map (places_at head) numbers =
    fill_by_all (places_at head) (map f (enumerate_from 0 head.scans)) (length head.scans) []
    (length-map (enumerate_from 0 head.scans) f ∙ length-enumerate_from 0 head.scans) each in
    places_of-scans head
    ∙ sym (flat_map-map (λ (t : List RecordAt). t) f (enumerate_from 0 head.scans))
    ∙ ap (flat_map (λ (t : List RecordAt). t)) listed
    ∙ flat_map-map (λ (t : List RecordAt). t) (places_at head) numbers
  where
    each : (k : ℕ) → k < length head.scans
        → get_or (map (λ (s : ℕ × HeadScan). scan_places head s.0 s.1) (enumerate_from 0 head.scans)) k [] ≡ places_at head k
    each k h =
        let d : ℕ × HeadScan = (0, record { name = []; second = 0; samples = 0; baselines = [] }) in
        let within : k < length (enumerate_from 0 head.scans) = omega (arith, h, length-enumerate_from 0 head.scans) in
        let at = numbered head k d within in
        let f : ℕ × HeadScan → List RecordAt = λ s. scan_places head s.0 s.1 in
        get_or-map f (enumerate_from 0 head.scans) k d [] within
        ∙ ap f at.0
        ∙ ap (λ (o : Option HeadScan). option_map_or (scan_places head k) o []) (sym at.1)

-- one scan's records more
pub count-more : (head : Head) (k count this next : ℕ) (s : HeadScan) → slice_get head.scans k ≡ Some s
    → count ≡ length (flat_map (places_at head) (range_with_len 0 k)) % 2 ^ 64
    → this ≡ integrations_of head s * records_of head s
    → next ≡ (count + this) % 2 ^ 64
    → next ≡ length (flat_map (places_at head) (range_with_len 0 (k + 1))) % 2 ^ 64
count-more head k count this next s there so_far one sum =
    let before = length (flat_map (places_at head) (range_with_len 0 k)) in
    let whole : length (flat_map (places_at head) (range_with_len 0 (k + 1))) ≡ before + this =
    ap length (flat_map-next (places_at head) k)
    ∙ length-append (flat_map (places_at head) (range_with_len 0 k)) (places_at head k)
    ∙ ap (λ n. before + n) (length-places_at head k s there ∙ sym one) in
    sum
    ∙ ap (λ n. (n + this) % 2 ^ 64) so_far
    ∙ mod-add-mod before (2 ^ 64) this
    ∙ ap (λ n. n % 2 ^ 64) (sym whole)

pub count-all : (head : Head) (k n count : ℕ) → k ≤ n → n ≤ k → n ≡ length head.scans
    → count ≡ length (flat_map (places_at head) (range_with_len 0 k)) % 2 ^ 64
    → count ≡ length (places_of head) % 2 ^ 64
count-all head k n count low high many so_far =
    let here : k ≡ length head.scans = omega (arith, low, high, many) in
    so_far
    ∙ ap (λ j. length (flat_map (places_at head) (range_with_len 0 j)) % 2 ^ 64) here
    ∙ ap (λ (p : List RecordAt). length p % 2 ^ 64) (sym (places_of-numbered head))

-- the end has the lowest 64 bits of the count
pub end_text-low : (n : ℕ) → end_text (n % 2 ^ 64) ≡ end_text n
end_text-low n =
    bytes_same (byte_at 0) (byte_at 1) (byte_at 2) (byte_at 3) (byte_at 4) (byte_at 5) (byte_at 6) (byte_at 7) (n % 2 ^ 64) n
    (omega arith) (omega arith) (omega arith) (omega arith) (omega arith) (omega arith) (omega arith) (omega arith)
  where
    bytes_same : (a b c d e f g h : ℕ → ℕ) (m n : ℕ)
        → a m ≡ a n → b m ≡ b n → c m ≡ c n → d m ≡ d n → e m ≡ e n → f m ≡ f n → g m ≡ g n → h m ≡ h n
        → ◌≡◌ {A = List ℕ} (255 ∷ a m ∷ b m ∷ c m ∷ d m ∷ e m ∷ f m ∷ g m ∷ h m ∷ []) (255 ∷ a n ∷ b n ∷ c n ∷ d n ∷ e n ∷ f n ∷ g n ∷ h n ∷ [])
    bytes_same a b c d e f g h m n p q r s t u v w = rw (p, q, r, s, t, u, v, w) refl

-- a scan in memory is one of a head
pub scan-is : (head : Head) (listed : List VisScan) (k : ℕ) (scan : VisScan) → IsHead head → map scan_of listed ≡ head.scans
    → k < length listed → scan ≡ get_or listed k scan
    → IsHeadScan (length head.stations) (scan_of scan)
scan-is head listed k scan ranges same h is =
    let P : HeadScan → Type 0 = IsHeadScan (length head.stations) in
    let each : All P (map scan_of listed) = subst (λ (l : List HeadScan). All P l) (sym same) ranges.scans in
    let item : get_or (map scan_of listed) k (scan_of scan) ≡ scan_of scan =
    get_or-map scan_of listed k scan (scan_of scan) h ∙ ap scan_of (sym is) in
    subst P item (each k (scan_of scan) (omega (arith, h, length-map listed scan_of)))

pub baselines-few : (scan : VisScan) (n : ℕ) → IsHeadScan n (scan_of scan) → length scan.baselines ≤ 528
baselines-few scan n is = subst (λ n. n ≤ 528) (length-map scan.baselines baseline_of) is.baselines
