-- The lines of records, put one after another.
use Rattle.std.specs.Prelude.{codes, decimal}
use Rattle.std.proofs.Common.{◌≡◌, ◌<◌, ◌≤◌, ℕ, ◌+◌, ◌/◌, ◌^◌, pos, ◌-ℤ◌, FitsSigned, rules, List, [], ◌∷◌, ◌++◌, Option, length, map, take, drop, get_or, subst, ap, sym, refl, ◌∙◌, append_assoc, append-nil, arith}
use Rattle.std.specs.Int.{w64}
use Rattle.std.specs.List.{flat_map, range_with_len}
use Rattle.std.proofs.lemmas.List.{take_more, take_all}
use Rattle.std.proofs.lemmas.List.Concat.{flat_map-append}
use Rattle.std.proofs.lemmas.List.FromFn.{get_or-range_with_len, length-range_with_len}
use Rattle.std.proofs.lemmas.Int.{ints}
use Rattle.corr_model.specs.Lags.{lag_of}
use Rattle.corr_model.specs.declared.cell.Cell.{Cell}
use Rattle.corr_model.specs.declared.records.RecordAt.{RecordAt}
use Rattle.corr_model.specs.Records.{Head, places_of}
use Rattle.sink_text.specs.Written.{StretchState, Puts}
use Rattle.sink_text.proofs.WrittenText.{Puts-then, Puts-nothing}
use Rattle.vis_records.specs.Content.{Content}
use Rattle.vis_records.specs.Dumped.{line, numbered, baseline_line, scan_lines, head_lines, record_lines, records_lines, dump_text}
use Rattle.vis_records.specs.Heads.{baseline_of, scan_of}
use Rattle.vis_records.specs.declared.head.VisBaseline.{VisBaseline}
use Rattle.vis_records.specs.declared.head.VisScan.{VisScan}
use Rattle.vis_records.specs.Dumping.{cells_behind, PutsRecords}

-- the lines of records, and then of others
records_lines-append : (lags : ℕ) (p q : List RecordAt) (cells : List Cell)
    → records_lines lags (p ++ q) cells ≡ records_lines lags p cells ++ records_lines lags q (cells_behind lags p cells)
unfolding records_lines cells_behind
records_lines-append lags [] q cells = refl
records_lines-append lags (at ∷ p) q cells =
    ap (λ (t : List ℕ). record_lines lags at (take lags cells) ++ t) (records_lines-append lags p q (drop lags cells))
    ∙ sym (append_assoc (record_lines lags at (take lags cells)) (records_lines lags p (drop lags cells))
    (records_lines lags q (cells_behind lags p (drop lags cells))))

cells_behind-append : (lags : ℕ) (p q : List RecordAt) (cells : List Cell)
    → cells_behind lags (p ++ q) cells ≡ cells_behind lags q (cells_behind lags p cells)
unfolding cells_behind
cells_behind-append lags [] q cells = refl
cells_behind-append lags (at ∷ p) q cells = cells_behind-append lags p q (drop lags cells)

-- no record
pub PutsRecords-none : (lags : ℕ) (cells : List Cell) (s : StretchState) (t : Option (List ℕ)) (f : ℕ)
    → PutsRecords lags [] cells cells s s t t f f
unfolding records_lines cells_behind
PutsRecords-none lags cells s t f = record { puts = Puts-nothing s t f; behind = refl }

-- one record
pub PutsRecords-one : (lags : ℕ) (at : RecordAt) (cells own left : List Cell) {s₀ s₁ : StretchState} {t₀ t₁ : Option (List ℕ)} {f₀ f₁ : ℕ}
    → own ≡ take lags cells
    → left ≡ drop lags cells
    → Puts (record_lines lags at own) s₀ s₁ t₀ t₁ f₀ f₁
    → PutsRecords lags (at ∷ []) cells left s₀ s₁ t₀ t₁ f₀ f₁
unfolding records_lines cells_behind
PutsRecords-one lags at cells own left {s₀} {s₁} {t₀} {t₁} {f₀} {f₁} front back put = record {
  puts =
      subst (λ (t : List ℕ). Puts t s₀ s₁ t₀ t₁ f₀ f₁)
      (ap (record_lines lags at) front ∙ sym (append-nil (record_lines lags at (take lags cells)))) put;
  behind = back;
}

-- records, and then others
PutsRecords-then : (lags : ℕ) (p q : List RecordAt) {cells mid left : List Cell} {s₀ s₁ s₂ : StretchState} {t₀ t₁ t₂ : Option (List ℕ)} {f₀ f₁ f₂ : ℕ}
    → PutsRecords lags p cells mid s₀ s₁ t₀ t₁ f₀ f₁
    → PutsRecords lags q mid left s₁ s₂ t₁ t₂ f₁ f₂
    → PutsRecords lags (p ++ q) cells left s₀ s₂ t₀ t₂ f₀ f₂
PutsRecords-then lags p q {cells = cells} first second = record {
  puts =
      Puts-then
      (records_lines-append lags p q cells
      ∙ ap (λ (c : List Cell). records_lines lags p cells ++ records_lines lags q c) (sym first.behind))
      first.puts second.puts;
  behind = second.behind ∙ ap (cells_behind lags q) first.behind ∙ sym (cells_behind-append lags p q cells);
}

-- the same records by another name
pub PutsRecords-as : {lags : ℕ} {p q : List RecordAt} {cells left : List Cell} {s₀ s₁ : StretchState} {t₀ t₁ : Option (List ℕ)} {f₀ f₁ : ℕ}
    → p ≡ q
    → PutsRecords lags p cells left s₀ s₁ t₀ t₁ f₀ f₁
    → PutsRecords lags q cells left s₀ s₁ t₀ t₁ f₀ f₁
PutsRecords-as {lags} {p} {q} {cells} {left} {s₀} {s₁} {t₀} {t₁} {f₀} {f₁} same puts =
    subst (λ (places : List RecordAt). PutsRecords lags places cells left s₀ s₁ t₀ t₁ f₀ f₁) same puts

-- the records of the first things, and of one more
pub PutsRecords-next : {Y : Type 0} {lags : ℕ} {cells mid left : List Cell} {s₀ s₁ s₂ : StretchState} {t₀ t₁ t₂ : Option (List ℕ)} {f₀ f₁ f₂ : ℕ}
    (f : Y → List RecordAt) (ys : List Y) (i : ℕ) (y : Y) → i < length ys
    → get_or ys i y ≡ y
    → PutsRecords lags (flat_map f (take i ys)) cells mid s₀ s₁ t₀ t₁ f₀ f₁
    → PutsRecords lags (f y) mid left s₁ s₂ t₁ t₂ f₁ f₂
    → PutsRecords lags (flat_map f (take (i + 1) ys)) cells left s₀ s₂ t₀ t₂ f₀ f₂
PutsRecords-next {Y} {lags} f ys i y within is first one =
    let places : flat_map f (take i ys) ++ f y ≡ flat_map f (take (i + 1) ys) =
    sym (ap (flat_map f) (take_more ys i y within ∙ ap (λ (x : Y). take i ys ++ x ∷ []) is)
    ∙ flat_map-append f (take i ys) (y ∷ [])
    ∙ ap (λ (t : List RecordAt). flat_map f (take i ys) ++ t) (append-nil (f y))) in
    PutsRecords-as places (PutsRecords-then lags (flat_map f (take i ys)) (f y) first one)

pub PutsRecords-all : {Y : Type 0} {lags : ℕ} {cells left : List Cell} {s₀ s₁ : StretchState} {t₀ t₁ : Option (List ℕ)} {f₀ f₁ : ℕ}
    (f : Y → List RecordAt) (ys : List Y) (i : ℕ) → length ys ≤ i
    → PutsRecords lags (flat_map f (take i ys)) cells left s₀ s₁ t₀ t₁ f₀ f₁
    → PutsRecords lags (flat_map f ys) cells left s₀ s₁ t₀ t₁ f₀ f₁
PutsRecords-all f ys i past puts = PutsRecords-as (ap (flat_map f) (take_all i ys past)) puts

-- the same for the numbers below one
pub PutsRecords-turn : {lags : ℕ} {cells mid left : List Cell} {s₀ s₁ s₂ : StretchState} {t₀ t₁ t₂ : Option (List ℕ)} {f₀ f₁ f₂ : ℕ}
    (f : ℕ → List RecordAt) (n i : ℕ) → i < n
    → PutsRecords lags (flat_map f (take i (range_with_len 0 n))) cells mid s₀ s₁ t₀ t₁ f₀ f₁
    → PutsRecords lags (f i) mid left s₁ s₂ t₁ t₂ f₁ f₂
    → PutsRecords lags (flat_map f (take (i + 1) (range_with_len 0 n))) cells left s₀ s₂ t₀ t₂ f₀ f₂
PutsRecords-turn f n i within first one =
    PutsRecords-next f (range_with_len 0 n) i i (omega (arith, length-range_with_len 0 n, within)) (omega (arith, get_or-range_with_len 0 n i i within)) first one

pub PutsRecords-turns : {lags : ℕ} {cells left : List Cell} {s₀ s₁ : StretchState} {t₀ t₁ : Option (List ℕ)} {f₀ f₁ : ℕ}
    (f : ℕ → List RecordAt) (n m i : ℕ) → n ≡ m
    → n ≤ i
    → PutsRecords lags (flat_map f (take i (range_with_len 0 n))) cells left s₀ s₁ t₀ t₁ f₀ f₁
    → PutsRecords lags (flat_map f (range_with_len 0 m)) cells left s₀ s₁ t₀ t₁ f₀ f₁
PutsRecords-turns f n m i same past puts =
    PutsRecords-as (ap (λ k. flat_map f (range_with_len 0 k)) same)
    (PutsRecords-all f (range_with_len 0 n) i (omega (arith, length-range_with_len 0 n, past)) puts)

-- a lag has 64 bits
FitsSigned-less : (a b : ℕ) → a < 2 ^ 62 → b < 2 ^ 62 → FitsSigned w64 (pos a -ℤ pos b)
FitsSigned-less a b la lb = search (rules, ints)

pub FitsSigned-lag_of : (lags i : ℕ) → lags < 2 ^ 32 → i < 2 ^ 32 → FitsSigned w64 (lag_of lags i)
FitsSigned-lag_of lags i few near =
    let half : lags / 2 ≤ lags = omega arith in
    FitsSigned-less i (lags / 2) (omega (arith, near)) (omega (arith, half, few))

-- the whole text, by the head and the cells that are put
pub dump_text-pieces : (content : Content) (head : Head) (cells : List Cell)
    → head ≡ content.head
    → cells ≡ content.cells
    → dump_text content ≡ head_lines head ++ records_lines head.lags (places_of head) cells
unfolding dump_text
dump_text-pieces content head cells a b =
    sym (ap (λ (c : List Cell). head_lines head ++ records_lines head.lags (places_of head) c) b
    ∙ ap (λ (h : Head). head_lines h ++ records_lines h.lags (places_of h) content.cells) a)

-- a scan's lines, by the name and the baselines that are put
pub scan_lines-pieces : (number : ℕ) (s : VisScan) (name : List ℕ) (baselines : List VisBaseline)
    → name ≡ s.name
    → baselines ≡ s.baselines
    → scan_lines number (scan_of s)
    ≡ line (codes "scan" ∷ decimal number ∷ name ∷ decimal s.second ∷ decimal s.samples ∷ [])
    ++ numbered (baseline_line number) (map baseline_of baselines)
scan_lines-pieces number s name baselines a b = rw (a, b) refl
