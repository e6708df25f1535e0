-- A scan and a whole head, each with what it may say and how that is written.
use Rattle.std.proofs.Common.{◌≡◌, ◌≤◌, ◌<◌, ◌-◌, ◌^◌, ◌%◌, ℕ, List, ◌++◌, length, subst, ap, sym, refl, ◌∙◌, arith, lit<}
use Rattle.std.specs.Prelude.{codes}
use Rattle.std.specs.List.{flat_map, All}
use Rattle.std.proofs.lemmas.List.Elements.{All-nil}
use Rattle.byteorder.specs.Endian.{little_bytes}
use Rattle.corr_model.specs.Records.{Head, HeadScan, IsHead, IsHeadScan, IsName, name_text, product_text, baseline_text, scan_text, head_text}
use Rattle.corr_model.proofs.RecordLemmas.{head_text-parts}
use Rattle.vis_records.specs.declared.fault.VisKind.TheVariants.{Head as OfHead}
use Rattle.vis_records.specs.Parts.{Took, field, list_of, AreBytes}
use Rattle.vis_records.specs.Reading.{lags, name, product, last_of, baseline, baselines, scan, head}
use Rattle.vis_records.proofs.PartLemmas.{took-later}
use Rattle.vis_records.proofs.PartForms.{IsForm, holding, peel, field-form, list-form, form-item}
use Rattle.vis_records.proofs.HeadForms.{took-what, took-rest, joined, assoc-5, assoc-10, name-form, product-form, magic-form, lags-form}
use Rattle.vis_records.proofs.BaselineForms.{Rising, Rising-none, baseline-item}

baselines-form : (stations n : ℕ) → 1 ≤ stations → stations ≤ 32
    → IsForm (baselines stations n) (λ bs. Rising stations bs × (length bs ≡ n)) (flat_map baseline_text)
baselines-form stations n some few =
    list-form (λ bs. baseline stations (last_of bs)) (Rising stations) baseline_text n (baseline-item stations some few) (Rising-none stations)

second-form : IsForm (field 8 0 (2 ^ 32 - 1) OfHead) (λ n. (0 ≤ n) × (n ≤ 2 ^ 32 - 1)) (little_bytes 8)
second-form = field-form 8 0 (2 ^ 32 - 1) OfHead (lit< tt)

samples-form : IsForm (field 8 0 (2 ^ 40) OfHead) (λ n. (0 ≤ n) × (n ≤ 2 ^ 40)) (little_bytes 8)
samples-form = field-form 8 0 (2 ^ 40) OfHead (lit< tt)

count-form : IsForm (field 4 1 528 OfHead) (λ n. (1 ≤ n) × (n ≤ 528)) (little_bytes 4)
count-form = field-form 4 1 528 OfHead (lit< tt)

below : (n : ℕ) → n ≤ 2 ^ 32 - 1 → n < 2 ^ 32
below n high = omega arith

not_above : (n : ℕ) → n < 2 ^ 32 → n ≤ 2 ^ 32 - 1
not_above n high = omega arith

none_below : (n : ℕ) → 0 ≤ n
none_below n = omega arith

-- what a scan that was read says
record ScanIs (stations : ℕ) (t : List ℕ) (s : HeadScan) (rest : List ℕ) : Type 0 where
  good : IsHeadScan stations s
  is : t ≡ scan_text s ++ rest

scan-made : (stations : ℕ) (n : List ℕ) (second samples count : ℕ) (bs : List (ℕ × ℕ)) → IsName n → second < 2 ^ 32 → samples ≤ 2 ^ 40
    → (1 ≤ count) × (count ≤ 528) → Rising stations bs × (length bs ≡ count)
    → IsHeadScan stations (record { name = n; second = second; samples = samples; baselines = bs })
scan-made stations n second samples count bs a b c d e = record {
  name = a;
  second = b;
  samples = c;
  some_baseline = subst (λ k. 1 ≤ k) (sym e.1) d.0;
  baselines = subst (λ k. k ≤ 528) (sym e.1) d.1;
  each = e.0.0;
  rising = e.0.1;
}

scan-written : (t n t₁ : List ℕ) (second : ℕ) (t₂ : List ℕ) (samples : ℕ) (t₃ : List ℕ) (count : ℕ) (t₄ : List ℕ) (bs : List (ℕ × ℕ)) (t₅ rest : List ℕ)
    → t ≡ name_text n ++ t₁
    → t₁ ≡ little_bytes 8 second ++ t₂
    → t₂ ≡ little_bytes 8 samples ++ t₃
    → t₃ ≡ little_bytes 4 count ++ t₄
    → t₄ ≡ flat_map baseline_text bs ++ t₅
    → length bs ≡ count
    → t₅ ≡ rest
    → t ≡ scan_text (record { name = n; second = second; samples = samples; baselines = bs }) ++ rest
scan-written t n t₁ second t₂ samples t₃ count t₄ bs t₅ rest a b c d e counted last =
    joined t (name_text n) t₁ _ a (joined t₁ (little_bytes 8 second) t₂ _ b (joined t₂ (little_bytes 8 samples) t₃ _ c
    (joined t₃ (little_bytes 4 count) t₄ _ d (joined t₄ (flat_map baseline_text bs) t₅ _ e last))))
    ∙ ap (λ k. name_text n ++ (little_bytes 8 second ++ (little_bytes 8 samples ++ (little_bytes 4 k ++ (flat_map baseline_text bs ++ rest))))) (sym counted)
    ∙ sym (assoc-5 (name_text n) (little_bytes 8 second) (little_bytes 8 samples) (little_bytes 4 (length bs)) (flat_map baseline_text bs) rest)

scan-is : (stations : ℕ) → 1 ≤ stations → stations ≤ 32 → (t : List ℕ) (s : HeadScan) (rest : List ℕ) → AreBytes t → scan stations t ≡ Took s rest
    → ScanIs stations t s rest
scan-is stations some few t s rest bytes e =
    holding (peel _ t name-form bytes e) (λ p.
    holding (peel _ p.rest second-form p.bytes p.more) (λ q.
    holding (peel _ q.rest samples-form q.bytes q.more) (λ r.
    holding (peel _ r.rest count-form r.bytes r.more) (λ c.
    holding (peel _ c.rest (baselines-form stations c.what some few) c.bytes c.more) (λ b.
    subst (λ s. ScanIs stations t s rest) (took-what b.more)
    (record {
      good = scan-made stations p.what q.what r.what c.what b.what p.good (below q.what q.good.1) r.good.1 c.good b.good;
      is = scan-written t p.what p.rest q.what q.rest r.what r.rest c.what c.rest b.what b.rest rest p.is q.is r.is c.is b.is b.good.1 (took-rest b.more);
    }))))))

pub scan-form : (stations : ℕ) → 1 ≤ stations → stations ≤ 32 → IsForm (scan stations) (IsHeadScan stations) scan_text
scan-form stations some few = record {
  reads = λ s rest good.
      ap (scan stations) (assoc-5 (name_text s.name) (little_bytes 8 s.second) (little_bytes 8 s.samples) (little_bytes 4 (length s.baselines)) (flat_map baseline_text s.baselines) rest)
      ∙ took-later _ (name-form.reads s.name _ good.name)
      (took-later _ (second-form.reads s.second _ (none_below s.second, not_above s.second good.second))
      (took-later _ (samples-form.reads s.samples _ (none_below s.samples, good.samples))
      (took-later _ (count-form.reads (length s.baselines) _ (good.some_baseline, good.baselines))
      (took-later _ ((baselines-form stations (length s.baselines) some few).reads s.baselines rest ((good.each, good.rising), refl))
      refl))));
  good = λ t s rest bytes e. (scan-is stations some few t s rest bytes e).good;
  is = λ t s rest bytes e. (scan-is stations some few t s rest bytes e).is;
}

-- the lists of a head
names-form : (n : ℕ) → IsForm (list_of (λ _. name) n) (λ ns. All IsName ns × (length ns ≡ n)) (flat_map name_text)
names-form n = list-form (λ _. name) (λ ns. All IsName ns) name_text n (form-item name-form) (All-nil IsName)

products-form : (n : ℕ)
    → IsForm (list_of (λ _. product) n) (λ ps. All (λ (p : List ℕ × List ℕ). IsName p.0 × IsName p.1) ps × (length ps ≡ n)) (flat_map product_text)
products-form n =
    list-form (λ _. product) (λ ps. All (λ (p : List ℕ × List ℕ). IsName p.0 × IsName p.1) ps) product_text n
    (form-item product-form) (All-nil (λ (p : List ℕ × List ℕ). IsName p.0 × IsName p.1))

scans-form : (stations n : ℕ) → 1 ≤ stations → stations ≤ 32
    → IsForm (list_of (λ _. scan stations) n) (λ ss. All (IsHeadScan stations) ss × (length ss ≡ n)) (flat_map scan_text)
scans-form stations n some few =
    list-form (λ _. scan stations) (λ ss. All (IsHeadScan stations) ss) scan_text n (form-item (scan-form stations some few)) (All-nil (IsHeadScan stations))

integration-form : IsForm (field 8 1 (2 ^ 36) OfHead) (λ n. (1 ≤ n) × (n ≤ 2 ^ 36)) (little_bytes 8)
integration-form = field-form 8 1 (2 ^ 36) OfHead (lit< tt)

rate-form : IsForm (field 8 1 (2 ^ 32 - 1) OfHead) (λ n. (1 ≤ n) × (n ≤ 2 ^ 32 - 1)) (little_bytes 8)
rate-form = field-form 8 1 (2 ^ 32 - 1) OfHead (lit< tt)

stations-form : IsForm (field 4 1 32 OfHead) (λ n. (1 ≤ n) × (n ≤ 32)) (little_bytes 4)
stations-form = field-form 4 1 32 OfHead (lit< tt)

many-form : IsForm (field 4 1 256 OfHead) (λ n. (1 ≤ n) × (n ≤ 256)) (little_bytes 4)
many-form = field-form 4 1 256 OfHead (lit< tt)

scan_count-form : IsForm (field 4 0 (2 ^ 32 - 1) OfHead) (λ n. (0 ≤ n) × (n ≤ 2 ^ 32 - 1)) (little_bytes 4)
scan_count-form = field-form 4 0 (2 ^ 32 - 1) OfHead (lit< tt)

-- the texts of a head, from the front
head_text-right : (h : Head) (rest : List ℕ)
    → head_text h ++ rest
    ≡ codes "VLBIVIS1" ++ (little_bytes 4 h.lags ++ (little_bytes 8 h.integration ++ (little_bytes 8 h.rate
    ++ (little_bytes 4 (length h.stations) ++ (flat_map name_text h.stations ++ (little_bytes 4 (length h.products)
    ++ (flat_map product_text h.products ++ (little_bytes 4 (length h.scans) ++ (flat_map scan_text h.scans ++ rest)))))))))
head_text-right h rest =
    ap (λ t. t ++ rest) (head_text-parts h)
    ∙ assoc-10 (codes "VLBIVIS1") (little_bytes 4 h.lags) (little_bytes 8 h.integration) (little_bytes 8 h.rate)
    (little_bytes 4 (length h.stations)) (flat_map name_text h.stations) (little_bytes 4 (length h.products))
    (flat_map product_text h.products) (little_bytes 4 (length h.scans)) (flat_map scan_text h.scans) rest

pub head-reads : (h : Head) (rest : List ℕ) → IsHead h → head (head_text h ++ rest) ≡ Took h rest
head-reads h rest good =
    ap head (head_text-right h rest)
    ∙ took-later _ (magic-form.reads (codes "VLBIVIS1") _ refl)
    (took-later _ (lags-form.reads h.lags _ (good.some_lags, good.lags, good.even))
    (took-later _ (integration-form.reads h.integration _ (good.some_integration, good.integration))
    (took-later _ (rate-form.reads h.rate _ (good.some_rate, not_above h.rate good.rate))
    (took-later _ (stations-form.reads (length h.stations) _ (good.some_station, good.stations))
    (took-later _ ((names-form (length h.stations)).reads h.stations _ (good.keys, refl))
    (took-later _ (many-form.reads (length h.products) _ (good.some_product, good.products))
    (took-later _ ((products-form (length h.products)).reads h.products _ (good.channels, refl))
    (took-later _ (scan_count-form.reads (length h.scans) _ (none_below (length h.scans), not_above (length h.scans) good.few_scans))
    (took-later _ ((scans-form (length h.stations) (length h.scans) good.some_station good.stations).reads h.scans rest (good.scans, refl))
    refl)))))))))

-- what a head that was read says
pub record HeadIs (t : List ℕ) (h : Head) (rest : List ℕ) : Type 0 where
  pub good : IsHead h
  pub is : t ≡ head_text h ++ rest

head-made : (t : List ℕ) (mark : List ℕ) (t₁ : List ℕ) (lags : ℕ) (t₂ : List ℕ) (integration : ℕ) (t₃ : List ℕ) (rate : ℕ) (t₄ : List ℕ)
    (n : ℕ) (t₅ : List ℕ) (keys : List (List ℕ)) (t₆ : List ℕ) (m : ℕ) (t₇ : List ℕ) (products : List (List ℕ × List ℕ)) (t₈ : List ℕ)
    (k : ℕ) (t₉ : List ℕ) (scans : List HeadScan) (rest : List ℕ)
    → t ≡ mark ++ t₁
    → mark ≡ codes "VLBIVIS1"
    → t₁ ≡ little_bytes 4 lags ++ t₂
    → (2 ≤ lags) × (lags ≤ 1024) × (lags % 2 ≡ 0)
    → t₂ ≡ little_bytes 8 integration ++ t₃
    → (1 ≤ integration) × (integration ≤ 2 ^ 36)
    → t₃ ≡ little_bytes 8 rate ++ t₄
    → (1 ≤ rate) × (rate ≤ 2 ^ 32 - 1)
    → t₄ ≡ little_bytes 4 n ++ t₅
    → (1 ≤ n) × (n ≤ 32)
    → t₅ ≡ flat_map name_text keys ++ t₆
    → All IsName keys × (length keys ≡ n)
    → t₆ ≡ little_bytes 4 m ++ t₇
    → (1 ≤ m) × (m ≤ 256)
    → t₇ ≡ flat_map product_text products ++ t₈
    → All (λ (p : List ℕ × List ℕ). IsName p.0 × IsName p.1) products × (length products ≡ m)
    → t₈ ≡ little_bytes 4 k ++ t₉
    → k ≤ 2 ^ 32 - 1
    → t₉ ≡ flat_map scan_text scans ++ rest
    → All (IsHeadScan n) scans × (length scans ≡ k)
    → HeadIs t (record { lags = lags; integration = integration; rate = rate; stations = keys; products = products; scans = scans }) rest
head-made t mark t₁ lags t₂ integration t₃ rate t₄ n t₅ keys t₆ m t₇ products t₈ k t₉ scans rest
    e₁ g₁ e₂ g₂ e₃ g₃ e₄ g₄ e₅ g₅ e₆ g₆ e₇ g₇ e₈ g₈ e₉ g₉ e₁₀ g₁₀ =
    let h : Head = record { lags = lags; integration = integration; rate = rate; stations = keys; products = products; scans = scans } in
    record {
      good = record {
        some_lags = g₂.0;
        lags = g₂.1;
        even = g₂.2;
        some_integration = g₃.0;
        integration = g₃.1;
        some_rate = g₄.0;
        rate = below rate g₄.1;
        some_station = subst (λ x. 1 ≤ x) (sym g₆.1) g₅.0;
        stations = subst (λ x. x ≤ 32) (sym g₆.1) g₅.1;
        keys = g₆.0;
        some_product = subst (λ x. 1 ≤ x) (sym g₈.1) g₇.0;
        products = subst (λ x. x ≤ 256) (sym g₈.1) g₇.1;
        channels = g₈.0;
        few_scans = subst (λ x. x < 2 ^ 32) (sym g₁₀.1) (below k g₉);
        scans = subst (λ x. All (IsHeadScan x) scans) (sym g₆.1) g₁₀.0;
      };
      is =
          joined t mark t₁ _ e₁ (joined t₁ (little_bytes 4 lags) t₂ _ e₂ (joined t₂ (little_bytes 8 integration) t₃ _ e₃
          (joined t₃ (little_bytes 8 rate) t₄ _ e₄ (joined t₄ (little_bytes 4 n) t₅ _ e₅ (joined t₅ (flat_map name_text keys) t₆ _ e₆
          (joined t₆ (little_bytes 4 m) t₇ _ e₇ (joined t₇ (flat_map product_text products) t₈ _ e₈ (joined t₈ (little_bytes 4 k) t₉ _ e₉ e₁₀))))))))
          ∙ rw (g₁, ← g₆.1, ← g₈.1, ← g₁₀.1) (sym (head_text-right h rest));
    }

pub head-is : (t : List ℕ) (h : Head) (rest : List ℕ) → AreBytes t → head t ≡ Took h rest → HeadIs t h rest
head-is t h rest bytes e =
    holding (peel _ t magic-form bytes e) (λ p₁.
    holding (peel _ p₁.rest lags-form p₁.bytes p₁.more) (λ p₂.
    holding (peel _ p₂.rest integration-form p₂.bytes p₂.more) (λ p₃.
    holding (peel _ p₃.rest rate-form p₃.bytes p₃.more) (λ p₄.
    holding (peel _ p₄.rest stations-form p₄.bytes p₄.more) (λ p₅.
    holding (peel _ p₅.rest (names-form p₅.what) p₅.bytes p₅.more) (λ p₆.
    holding (peel _ p₆.rest many-form p₆.bytes p₆.more) (λ p₇.
    holding (peel _ p₇.rest (products-form p₇.what) p₇.bytes p₇.more) (λ p₈.
    holding (peel _ p₈.rest scan_count-form p₈.bytes p₈.more) (λ p₉.
    holding (peel _ p₉.rest (scans-form p₅.what p₉.what p₅.good.0 p₅.good.1) p₉.bytes p₉.more) (λ p₁₀.
    subst (λ h. HeadIs t h rest) (took-what p₁₀.more)
    (head-made t p₁.what p₁.rest p₂.what p₂.rest p₃.what p₃.rest p₄.what p₄.rest p₅.what p₅.rest p₆.what p₆.rest p₇.what p₇.rest p₈.what p₈.rest p₉.what p₉.rest p₁₀.what rest
    p₁.is p₁.good p₂.is p₂.good p₃.is p₃.good p₄.is p₄.good p₅.is p₅.good p₆.is p₆.good p₇.is p₇.good p₈.is p₈.good p₉.is p₉.good.1
    (p₁₀.is ∙ ap (λ r. flat_map scan_text p₁₀.what ++ r) (took-rest p₁₀.more)) p₁₀.good)))))))))))
