-- A whole record file, as it is written.
use Rattle.std.proofs.Common.{◌≡◌, ◌≤◌, ◌<◌, ◌+◌, ◌^◌, ◌/◌, ℕ, suc, List, [], ◌∷◌, ◌++◌, length, get_or, subst, ap, sym, refl, ◌∙◌, arith, append_assoc, append-nil, length-append, zero-add}
use Rattle.std.specs.Int.{div_ceil}
use Rattle.std.specs.List.{flat_map, range_with_len, enumerate_from, All}
use Rattle.std.proofs.Math.Nat.{div-le_self, mul-div_cancel_left}
use Rattle.std.proofs.lemmas.List.FromFn.{length-range_with_len, get_or-range_with_len, length-enumerate_from, get_or-enumerate_from}
use Rattle.std.proofs.lemmas.List.Elements.{All-append, All-map, All-nil}
use Rattle.corr_model.specs.declared.cell.Cell.{Cell}
use Rattle.corr_model.specs.Records.{Head, HeadScan, IsHead, IsHeadScan, IsCell, IsVis, head_text, records_text, end_text, vis_text, baseline_places, product_places, scan_places, places_of}
use Rattle.corr_model.proofs.RecordLemmas.{places_of-scans, vis_text-parts}
use Rattle.vis_records.specs.declared.fault.Stop.{Stop}
use Rattle.vis_records.specs.Parts.{Took, in_turn, StopsBy, AreBytes}
use Rattle.vis_records.specs.Content.{Content, IsRecordFile}
use Rattle.vis_records.specs.Reading.{head, record_due, end_due, record_file}
use Rattle.vis_records.specs.Laws.{ReadsWhatIsWritten, ReadsBack, HasOneContent}
use Rattle.vis_records.proofs.PartLemmas.{took-later, stops-first, stops-later}
use Rattle.vis_records.proofs.PartForms.{holding, read-parts, AreBytes-behind}
use Rattle.vis_records.proofs.HeadForms.{took-what, took-rest, joined}
use Rattle.vis_records.proofs.ScanForms.{HeadIs, head-is, head-reads}
use Rattle.vis_records.proofs.RecordForms.{IsPlace, Recorded, EndSaid, records-is, records-read, records_text-long, end-is, end-reads}

-- all things of some lists
All-flat_map : {X Y : Type 0} (P : Y → Type 0) (f : X → List Y) (xs : List X) → All (λ x. All P (f x)) xs → All P (flat_map f xs)
All-flat_map P f [] all = All-nil P
All-flat_map P f (x ∷ xs) all =
    All-append P (f x) (flat_map f xs) (all 0 x (omega arith)) (All-flat_map P f xs (λ k d within. all (suc k) d (omega arith)))

-- all numbers below one
All-below : (P : ℕ → Type 0) (n : ℕ) → ((i : ℕ) → i < n → P i) → All P (range_with_len 0 n)
All-below P n fact k d within =
    let inside : k < n = omega (arith, within, length-range_with_len 0 n) in
    subst P (sym (get_or-range_with_len 0 n k d inside ∙ zero-add k)) (fact k inside)

All-numbered : (P : ℕ × HeadScan → Type 0) (ss : List HeadScan)
    → ((i : ℕ) (d : HeadScan) → i < length ss → P (i, get_or ss i d))
    → All P (enumerate_from 0 ss)
All-numbered P ss fact k d within =
    let inside : k < length ss = omega (arith, within, length-enumerate_from 0 ss) in
    subst P (sym (get_or-enumerate_from 0 ss k d inside ∙ ap (λ i. (i, get_or ss k d.1)) (zero-add k))) (fact k d.1 inside)

-- there are no more integrations than samples and one
few-integrations : (x y : ℕ) → x ≤ 2 ^ 40 → div_ceil x y ≤ 2 ^ 40 + 1
few-integrations x y few = omega (arith, div-le_self x y)

scan-places-fit : (h : Head) (number : ℕ) (s : HeadScan) → length h.products ≤ 256 → number < 2 ^ 32 → s.samples ≤ 2 ^ 40 → length s.baselines ≤ 528
    → All IsPlace (scan_places h number s)
scan-places-fit h number s products low samples baselines =
    All-flat_map IsPlace (product_places h number s) (range_with_len 0 (div_ceil s.samples h.integration))
    (All-below (λ m. All IsPlace (product_places h number s m)) (div_ceil s.samples h.integration) (λ m inside.
    All-flat_map IsPlace (baseline_places number s m) (range_with_len 0 (length h.products))
    (All-below (λ p. All IsPlace (baseline_places number s m p)) (length h.products) (λ p within.
    All-map IsPlace (λ (b : ℕ). record { scan = number; m = m; product = p; baseline = b }) (range_with_len 0 (length s.baselines))
    (All-below (λ b. IsPlace (record { scan = number; m = m; product = p; baseline = b })) (length s.baselines) (λ b below.
    record {
      scan = low;
      m = lt-m m inside;
      product = lt-p p within;
      baseline = lt-b b below;
    }))))))
  where
    lt-m : (m : ℕ) → m < div_ceil s.samples h.integration → m < 2 ^ 64
    lt-m m inside = omega (arith, few-integrations s.samples h.integration samples, inside)

    lt-p : (p : ℕ) → p < length h.products → p < 2 ^ 32
    lt-p p within = omega (arith, within, products)

    lt-b : (b : ℕ) → b < length s.baselines → b < 2 ^ 32
    lt-b b below = omega (arith, below, baselines)

places-fit : (h : Head) → IsHead h → All IsPlace (places_of h)
places-fit h good =
    subst (All IsPlace) (sym (places_of-scans h))
    (All-flat_map IsPlace (λ (s : ℕ × HeadScan). scan_places h s.0 s.1) (enumerate_from 0 h.scans)
    (All-numbered (λ s. All IsPlace (scan_places h s.0 s.1)) h.scans (λ i d inside.
    let s : IsHeadScan (length h.stations) (get_or h.scans i d) = good.scans i d inside in
    scan-places-fit h i (get_or h.scans i d) good.products (omega (arith, inside, good.few_scans)) s.samples s.baselines)))

vis_text-right : (h : Head) (cells : List Cell)
    → vis_text h cells ≡ head_text h ++ (records_text h.lags (places_of h) cells ++ (end_text (length (places_of h)) ++ []))
vis_text-right h cells =
    vis_text-parts h cells
    ∙ append_assoc (head_text h) (records_text h.lags (places_of h) cells) (end_text (length (places_of h)))
    ∙ ap (λ t. head_text h ++ (records_text h.lags (places_of h) cells ++ t)) (sym (append-nil (end_text (length (places_of h)))))

-- a file is longer than it has records
few-records : (h : Head) (cells : List Cell) → length (vis_text h cells) < 2 ^ 64 → length (places_of h) < 2 ^ 64
few-records h cells small =
    omega (
      arith,
      small,
      records_text-long h.lags (places_of h) cells,
      ap length (vis_text-parts h cells),
      length-append (head_text h ++ records_text h.lags (places_of h) cells) (end_text (length (places_of h))),
      length-append (head_text h) (records_text h.lags (places_of h) cells),
    )

pub file-reads : (h : Head) (cells : List Cell) → IsVis h cells → length (vis_text h cells) < 2 ^ 64
    → record_file (vis_text h cells) ≡ Took (record { head = h; cells = cells }) []
unfolding record_file
file-reads h cells vis small =
    ap record_file (vis_text-right h cells)
    ∙ took-later _ (head-reads h _ vis.head_is)
    (took-later _ (records-read h.lags (places_of h) [] cells _ (places-fit h vis.head_is) (All-nil IsCell) vis.cells_are vis.count)
    (took-later _ (end-reads (length (places_of h)) (few-records h cells small)) refl))

-- a file that was read
pub record FileSaid (t : List ℕ) (h : Head) (cells : List Cell) (rest : List ℕ) : Type 0 where
  pub vis : IsVis h cells
  pub is : t ≡ vis_text h cells
  pub none : rest ≡ []
  pub took : record_file t ≡ Took (record { head = h; cells = cells }) []

pub file-is : (t : List ℕ) (h : Head) (cells : List Cell) (n : ℕ) (t₁ t₂ rest : List ℕ) → AreBytes t
    → head t ≡ Took h t₁
    → in_turn (record_due h.lags) [] (places_of h) t₁ ≡ Took cells t₂
    → end_due (length (places_of h)) t₂ ≡ Took n rest
    → FileSaid t h cells rest
unfolding record_file
file-is t h cells n t₁ t₂ rest bytes first second third =
    holding (head-is t h t₁ bytes first) (λ (p : HeadIs t h t₁).
    let left : AreBytes t₁ = AreBytes-behind (head_text h) t₁ (subst AreBytes p.is bytes) in
    holding (records-is h.lags (places_of h) [] t₁ cells t₂ left (All-nil IsCell) second) (λ (r : Recorded h.lags (places_of h) [] t₁ cells t₂).
    let behind : AreBytes t₂ = AreBytes-behind (records_text h.lags (places_of h) r.cells) t₂ (subst AreBytes r.is left) in
    holding (end-is (length (places_of h)) t₂ n rest behind third) (λ (e : EndSaid (length (places_of h)) t₂ rest).
    record {
      vis = record { head_is = p.good; count = ap length r.whole ∙ r.count; cells_are = r.good };
      is =
          joined t (head_text h) t₁ _ p.is (joined t₁ (records_text h.lags (places_of h) r.cells) t₂ _ r.is e.is)
          ∙ sym (vis_text-right h r.cells)
          ∙ ap (vis_text h) (sym r.whole);
      none = e.none;
      took = took-later _ first (took-later _ second (took-later _ third (ap (λ r. Took (record { head = h; cells = cells }) r) e.none)));
    })))

-- the number of records, by the cells
pub count-is : (t : List ℕ) (h : Head) (cells : List Cell) (t₁ t₂ : List ℕ) → AreBytes t
    → head t ≡ Took h t₁
    → in_turn (record_due h.lags) [] (places_of h) t₁ ≡ Took cells t₂
    → length cells / h.lags ≡ length (places_of h)
count-is t h cells t₁ t₂ bytes first second =
    holding (head-is t h t₁ bytes first) (λ (p : HeadIs t h t₁).
    let left : AreBytes t₁ = AreBytes-behind (head_text h) t₁ (subst AreBytes p.is bytes) in
    holding (records-is h.lags (places_of h) [] t₁ cells t₂ left (All-nil IsCell) second) (λ (r : Recorded h.lags (places_of h) [] t₁ cells t₂).
    let some : 0 < h.lags = omega (arith, p.good.some_lags) in
    ap (λ n. n / h.lags) (ap length r.whole ∙ r.count) ∙ mul-div_cancel_left (length (places_of h)) some))

pub some-lags : (t : List ℕ) (h : Head) (t₁ : List ℕ) → AreBytes t → head t ≡ Took h t₁ → 0 < h.lags
some-lags t h t₁ bytes first = omega (arith, (head-is t h t₁ bytes first).good.some_lags)

-- the laws
pub reads_what_is_written : (text : List ℕ) → ReadsWhatIsWritten text
unfolding record_file
reads_what_is_written text content rest bytes e =
    holding (read-parts (head text) _ content rest e) (λ p.
    holding (read-parts (in_turn (record_due p.what.lags) [] (places_of p.what) p.rest) _ content rest p.second) (λ r.
    holding (read-parts (end_due (length (places_of p.what)) r.rest) _ content rest r.second) (λ s.
    let f = file-is text p.what r.what s.what p.rest r.rest s.rest bytes p.first r.first s.first in
    subst (λ (v : Content). IsRecordFile text v × (rest ≡ [])) (took-what s.second)
    (record { vis = f.vis; is = f.is }, sym (took-rest s.second) ∙ f.none))))

pub reads_back : (text : List ℕ) → ReadsBack text
reads_back text content small file =
    ap record_file file.is ∙ file-reads content.head content.cells file.vis (subst (λ t. length t < 2 ^ 64) file.is small)

pub one_content : (text : List ℕ) → HasOneContent text
one_content text content other small first second =
    took-what (sym (reads_back text content small first) ∙ reads_back text other small second)

-- a file that breaks a rule at its end
pub stops-at_end : {stop : Stop} (t : List ℕ) (h : Head) (cells : List Cell) (t₁ t₂ : List ℕ)
    → head t ≡ Took h t₁
    → in_turn (record_due h.lags) [] (places_of h) t₁ ≡ Took cells t₂
    → StopsBy (end_due (length (places_of h)) t₂) stop
    → StopsBy (record_file t) stop
unfolding record_file
stops-at_end t h cells t₁ t₂ first second fact = stops-later _ first (stops-later _ second (stops-first _ fact))
