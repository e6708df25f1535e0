-- The things that fit behind a gate are told from each other by their bytes.
use Rattle.std.specs.Prelude.{slice_get}
use Rattle.std.proofs.Common.{◌≡◌, ◌∙◌, ◌⊎◌, inl, inr, ⊎_elim, ℕ, ◌*◌, ◌<◌, ◌≤◌, Bool, true, false, if◌then◌else◌, List, ◌++◌, length, Some, None, refl, sym, ap, arith, append_assoc, mul-pos}
use Rattle.byteorder.specs.Endian.{little_bytes}
use Rattle.piece_plan.specs.declared.job.ScanSize.{ScanSize}
use Rattle.piece_plan.specs.declared.epoch.EpochPlan.{EpochPlan}
use Rattle.piece_plan.specs.Epochs.{JobSizes, IsJob, IsEpoch, IsOfPlan, cell_count}
use Rattle.piece_plan.specs.Order.{Place, place_of}
use Rattle.piece_plan.proofs.EpochLemmas.{IsEpoch-IsOfPlan}
use Rattle.plan_places.specs.Walk.{cut_at}
use Rattle.journal_image.specs.Head.{place_text}
use Rattle.journal_image.specs.Image.{Due, Thing, Kept, Turn, range_text, text, first_count, Fits, FitsRecord, FitsMark, Covers}
use Rattle.journal_image.proofs.Numbers.{little_from-front, same_front, same_number}

pub some_same : {A : Type 0} (a b : A) → Some a ≡ Some b → a ≡ b
some_same a b e = cc

-- two epochs of a job that begin and end at the same samples are one
pub same_epoch : (job : JobSizes) (e f : EpochPlan) → IsEpoch job e → IsEpoch job f → place_of e ≡ place_of f → e.to ≡ f.to → e ≡ f
same_epoch job e f is other place to =
    let scan : e.scan ≡ f.scan = ap (λ (p : Place). p.scan) place in
    let m : e.m ≡ f.m = ap (λ (p : Place). p.m) place in
    let from : e.from ≡ f.from = ap (λ (p : Place). p.from) place in
    let size : is.size ≡ other.size = some_same is.size other.size (sym is.scan ∙ ap (slice_get job.scans) scan ∙ other.scan) in
    let products : e.products ≡ f.products = is.products ∙ ap (λ (s : ScanSize). s.products) size ∙ sym other.products in
    let baselines : e.baselines ≡ f.baselines = is.baselines ∙ ap (λ (s : ScanSize). s.baselines) size ∙ sym other.baselines in
    let lags : e.lags ≡ f.lags = is.lags ∙ sym other.lags in
    λ i. record { scan = scan i; m = m i; from = from i; to = to i; products = products i; baselines = baselines i; lags = lags i }

pub length-place : (p : Place) → length (place_text p) ≡ 20
length-place p = refl

pub epoch-IsOfPlan : (job : JobSizes) (e : EpochPlan) → IsJob job → IsEpoch job e → IsOfPlan e
epoch-IsOfPlan job e is inside = IsEpoch-IsOfPlan job e is inside

pub some_cells : (e : EpochPlan) → IsOfPlan e → 1 ≤ cell_count e
some_cells e is =
    let pairs : 0 < e.products * e.baselines = mul-pos is.products is.baselines in
    let all : 0 < e.products * e.baselines * e.lags = mul-pos pairs (omega (arith, is.lags.some)) in
    omega arith

-- the bytes of a record with its range, and of one without
pub text-ranged : (due : Due) (e : EpochPlan) (body : List ℕ) → due.ranged ≡ true → text due (Kept e body) ≡ range_text e ++ body
text-ranged due e body is = ap (λ (b : Bool). if b then range_text e ++ body else body) is

pub text-old : (due : Due) (e : EpochPlan) (body : List ℕ) → due.ranged ≡ false → text due (Kept e body) ≡ body
text-old due e body is = ap (λ (b : Bool). if b then range_text e ++ body else body) is

true_or_false : (b : Bool) → (b ≡ true) ⊎ (b ≡ false)
true_or_false true = inl refl
true_or_false false = inr refl

same_kept : (e f : EpochPlan) (b c : List ℕ) → e ≡ f → b ≡ c → Kept e b ≡ Kept f c
same_kept e f b c p q = cc

module _ (job : JobSizes) (is : IsJob job) where
  same_place : (due : Due) (e f : EpochPlan) (b c : List ℕ) → FitsRecord job due e b → FitsRecord job due f c → place_of e ≡ place_of f
  same_place due e f b c fits other = some_same (place_of e) (place_of f) (sym fits.place ∙ other.place)

  same_size : (due : Due) (e f : EpochPlan) (b c : List ℕ) → FitsRecord job due e b → FitsRecord job due f c → e ≡ f → length b ≡ length c
  same_size due e f b c fits other same = fits.size ∙ ap (λ (g : EpochPlan). 24 * cell_count g) same ∙ sym other.size

  told-ranged : (due : Due) (e f : EpochPlan) (b c x y : List ℕ) → FitsRecord job due e b → FitsRecord job due f c
      → (range_text e ++ b) ++ x ≡ (range_text f ++ c) ++ y → (Kept e b ≡ Kept f c) × (x ≡ y)
  told-ranged due e f b c x y fits other eq =
      let place = same_place due e f b c fits other in
      let cut : place_text (place_of e) ++ (little_bytes 8 e.to ++ (b ++ x)) ≡ place_text (place_of f) ++ (little_bytes 8 f.to ++ (c ++ y)) =
      sym (apart e b x) ∙ eq ∙ apart f c y in
      let behind = (same_front (place_text (place_of e)) (place_text (place_of f)) _ _ (length-place (place_of e) ∙ sym (length-place (place_of f))) cut).1 in
      let low = epoch-IsOfPlan job e is fits.epoch in
      let low' = epoch-IsOfPlan job f is other.epoch in
      let to = same_number 8 e.to f.to (b ++ x) (c ++ y) (omega (arith, low.to)) (omega (arith, low'.to)) behind in
      let same = same_epoch job e f fits.epoch other.epoch place to.0 in
      let bodies = same_front b c x y (same_size due e f b c fits other same) to.1 in
      (same_kept e f b c same bodies.0, bodies.1)
    where
      apart : (g : EpochPlan) (d z : List ℕ) → (range_text g ++ d) ++ z ≡ place_text (place_of g) ++ (little_bytes 8 g.to ++ (d ++ z))
      apart g d z = append_assoc (range_text g) d z ∙ append_assoc (place_text (place_of g)) (little_bytes 8 g.to) (d ++ z)

  told-old : (due : Due) (e f : EpochPlan) (b c x y : List ℕ) → due.ranged ≡ false → FitsRecord job due e b → FitsRecord job due f c
      → b ++ x ≡ c ++ y → (Kept e b ≡ Kept f c) × (x ≡ y)
  told-old due e f b c x y old fits other eq =
      let place = same_place due e f b c fits other in
      let same : e ≡ f = some_same e f (sym (fits.own old).cut ∙ ap (cut_at job job.epoch) place ∙ (other.own old).cut) in
      let bodies = same_front b c x y (same_size due e f b c fits other same) eq in
      (same_kept e f b c same bodies.0, bodies.1)

  -- a record without a range is no mark
  no_mark : (due : Due) (e : EpochPlan) (b m x y : List ℕ) → FitsRecord job due e b → FitsMark due m → b ++ x ≡ m ++ y → ⊥
  no_mark due e b m x y fits mark eq =
      let cells = some_cells e (epoch-IsOfPlan job e is fits.epoch) in
      let count : first_count b ≡ first_count m =
      sym (little_from-front 16 8 b x (omega (arith, fits.size))) ∙ ap first_count eq ∙ little_from-front 16 8 m y (omega (arith, mark.size)) in
      (fits.own mark.old).count (count ∙ mark.count)

  pub told : (due : Due) (i j : Thing) (x y : List ℕ) → Fits job due i → Fits job due j → text due i ++ x ≡ text due j ++ y → (i ≡ j) × (x ≡ y)
  told due (Kept e b) (Kept f c) x y fits other eq = ⊎_elim
      (λ (ranged : due.ranged ≡ true).
      told-ranged due e f b c x y fits other (ap (λ (l : List ℕ). l ++ x) (sym (text-ranged due e b ranged)) ∙ eq ∙ ap (λ (l : List ℕ). l ++ y) (text-ranged due f c ranged)))
      (λ (old : due.ranged ≡ false).
      told-old due e f b c x y old fits other (ap (λ (l : List ℕ). l ++ x) (sym (text-old due e b old)) ∙ eq ∙ ap (λ (l : List ℕ). l ++ y) (text-old due f c old)))
      (true_or_false due.ranged)
  told due (Kept e b) (Turn m) x y fits mark eq = absurd (no_mark due e b m x y fits mark (ap (λ (l : List ℕ). l ++ x) (sym (text-old due e b mark.old)) ∙ eq))
  told due (Turn m) (Kept e b) x y mark fits eq = absurd (no_mark due e b m y x fits mark (ap (λ (l : List ℕ). l ++ y) (sym (text-old due e b mark.old)) ∙ sym eq))
  told due (Turn m) (Turn n) x y mark other eq =
      let both = same_front m n x y (mark.size ∙ sym other.size) eq in
      (ap Turn both.0, both.1)

  pub more_due : (due : Due) (i : Thing) → Fits job due i → Covers due → ⊥
  more_due due (Kept e b) fits covered = let none : None ≡ Some (place_of e) = sym covered ∙ fits.place in cc
  more_due due (Turn m) mark covered = mark.more covered
