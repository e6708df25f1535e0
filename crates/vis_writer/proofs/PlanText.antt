-- The cells of a plan, by number and in their order.
use Rattle.std.specs.Prelude.{flat_map}
use Rattle.std.proofs.Common.{◌≡◌, ℕ, ◌+◌, ◌<◌, List, [], ◌∷◌, length, get_or, map, Option, refl, sym, ap, ◌∙◌, arith}
use Rattle.std.specs.List.{enumerate_from, range_with_len}
use Rattle.std.specs.Option.{option_map_or}
use Rattle.std.proofs.lemmas.List.{length-map, get_or-map, same_lists}
use Rattle.std.proofs.lemmas.List.Folds.{flat_map-map}
use Rattle.std.proofs.lemmas.List.FromFn.{length-enumerate_from, get_or-enumerate_from}
use Rattle.std.proofs.lemmas.Option.{slice_get-get_or}
use Rattle.corr_model.specs.Files.{Files}
use Rattle.corr_model.specs.Records.{vis_text}
use Rattle.job_plan.specs.declared.plan.ScanPlan.{ScanPlan}
use Rattle.job_plan.specs.declared.plan.Plan.{Plan}
use Rattle.job_plan.specs.Values.{rotated}
use Rattle.job_plan.specs.Output.{head_of, head_scan, output, plan_cells, cells_of_scan, integration_cells, integrations_of}
use Rattle.vis_writer.specs.Cells.{all_cells, scan_cells}
use Rattle.vis_writer.specs.PlanCells.{cells_from}

-- things that are numbered and seen by a view, taken in order
numbered-same : {A B X : Type 0} (f : ℕ × B → List X) (view : A → B) (g : A → List X) (xs : List A)
    → ((k : ℕ) (d : A) → k < length xs → f (k, view (get_or xs k d)) ≡ g (get_or xs k d))
    → flat_map f (enumerate_from 0 (map view xs)) ≡ flat_map g xs
numbered-same f view g [] each = refl
numbered-same {A = A} {B = B} {X = X} f view g (x ∷ xs) each =
    sym (flat_map-map (λ (t : List X). t) f (enumerate_from 0 (map view (x ∷ xs))))
    ∙ ap (flat_map (λ (t : List X). t)) listed
    ∙ flat_map-map (λ (t : List X). t) g (x ∷ xs)
  where
    listed : map f (enumerate_from 0 (map view (x ∷ xs))) ≡ map g (x ∷ xs)
    listed =
        same_lists (map f (enumerate_from 0 (map view (x ∷ xs)))) (map g (x ∷ xs))
        (length-map (enumerate_from 0 (map view (x ∷ xs))) f ∙ length-enumerate_from 0 (map view (x ∷ xs)) ∙ length-map (x ∷ xs) view ∙ sym (length-map (x ∷ xs) g))
        one
      where
        one : (k : ℕ) (d : List X) → k < length (map f (enumerate_from 0 (map view (x ∷ xs))))
            → get_or (map f (enumerate_from 0 (map view (x ∷ xs)))) k d ≡ get_or (map g (x ∷ xs)) k d
        one k d h =
            let numbered : k < length (enumerate_from 0 (map view (x ∷ xs))) = omega (arith, h, length-map (enumerate_from 0 (map view (x ∷ xs))) f) in
            let seen : k < length (map view (x ∷ xs)) = omega (arith, numbered, length-enumerate_from 0 (map view (x ∷ xs))) in
            let within : k < length (x ∷ xs) = omega (arith, seen, length-map (x ∷ xs) view) in
            let here : 0 + k ≡ k = omega arith in
            get_or-map f (enumerate_from 0 (map view (x ∷ xs))) k (0, view x) d numbered
            ∙ ap f (get_or-enumerate_from 0 (map view (x ∷ xs)) k (0, view x) seen)
            ∙ ap (λ n. f (n, get_or (map view (x ∷ xs)) k (view x))) here
            ∙ ap (λ s. f (k, s)) (get_or-map view (x ∷ xs) k x (view x) within)
            ∙ each k x within
            ∙ sym (get_or-map g (x ∷ xs) k x d within)

all_cells-plan : (plan : Plan) (files : Files) → all_cells (head_of plan) (cells_from plan files) ≡ plan_cells plan files
unfolding all_cells plan_cells
all_cells-plan plan files =
    numbered-same (scan_cells (head_of plan) (cells_from plan files)) head_scan (λ (scan : ScanPlan). cells_of_scan plan (rotated plan files scan) scan) plan.scans each
  where
    each : (k : ℕ) (d : ScanPlan) → k < length plan.scans
        → scan_cells (head_of plan) (cells_from plan files) (k, head_scan (get_or plan.scans k d))
        ≡ cells_of_scan plan (rotated plan files (get_or plan.scans k d)) (get_or plan.scans k d)
    each k d h =
        ap (λ (o : Option ScanPlan). flat_map (λ m. option_map_or (λ (scan : ScanPlan). integration_cells plan (rotated plan files scan) scan m) o []) (range_with_len 0 (integrations_of plan (get_or plan.scans k d))))
        (slice_get-get_or plan.scans k d h)

-- the record file of a plan
pub output-numbered : (plan : Plan) (files : Files)
    → vis_text (head_of plan) (all_cells (head_of plan) (cells_from plan files)) ≡ output plan files
unfolding output
output-numbered plan files = ap (vis_text (head_of plan)) (all_cells-plan plan files)
