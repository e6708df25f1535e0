-- The whole text of a job's bins: its head, its records and its end.
use Rattle.std.proofs.Common.{◌≡◌, ◌∙◌, ℕ, ◌*◌, List, ◌++◌, length, Option, Result, Ok, Err, refl, sym, subst, append_assoc}
use Rattle.std.specs.List.{flat_map, enumerate_from}
use Rattle.corr_model.specs.Files.{Files}
use Rattle.corr_model.specs.Records.{Head, places_of}
use Rattle.job_plan.specs.Output.{head_of}
use Rattle.sink_text.specs.Appends.{Appends}
use Rattle.vis_records.specs.declared.writer.SinkFault.{SinkFault}
use Rattle.bin_records.specs.Texts.{bin_head_text, bin_end_text}
use Rattle.run_notes.specs.declared.refusal.Refusal.{Refusal}
use Rattle.vis_writer.proofs.WritesLemmas.{where_always}
use Rattle.run_bins.specs.Texts.{BinPlan, scan_text, bin_output}
use Rattle.run_bins.specs.Writes.{WritesText, of_sink}
use Rattle.run_bins.proofs.WriteLemmas.{writes-then, writes-exit, writes-sunk}

module _ (x : BinPlan) where
  abbrev head-text : Files → List ℕ
  head-text f = bin_head_text x.bins.count (head_of x.plan)

  abbrev scans-text : Files → List ℕ
  scans-text f = flat_map (scan_text x f) (enumerate_from 0 x.plan.scans)

  abbrev end-text : Files → List ℕ
  end-text f = bin_end_text (length (places_of (head_of x.plan)) * x.bins.count)

  front : (f : Files) → bin_output x f ≡ (head-text f ++ scans-text f) ++ end-text f
  unfolding bin_output
  front f = refl

  parts : (f : Files) → bin_output x f ≡ head-text f ++ (scans-text f ++ end-text f)
  parts f = front f ∙ append_assoc (head-text f) (scans-text f) (end-text f)

  -- the head, by the code's words for the plan's
  pub head-at : {old told : Option (List ℕ)} {writes writes' : ℕ} {r : Result (Unit {0}) SinkFault} (bins : ℕ) (h : Head)
      → bins ≡ x.bins.count → h ≡ head_of x.plan
      → Appends old told (bin_head_text bins h) writes writes' r
      → Appends old told (bin_head_text x.bins.count (head_of x.plan)) writes writes' r
  head-at {old = old} {told = told} {writes = writes} {writes' = writes'} {r = r} bins h same is appends =
      subst (λ (h : Head). Appends old told (bin_head_text x.bins.count h) writes writes' r) is
      (subst (λ (n : ℕ). Appends old told (bin_head_text n h) writes writes' r) same appends)

  module _ {files : Option Files} {reads : ℕ} {old told : Option (List ℕ)} {writes writes' : ℕ} (written : Result (Unit {0}) SinkFault)
      (head : Appends old told (bin_head_text x.bins.count (head_of x.plan)) writes writes' written) where
    head-written : WritesText files files reads reads head-text old told writes writes' (of_sink written)
    head-written =
        writes-sunk written (bin_head_text x.bins.count (head_of x.plan)) head-text refl refl
        (where_always files (λ f. bin_head_text x.bins.count (head_of x.plan) ≡ bin_head_text x.bins.count (head_of x.plan)) (λ f. refl)) head

    -- the head failed
    pub head-failed : {e : Refusal} {r : Result (Unit {0}) Refusal} → Err e ≡ of_sink written → r ≡ Err e
        → WritesText files files reads reads (bin_output x) old told writes writes' r
    head-failed {e = e} {r = r} failed same =
        let first : WritesText {T = Unit {0}} files files reads reads head-text old told writes writes' (Err e) =
        subst (λ (q : Result (Unit {0}) Refusal). WritesText files files reads reads head-text old told writes writes' q) (sym failed) head-written in
        subst (λ (q : Result (Unit {0}) Refusal). WritesText files files reads reads (bin_output x) old told writes writes' q) (sym same)
        (writes-exit (bin_output x) head-text (λ f. scans-text f ++ end-text f) parts first)

    module _ {y : Unit {0}} {files' : Option Files} {reads' : ℕ} {new : Option (List ℕ)} {writes'' : ℕ} (done : Ok y ≡ of_sink {T = Unit {0}} written) where
      -- the head and the records
      both : {r : Result (Unit {0}) Refusal} → WritesText files files' reads reads' scans-text told new writes' writes'' r
          → WritesText files files' reads reads' (λ f. head-text f ++ scans-text f) old new writes writes'' r
      both scans =
          let first : WritesText {T = Unit {0}} files files reads reads head-text old told writes writes' (Ok y) =
          subst (λ (q : Result (Unit {0}) Refusal). WritesText files files reads reads head-text old told writes writes' q) (sym done) head-written in
          writes-then (λ f. head-text f ++ scans-text f) head-text scans-text (λ f. refl) first scans

      -- a record failed
      pub scans-failed : {e : Refusal} {r : Result (Unit {0}) Refusal}
          → WritesText {T = Unit {0}} files files' reads reads' (λ f. flat_map (scan_text x f) (enumerate_from 0 x.plan.scans)) told new writes' writes'' (Err e)
          → r ≡ Err e
          → WritesText files files' reads reads' (bin_output x) old new writes writes'' r
      scans-failed {e = e} {r = r} scans same =
          subst (λ (q : Result (Unit {0}) Refusal). WritesText files files' reads reads' (bin_output x) old new writes writes'' q) (sym same)
          (writes-exit (bin_output x) (λ f. head-text f ++ scans-text f) end-text front (both scans))

      -- all of it
      pub all-written : {z : Unit {0}} {last : Option (List ℕ)} {writes''' : ℕ} (ended : Result (Unit {0}) SinkFault) (count : ℕ)
          → WritesText {T = Unit {0}} files files' reads reads' (λ f. flat_map (scan_text x f) (enumerate_from 0 x.plan.scans)) told new writes' writes'' (Ok z)
          → bin_end_text count ≡ bin_end_text (length (places_of (head_of x.plan)) * x.bins.count)
          → Appends new last (bin_end_text count) writes'' writes''' ended
          → WritesText files files' reads reads' (bin_output x) old last writes writes''' (of_sink ended)
      all-written ended count scans counted end =
          writes-then (bin_output x) (λ f. head-text f ++ scans-text f) end-text front (both scans)
          (writes-sunk ended (bin_end_text count) end-text refl refl
          (where_always files' (λ f. bin_end_text count ≡ bin_end_text (length (places_of (head_of x.plan)) * x.bins.count)) (λ f. counted)) end)
