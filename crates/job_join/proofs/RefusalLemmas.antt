-- The causes for which a job and a schedule do not go together, one after the other.
use Rattle.std.proofs.Common.{◌≡◌, ℕ, false, List, [], ◌∷◌, ◌++◌, Option, None, Some, is_some, option_map, refl, sym}
use Rattle.std.specs.Option.{option_or}
use Rattle.scan_list.specs.declared.scan.Scan.{Scan}
use Rattle.job_text.specs.Job.{JobFields}
use Rattle.job_join.specs.declared.fault.Quantity.{Quantity}
use Rattle.job_join.specs.declared.fault.JoinFault.{JoinFault}
use Rattle.job_join.specs.declared.fault.JoinFault.TheVariants.{UnknownScan, UnknownStation, RateDiffers, ChannelDiffers, ProductDiffers, FrameRate, NoModel, NoClock, Limit}
use Rattle.job_join.specs.Standing.{unknown_scan, unknown_station}
use Rattle.job_join.specs.Differing.{rate_differs, channel_differs, product_differs, frame_rate}
use Rattle.job_join.specs.Modelled.{no_model, no_clock}
use Rattle.job_join.specs.Limits.{limit}
use Rattle.job_join.specs.Joined.{first_there, refusal_of}
use Rattle.job_join.specs.Joining.{early_of, late_of}

first_there-append : (xs ys : List (Option JoinFault)) → first_there (xs ++ ys) ≡ option_or (first_there xs) (first_there ys)
first_there-append [] ys = refl
first_there-append (None ∷ xs) ys = first_there-append xs ys
first_there-append (Some fault ∷ xs) ys = refl

nine : (a b c d e f g h i : Option JoinFault) → option_or (first_there (a ∷ b ∷ c ∷ d ∷ e ∷ f ∷ [])) (first_there (g ∷ h ∷ i ∷ [])) ≡ first_there (a ∷ b ∷ c ∷ d ∷ e ∷ f ∷ g ∷ h ∷ i ∷ [])
nine a b c d e f g h i = sym (first_there-append (a ∷ b ∷ c ∷ d ∷ e ∷ f ∷ []) (g ∷ h ∷ i ∷ []))

-- the first cause of all is the first of some, or else that of the others
pub refusal_of-parts : (job : JobFields) (epoch : ℕ) (scans : List Scan) → option_or (early_of job scans) (late_of job epoch scans) ≡ refusal_of job epoch scans
unfolding refusal_of
refusal_of-parts job epoch scans =
    nine (option_map UnknownScan (unknown_scan job scans)) (option_map UnknownStation (unknown_station job scans)) (option_map RateDiffers (rate_differs job scans))
    (option_map ChannelDiffers (channel_differs job scans)) (option_map ProductDiffers (product_differs job scans)) (option_map FrameRate (frame_rate job scans))
    (option_map NoModel (no_model job scans)) (option_map NoClock (no_clock job scans)) (option_map (λ (l : Quantity × ℕ). Limit l.0 l.1) (limit job epoch scans))

-- where none of the early causes is there all stations stand somewhere
pub early_of-known : (job : JobFields) (scans : List Scan) → is_some (early_of job scans) ≡ false → unknown_station job scans ≡ None
early_of-known job scans none = by (unknown_scan job scans) (unknown_station job scans) _ none
  where
    by : (o p : Option ℕ) (more : List (Option JoinFault)) → is_some (first_there (option_map UnknownScan o ∷ option_map UnknownStation p ∷ more)) ≡ false → p ≡ None
    by o None more none = refl
    by None (Some s) more none = absurd cc
    by (Some t) (Some s) more none = absurd cc
