-- The channels of a job.
use Rattle.std.specs.Prelude.{flat_map}
use Rattle.std.proofs.Common.{ℕ, ◌<◌, ◌≤◌, Bool, true, false, cond, List, [], ◌∷◌, length, All, arith}
use Rattle.std.proofs.lemmas.List.Elements.{All-nil, All-cons, All-head, All-tail, All-weaker}
use Rattle.job_text.specs.Job.{JobFields}
use Rattle.job_text.specs.Ranges.{IsName}
use Rattle.job_join.specs.Standing.{is_among}
use Rattle.job_join.specs.Channels.{first_uses, product_names, channels_of}
use Rattle.job_join.proofs.RangesLists.{All-flat_map}

first_uses-All : (P : List ℕ → Type 0) (before names : List (List ℕ)) → All P names → All P (first_uses before names)
first_uses-All P before [] all = All-nil P
first_uses-All P before (name ∷ names) all =
    by (is_among name before) (first_uses-All P before names (All-tail P name names all)) (first_uses-All P (name ∷ before) names (All-tail P name names all))
  where
    by : (b : Bool) → All P (first_uses before names) → All P (first_uses (name ∷ before) names) → All P (cond b (first_uses before names) (name ∷ first_uses (name ∷ before) names))
    by true known new = known
    by false known new = All-cons P name (first_uses (name ∷ before) names) (All-head P name names all) new

pub channels_of-named : (job : JobFields) → All (λ p. IsName p.0 × IsName p.1) job.products → All IsName (channels_of job)
unfolding channels_of
channels_of-named job all =
    first_uses-All IsName [] (product_names job)
    (All-flat_map IsName (λ p. p.0 ∷ p.1 ∷ []) job.products
    (All-weaker (λ p. IsName p.0 × IsName p.1) (λ p. All IsName (p.0 ∷ p.1 ∷ []))
    (λ p both. All-cons IsName p.0 (p.1 ∷ []) both.0 (All-cons IsName p.1 [] both.1 (All-nil IsName))) job.products all))

first_uses-some : (products : List (List ℕ × List ℕ)) → 1 ≤ length products → 0 < length (first_uses [] (flat_map (λ p. p.0 ∷ p.1 ∷ []) products))
first_uses-some [] some = some
first_uses-some (p ∷ products) some = omega arith

-- a job with a product has a channel
pub channels_of-some : (job : JobFields) → 1 ≤ length job.products → 0 < length (channels_of job)
unfolding channels_of
channels_of-some job some = first_uses-some job.products some
