-- The job that rows say, none where one is missing.
use Rattle.std.proofs.Common.{◌≡◌, ℕ, Bool, true, false, Some, None, refl}
use Rattle.job_text.specs.Said.{Said}
use Rattle.job_text.specs.Answer.{is_whole, job_by}
use Rattle.job_text.specs.Numbers.{job_from}
use Rattle.job_text.specs.declared.numbers.Numbers.{Numbers}

module _ (inline : Bool) (said : Said) where
  pub job_by-no_lags : said.lags ≡ None → job_by inline said ≡ None
  unfolding job_by
  job_by-no_lags is = rw is refl

  pub job_by-no_integration : (lags : ℕ) → said.lags ≡ Some lags → said.integration ≡ None → job_by inline said ≡ None
  unfolding job_by
  job_by-no_integration lags is_lags is = rw (is_lags, is) refl

  pub job_by-no_epoch : (lags integration : ℕ) → said.lags ≡ Some lags → said.integration ≡ Some integration → said.epoch ≡ None → job_by inline said ≡ None
  unfolding job_by
  job_by-no_epoch lags integration is_lags is_integration is = rw (is_lags, is_integration, is) refl

  module _ (numbers : Numbers) (is_lags : said.lags ≡ Some numbers.lags) (is_integration : said.integration ≡ Some numbers.integration) (is_epoch : said.epoch ≡ Some numbers.epoch) where
    pub job_by-not_whole : is_whole inline said ≡ false → job_by inline said ≡ None
    unfolding job_by
    job_by-not_whole missing = rw (is_lags, is_integration, is_epoch, missing) refl

    pub job_by-whole : is_whole inline said ≡ true → job_by inline said ≡ Some (job_from said numbers)
    unfolding job_by
    job_by-whole whole = rw (is_lags, is_integration, is_epoch, whole) refl
