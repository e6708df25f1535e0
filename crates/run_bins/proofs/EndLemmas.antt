-- The end of the text of bins.
use Rattle.std.proofs.Common.{◌≡◌, ◌∙◌, ℕ, ◌%◌, ◌^◌, ap}
use Rattle.bin_records.specs.Texts.{bin_end_text}
use Rattle.vis_writer.proofs.FileText.{end_text-low}

-- it has the lowest 64 bits of the number of records
end-low : (n : ℕ) → bin_end_text (n % 2 ^ 64) ≡ bin_end_text n
unfolding bin_end_text
end-low n = end_text-low n

pub end-counted : (count n : ℕ) → count ≡ n % 2 ^ 64 → bin_end_text count ≡ bin_end_text n
end-counted count n counted = ap bin_end_text counted ∙ end-low n
