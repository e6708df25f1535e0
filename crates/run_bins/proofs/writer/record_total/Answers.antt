use Rattle.std.proofs.Common.{◌≡◌, ◌∙◌, ◌*◌, ◌%◌, ◌^◌, length, rules, ap}
use Rattle.std.proofs.lemmas.Nat.{mul-mod_first}
use Rattle.corr_model.specs.Records.{places_of}
use Rattle.run_bins.proofs.writer.record_total.Goals as goal

pub returns : goal.returns
returns c =
    let same : c.from.result ≡ c.args.bins = search rules in
    ap (λ n. (c.record_count.result * n) % 2 ^ 64) same
    ∙ ap (λ n. (n * c.args.bins) % 2 ^ 64) c.record_count.ensures
    ∙ mul-mod_first (length (places_of c.args.head.now)) c.args.bins (2 ^ 64)
