use Rattle.std.proofs.Common.{ℕ, List, Bor, map, ap, sym, ◌∙◌}
use Rattle.std.proofs.lemmas.List.{drop-map, take_rest}
use Rattle.job_lines.proofs.values.behind.Goals as goal

pub returns-else-fields-n : goal.returns-else-fields-n
returns-else-fields-n c =
    ap (map (λ (field : Bor (List ℕ)). field.now)) (take_rest c.args.fields.now c.args.n) ∙ sym (drop-map (λ (field : Bor (List ℕ)). field.now) c.args.n c.args.fields.now)
