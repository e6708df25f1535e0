use Rattle.std.proofs.Common.{◌++◌, ◌∷◌, [], take, ap, sym, ◌∙◌}
use Rattle.std.proofs.lemmas.List.{take_all, take_more}
use Rattle.job_join.proofs.plans.copies.Goals as goal

pub loop-file-preserved : goal.loop-file-preserved
loop-file-preserved c =
    c.in_ok-push.ensures.items ∙ ap (λ front. front ++ c.in_ok-file.file ∷ []) c.loop-file.invariant
    ∙ ap (λ file. take c.loop-file.file-index c.args.files.now ++ file ∷ []) (c.in_ok-file.ensures ∙ c.file-item.is) ∙ sym (take_more c.args.files.now c.loop-file.file-index c.file-item.result c.loop-file-test.true)

pub returns : goal.returns
returns c = c.loop-file.invariant ∙ take_all c.loop-file.file-index c.args.files.now c.loop-file-test.false
