use Rattle.std.proofs.Common.{◌||◌, bytes_eq, is_some, ap, ◌∙◌}
use Rattle.std.proofs.lemmas.List.{take_all}
use Rattle.std.specs.List.{list_any}
use Rattle.named_list.specs.Named.{named}
use Rattle.scan_list.specs.declared.scan.Pass.{Pass}
use Rattle.job_join.proofs.Sets.{any-turn}
use Rattle.job_join.proofs.names.keep_keys.Goals as goal

pub loop-pass-preserved : goal.loop-pass-preserved
loop-pass-preserved c q =
    any-turn (λ (pass : Pass). bytes_eq pass.key q) (is_some (named c.args.set.now q)) c.args.passes.now c.loop-pass.pass-index c.pass-item.result _ _ c.loop-pass-test.true c.pass-item.is (c.loop-pass.invariant q)
    (c.in_ok-keep.ensures q ∙ ap (λ key. is_some (named c.loop-pass.set q) || bytes_eq key q) c.bytes.ensures)

pub returns : goal.returns
returns c q =
    c.loop-pass.invariant q ∙ ap (λ ps. is_some (named c.args.set.now q) || list_any (λ (pass : Pass). bytes_eq pass.key q) ps)
    (take_all c.loop-pass.pass-index c.args.passes.now c.loop-pass-test.false)
