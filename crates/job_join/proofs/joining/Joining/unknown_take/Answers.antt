use Rattle.std.proofs.Common.{◌≡◌, ℕ, not, is_some, List, Option, option_map, ap, ◌∙◌}
use Rattle.std.specs.List.{position}
use Rattle.named_list.specs.Named.{named}
use Rattle.job_join.specs.declared.fault.JoinFault.TheVariants.{UnknownScan}
use Rattle.job_join.specs.declared.joining.Joining.{Joining}
use Rattle.job_join.specs.Standing.{unknown_scan}
use Rattle.job_join.specs.Joining.{scans_of, IsJoining}
use Rattle.job_join.proofs.joining.Joining.unknown_take.Goals as goal

found : (j : Joining) (takes : List (List ℕ)) (o : Option ℕ) → IsJoining j → takes ≡ j.job.now.takes
    → o ≡ position (λ name. not (is_some (named j.scan_names name))) takes → o ≡ unknown_scan j.job.now (scans_of j)
unfolding unknown_scan
found j takes o joining same is =
    is ∙ ap (position (λ name. not (is_some (named j.scan_names name)))) same ∙ ap (λ test. position test j.job.now.takes) (λ i name. not (joining.scan_names name i))

pub returns-in-None : goal.returns-in-None
returns-in-None c = ap (option_map UnknownScan) (found c.args.self.now _ _ c.requires c.takes.ensures c.in-None.ensures)

pub returns-in-Some : goal.returns-in-Some
returns-in-Some c = ap (option_map UnknownScan) (found c.args.self.now _ _ c.requires c.takes.ensures c.in-Some.ensures)
