use Rattle.std.proofs.Common.{◌≡◌, ◌||◌, ℕ, List, take, bytes_eq, is_some}
use Rattle.std.specs.List.{list_any}
use Rattle.named_list.specs.Named.{named}
use Rattle.scan_list.specs.declared.scan.Pass.{Pass}
use Rattle.job_join.proofs.names.keep_keys.Given as goal

abbrev pub invariant-loop-pass : goal.invariant-loop-pass
invariant-loop-pass l = (q : List ℕ) → is_some (named l.set q) ≡ (is_some (named l.initial.set q) || list_any (λ (pass : Pass). bytes_eq pass.key q) (take l.pass-index l.passes))
