use Rattle.std.proofs.Common.{◌≡◌, ◌∙◌, ◌<◌, ap, ℕ, Some, true, false, length, arith}
use Rattle.std.specs.List.{slice_set}
use Rattle.frame_index.specs.Passed.{is_passed}
use Rattle.frame_index.proofs.PassedLemmas.{met-set, met-late}
use Rattle.frame_index.proofs.latest.LatestFrames.meet.Goals as goal

pub returns-then-not-late-clause-met : goal.returns-then-not-late-clause-met
returns-then-not-late-clause-met c = λ other.
    let inside : c.args.frame.thread < length c.args.self.now.last.items = omega (arith, c.args.self.now.threads) in
    let late : is_passed c.args.self.now.last.items c.args.frame ≡ false = cc in
    ap (λ (i : ℕ). is_passed (slice_set c.args.self.now.last.items i (Some c.args.frame)) other) c.from.ensures
    ∙ met-set c.args.self.now.last.items c.args.frame other inside late

pub returns-else-not-late-clause-met : goal.returns-else-not-late-clause-met
returns-else-not-late-clause-met c = λ other.
    let inside : c.args.frame.thread < length c.args.self.now.last.items = omega (arith, c.args.self.now.threads) in
    let late : is_passed c.args.self.now.last.items c.args.frame ≡ true = cc in
    met-late c.args.self.now.last.items c.args.frame other inside late
