use Rattle.std.proofs.Common.{◌≤◌, ℕ, All, rules, sym, subst}
use Rattle.journal_cases.proofs.board.post_piece.Goals as goal

pub post-requires-clause-within : goal.post-requires-clause-within
post-requires-clause-within c = subst (λ (b : ℕ). All (λ (a : ℕ). a ≤ b) c.args.amounts.now) (sym c.requires.bound) (c.are_small.ensures.0 (search rules))
