use Rattle.std.proofs.Common.{◌+◌, ◌∙◌, ap, length, ℕ}
use Rattle.std.proofs.lemmas.List.{length-replicate}
use Rattle.piece_claim.specs.declared.sizes.Sizes.{Sizes}
use Rattle.piece_claim.specs.State.{sums}
use Rattle.piece_claim.specs.Invariant.{IsSizes}
use Rattle.atomic_sums.proofs.RuleSteps.{starts}
use Rattle.atomic_sums.proofs.board.SumBoard.new.Goals as goal

pub of_words-requires : goal.of_words-requires
of_words-requires c =
    let k : Sizes = record { groups = c.args.groups; per_group = c.args.per_group; width = c.args.width; bound = c.args.bound; shares = c.args.shares } in
    let some = c.requires.some in
    let sizes : IsSizes k = record { groups = some.0; per_group = some.1; width = some.2; bound = some.3; shares = some.4; few = c.requires.few; fits = c.requires.fits; room = c.requires.room; words = c.requires.words } in
    starts k c.deref.result.now sizes (c.deref.ensures.value ∙ c.in_ok-words.ensures)

pub invariant_of-result : goal.invariant_of-result
invariant_of-result c =
    let k : Sizes = record { groups = c.args.groups; per_group = c.args.per_group; width = c.args.width; bound = c.args.bound; shares = c.args.shares } in
    let some = c.requires.some in
    let sizes : IsSizes k = record { groups = some.0; per_group = some.1; width = some.2; bound = some.3; shares = some.4; few = c.requires.few; fits = c.requires.fits; room = c.requires.room; words = c.requires.words } in
    let made = c.in_ok-table.ensures in
    record {
      sizes = sizes;
      key = made.5;
      no_slots = made.1;
      words = made.0 ∙ ap length (c.deref.ensures.value ∙ c.in_ok-words.ensures) ∙ length-replicate {A = ℕ} (1 + sums k) 0;
    }
