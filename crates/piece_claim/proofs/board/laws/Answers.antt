use Rattle.piece_claim.proofs.EventLaws.{each_event_keeps}
use Rattle.piece_claim.proofs.Numbers.{distinct_in_group}
use Rattle.piece_claim.proofs.Bounds.{word_bound, next_bound}
use Rattle.piece_claim.proofs.board.laws.Goals as goal

pub returns-clause-events : goal.returns-clause-events
returns-clause-events c = each_event_keeps

pub returns-clause-words : goal.returns-clause-words
returns-clause-words c = word_bound

pub returns-clause-counter : goal.returns-clause-counter
returns-clause-counter c = next_bound

pub returns-clause-group : goal.returns-clause-group
returns-clause-group c = distinct_in_group
