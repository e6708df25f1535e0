use Rattle.std.proofs.Common.{length, Option, sym, subst, arith}
use Rattle.dev_traits.specs.Told.{WhereTold}
use Rattle.journal_image.specs.declared.difference.Differs.{Differs}
use Rattle.journal_image.specs.Difference.{end_of}
use Rattle.checkpoint_journal.proofs.RunLemmas.{looks_both}
use Rattle.checkpoint_journal.proofs.ToldLemmas.{told_both, told_three, told_again}
use Rattle.checkpoint_journal.specs.Front.{IsBegun, OursTo, FindsFirst}
use Rattle.checkpoint_journal.specs.Part.{part_mark, IsOfPart, IsNoPart, AreNumbers}
use Rattle.checkpoint_journal.proofs.PartLemmas.{part_cut, part_found}
use Rattle.checkpoint_journal.proofs.part.part_begun.Goals as goal

pub returns-in_err-from-in-None-clause-looks : goal.returns-in_err-from-in-None-clause-looks
returns-in_err-from-in-None-clause-looks g c = looks_both g.D.Disk.seen g.D.Disk.moment g.D.Disk.may_leave _ _ _ c.first_difference.ensures.looks c.read_numbers.ensures.looks

pub returns-in_ok-from-in-None-clause-looks : goal.returns-in_ok-from-in-None-clause-looks
returns-in_ok-from-in-None-clause-looks g c = looks_both g.D.Disk.seen g.D.Disk.moment g.D.Disk.may_leave _ _ _ c.first_difference.ensures.looks c.read_numbers.ensures.looks

pub returns-then-len-lt25-clause-finds : goal.returns-then-len-lt25-clause-finds
returns-then-len-lt25-clause-finds g c =
    let seen = g.D.Disk.seen c.args.disk.now in
    let len = c.args.len in
    let first = subst (λ (r : Option Differs). WhereTold seen (λ image. FindsFirst part_mark image r)) c.in-None.is c.in_ok-d.ensures.first in
    told_both seen (λ image. IsBegun image len) (λ image. OursTo part_mark image (length part_mark)) (λ image. IsNoPart image (end_of len))
    (λ image begun ours. part_cut image len begun.length_is c.requires.some c.if-len-lt25.true begun.is_open ours)
    c.requires.begun first

pub returns-in_ok-from-in-None-clause-finds : goal.returns-in_ok-from-in-None-clause-finds
returns-in_ok-from-in-None-clause-finds g c =
    let seen = g.D.Disk.seen c.args.disk.now in
    let len = c.args.len in
    let from = c.in_ok-from-in-None.from in
    let to = c.in_ok-from-in-None.to in
    let first = subst (λ (r : Option Differs). WhereTold seen (λ image. FindsFirst part_mark image r)) c.in-None.is c.in_ok-d.ensures.first in
    told_three seen (λ image. IsBegun image len) (λ image. OursTo part_mark image (length part_mark)) (λ image. AreNumbers image from to) (λ image. IsOfPart image from to)
    (λ image begun ours numbers. part_found image len from to begun.length_is c.requires.some (omega (arith, c.if-len-lt25.false)) begun.is_open ours numbers)
    c.requires.begun first
    (told_again seen _ (λ image. AreNumbers image from to) (sym c.first_difference.ensures.looks.same) c.in_ok-from-in-None.ensures.numbers)
