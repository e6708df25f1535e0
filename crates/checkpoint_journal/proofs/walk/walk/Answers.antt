use Rattle.std.proofs.Common.{◌≡◌, ◌∙◌, ◌+◌, ◌≤◌, length, get_or, take, true, IfSome, refl, sym, ap, subst, arith, rules}
use Rattle.dev_traits.proofs.ToldLemmas.{WhereTold-weaker}
use Rattle.plan_places.specs.Places.{place_at, IsPlace}
use Rattle.checkpoint_journal.proofs.RunLemmas.{looks_none, looks_both, looks_three, stays_joined}
use Rattle.checkpoint_journal.proofs.ToldLemmas.{told_both, told_three, told_again}
use Rattle.journal_image.specs.declared.finding.Behind.TheVariants.{Record, Mark, Fault}
use Rattle.journal_image.specs.Image.{MayBeOld, begin}
use Rattle.journal_image.specs.Difference.{end_of}
use Rattle.checkpoint_journal.specs.declared.finding.Found.{Found}
use Rattle.checkpoint_journal.specs.Finding.{IsAt, IsFound, IsOther}
use Rattle.checkpoint_journal.proofs.StepLemmas.{first_at, found_here, step_record, step_mark, step_fault, step_past, IsSeen, told_seen}
use Rattle.checkpoint_journal.proofs.walk.walk.Goals as goal

pub loop-here-init : goal.loop-here-init
loop-here-init g c =
    let id = c.args.id.now in
    let job = c.args.plan.now in
    let first = c.first_gate-here.result in
    record {
      looks = looks_none g.D.Disk.seen g.D.Disk.moment g.D.Disk.may_leave _;
      stays = g.met.D.Disk.stays_on.none _;
      faults = refl;
      old = c.first_gate-here.ensures.old;
      at = told_both _ (λ image. take (1 + length id) image ≡ begin id c.args.old) (λ image. MayBeOld id c.args.old) (λ image. IsAt id job image first)
          (λ image front may. first_at id job image c.args.old first c.first_gate-here.ensures.old c.first_gate-here.ensures.kept c.first_gate-here.ensures.due c.first_gate-here.ensures.gate may front)
          c.requires.begun c.requires.version;
      place = c.first_gate-here.ensures.place.next;
      many = c.first_gate-here.ensures.place.many;
      behind = omega (arith, c.first_gate-here.ensures.gate);
    }

pub returns-in_default-clause-finds : goal.returns-in_default-clause-finds
returns-in_default-clause-finds g c =
    let id = c.args.id.now in
    let job = c.args.plan.now in
    let here = c.loop-here.here in
    told_both _ (λ image. c.args.len ≡ length image) (λ image. IsAt id job image here) (λ image. IsFound id job image here)
    (λ image is walked. found_here id job image here walked (omega (arith, c.loop-here-test.true)) (λ one. c.in_default.is))
    c.requires.length c.loop-here.invariant.at

pub returns-in_err-gate-clause-looks : goal.returns-in_err-gate-clause-looks
returns-in_err-gate-clause-looks g c = looks_both g.D.Disk.seen g.D.Disk.moment g.D.Disk.may_leave _ _ _ c.loop-here.invariant.looks c.byte_at.ensures.looks

pub returns-then-gate-ne1-clause-looks : goal.returns-then-gate-ne1-clause-looks
returns-then-gate-ne1-clause-looks g c = looks_both g.D.Disk.seen g.D.Disk.moment g.D.Disk.may_leave _ _ _ c.loop-here.invariant.looks c.byte_at.ensures.looks

pub returns-then-gate-ne1-clause-finds : goal.returns-then-gate-ne1-clause-finds
returns-then-gate-ne1-clause-finds g c =
    let id = c.args.id.now in
    let job = c.args.plan.now in
    let here = c.loop-here.here in
    told_three _ (λ image. c.args.len ≡ length image) (λ image. c.in_ok-gate.gate ≡ get_or image here.gate 0) (λ image. IsAt id job image here) (λ image. IsFound id job image here)
    (λ image is byte walked. found_here id job image here walked (omega (arith, c.loop-here-test.true)) (λ one. absurd (c.if-gate-ne1.true (byte ∙ one))))
    c.requires.length
    (told_again _ _ (λ image. c.in_ok-gate.gate ≡ get_or image here.gate 0) (sym c.loop-here.invariant.looks.same) c.in_ok-gate.ensures.byte)
    c.loop-here.invariant.at

pub look_behind-requires-clause-length : goal.look_behind-requires-clause-length
look_behind-requires-clause-length g c =
    told_again _ _ (λ image. c.args.len ≡ length image) (c.byte_at.ensures.looks.same ∙ c.loop-here.invariant.looks.same) c.requires.length

pub returns-in_err-e-clause-looks : goal.returns-in_err-e-clause-looks
returns-in_err-e-clause-looks g c = looks_three g.D.Disk.seen g.D.Disk.moment g.D.Disk.may_leave _ _ _ _ c.loop-here.invariant.looks c.byte_at.ensures.looks c.look_behind.ensures.looks

pub returns-in-Fault-clause-looks : goal.returns-in-Fault-clause-looks
returns-in-Fault-clause-looks g c = looks_three g.D.Disk.seen g.D.Disk.moment g.D.Disk.may_leave _ _ _ _ c.loop-here.invariant.looks c.byte_at.ensures.looks c.look_behind.ensures.looks

pub loop-here-preserved-in-Record : goal.loop-here-preserved-in-Record
loop-here-preserved-in-Record g c =
    let id = c.args.id.now in
    let job = c.args.plan.now in
    let here = c.loop-here.here in
    let later = c.past_record-here.result in
    let seen = told_seen id job here c.in-Some.place c.args.len c.in_ok-gate.gate _ _ _ _ _ c.loop-here.invariant.looks.same c.byte_at.ensures.looks.same c.in-Record.is c.requires.length c.in_ok-gate.ensures.byte c.in_ok-e.ensures.behind c.loop-here.invariant.at in
    record {
      looks = looks_three g.D.Disk.seen g.D.Disk.moment g.D.Disk.may_leave _ _ _ _ c.loop-here.invariant.looks c.byte_at.ensures.looks c.look_behind.ensures.looks;
      stays = stays_joined g.D.Disk.stays g.met.D.Disk.stays_on _ _ _ _ c.loop-here.invariant.stays c.byte_at.ensures.stays c.look_behind.ensures.stays;
      faults = search rules;
      old = c.past_record-here.ensures.same.0 ∙ c.loop-here.invariant.old;
      at = WhereTold-weaker _ (IsSeen id job here c.in-Some.place c.args.len c.in_ok-gate.gate (Record c.in-Record.e)) (λ image. IsAt id job image later)
          (λ image s.
          step_record id job image here s.before c.in-Some.place c.in-Some.is (omega (arith, c.loop-here-test.true, s.length_is)) (sym s.byte ∙ c.if-gate-ne1.false) c.in-Record.e later s.behind
          c.past_record-here.ensures.kept c.past_record-here.ensures.gate c.past_record-here.ensures.next c.past_record-here.ensures.same.1 c.past_record-here.ensures.same.0)
          seen;
      place = c.past_record-here.ensures.place;
      many = omega (arith, c.past_record-here.ensures.kept, c.past_record-here.ensures.gate, c.loop-here.invariant.many);
      behind = omega (arith, c.past_record-here.ensures.gate, c.loop-here.invariant.behind);
    }

pub loop-here-preserved : goal.loop-here-preserved
loop-here-preserved g c =
    let id = c.args.id.now in
    let job = c.args.plan.now in
    let here = c.loop-here.here in
    let later : c.past_mark-here.result ≡ record here { gate = here.gate + 25; ranged = true } = c.past_mark-here.ensures in
    let seen = told_seen id job here c.in-Some.place c.args.len c.in_ok-gate.gate _ _ _ _ _ c.loop-here.invariant.looks.same c.byte_at.ensures.looks.same c.in-Mark.is c.requires.length c.in_ok-gate.ensures.byte c.in_ok-e.ensures.behind c.loop-here.invariant.at in
    record {
      looks = looks_three g.D.Disk.seen g.D.Disk.moment g.D.Disk.may_leave _ _ _ _ c.loop-here.invariant.looks c.byte_at.ensures.looks c.look_behind.ensures.looks;
      stays = stays_joined g.D.Disk.stays g.met.D.Disk.stays_on _ _ _ _ c.loop-here.invariant.stays c.byte_at.ensures.stays c.look_behind.ensures.stays;
      faults = search rules;
      old = ap (λ (f : Found). f.old) later ∙ c.loop-here.invariant.old;
      at = WhereTold-weaker _ (IsSeen id job here c.in-Some.place c.args.len c.in_ok-gate.gate Mark) (λ image. IsAt id job image c.past_mark-here.result)
          (λ image s.
          subst (λ (f : Found). IsAt id job image f) (sym later)
          (step_mark id job image here s.before c.in-Some.place c.in-Some.is (omega (arith, c.loop-here-test.true, s.length_is)) (sym s.byte ∙ c.if-gate-ne1.false) s.behind))
          seen;
      place = subst (λ (f : Found). IfSome f.next (λ q. IsPlace job (place_at q))) (sym later) c.loop-here.invariant.place;
      many = subst (λ (f : Found). f.kept ≤ f.gate) (sym later) (omega (arith, c.loop-here.invariant.many));
      behind = subst (λ (f : Found). 1 + length id ≤ f.gate) (sym later) (omega (arith, c.loop-here.invariant.behind));
    }

pub returns-in-Fault-clause-finds : goal.returns-in-Fault-clause-finds
returns-in-Fault-clause-finds g c =
    let id = c.args.id.now in
    let job = c.args.plan.now in
    let here = c.loop-here.here in
    told_both _ (λ image. take (1 + length id) image ≡ begin id c.args.old) (IsSeen id job here c.in-Some.place c.args.len c.in_ok-gate.gate (Fault c.in-Fault.d)) (λ image. IsOther id job image c.in-Fault.d)
    (λ image begun s.
    step_fault id job image here s.before c.in-Some.place c.in-Some.is (omega (arith, c.loop-here-test.true, s.length_is)) (sym s.byte ∙ c.if-gate-ne1.false) c.in-Fault.d c.requires.identity c.requires.job (rw c.loop-here.invariant.old begun) s.behind)
    c.requires.begun
    (told_seen id job here c.in-Some.place c.args.len c.in_ok-gate.gate _ _ _ _ _ c.loop-here.invariant.looks.same c.byte_at.ensures.looks.same c.in-Fault.is c.requires.length c.in_ok-gate.ensures.byte c.in_ok-e.ensures.behind c.loop-here.invariant.at)

pub returns-clause-finds : goal.returns-clause-finds
returns-clause-finds g c =
    let id = c.args.id.now in
    let job = c.args.plan.now in
    let here = c.loop-here.here in
    told_three _ (λ image. c.args.len ≡ length image) (λ image. take (1 + length id) image ≡ begin id c.args.old) (λ image. IsAt id job image here) (λ image. IsOther id job image (end_of c.args.len))
    (λ image is begun walked. step_past id job image here walked c.args.len c.requires.identity c.requires.job (rw c.loop-here.invariant.old begun) is c.loop-here-test.false)
    c.requires.length c.requires.begun c.loop-here.invariant.at
