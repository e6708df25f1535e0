use Rattle.std.proofs.Common.{◌++◌, ◌∷◌, [], ◌+◌, ◌<◌, ℕ, List, length, map, take, drop, arith, sym, ap, ◌∙◌}
use Rattle.std.proofs.lemmas.List.{map_push}
use Rattle.std.proofs.lemmas.List.Elements.{All-push}
use Rattle.std.proofs.lemmas.Result.{err_from_is_err_and}
use Rattle.vex_reader.specs.declared.file.Item.{Item}
use Rattle.vex_schedule.specs.Schedule.{scan_of, scans_of}
use Rattle.scan_list.specs.Sound.{IsScan}
use Rattle.vex_schedule.proofs.Lists.{drop-there, map-take_more}
use Rattle.read_steps.proofs.StepLemmas.{in_turn-read, in_turn-ends}
use Rattle.vex_schedule.specs.Answers.{out_of_memory}
use Rattle.vex_schedule.proofs.scans.scans_of.Goals as goal

pub returns-in_err-scan-clause-value : goal.returns-in_err-scan-clause-value
returns-in_err-scan-clause-value c =
    let p = err_from_is_err_and c.from_residual.result c.from_residual.ensures.1 in
    let items : List (List ℕ × Item) = c.args.items.now in
    let i : ℕ = c.loop-i.i in
    let entry : List ℕ × Item = (c.at.result.0.now, c.at.result.1.now) in
    let less : i < length items = omega arith in
    rw (p.1, p.2) (in_turn-ends out_of_memory (λ before scan. scan_of c.args.file.now scan.0 scan.1) c.loop-i.scans.items (drop i items) (drop (i + 1) items) entry c.in_err-scan.field-0.0 (scans_of c.args.file.now items)
    (drop-there items i entry less c.at.ensures.entry) c.in_err-scan.ensures.value c.loop-i.invariant.so_far)

pub loop-i-preserved : goal.loop-i-preserved
loop-i-preserved c =
    let items : List (List ℕ × Item) = c.args.items.now in
    let i : ℕ = c.loop-i.i in
    let entry : List ℕ × Item = (c.at.result.0.now, c.at.result.1.now) in
    let less : i < length items = omega arith in
    let scans = c.loop-i.scans.items in
    let scan = c.in_ok-scan.scan in
    let more = c.in_ok-push.ensures.items in
    record {
      so_far = in_turn-read (λ before scan. scan_of c.args.file.now scan.0 scan.1) scans c.push.new.self.items (drop i items) (drop (i + 1) items) entry scan (scans_of c.args.file.now items)
          (drop-there items i entry less c.at.ensures.entry) c.in_ok-scan.ensures.value more c.loop-i.invariant.so_far;
      sound = rw more (All-push IsScan scans scan c.loop-i.invariant.sound c.in_ok-scan.ensures.sound);
      names = rw more (map_push (λ s. s.name) scans scan ∙ ap (λ front. front ++ scan.name ∷ []) c.loop-i.invariant.names
          ∙ ap (λ name. map (λ x. x.0) (take i items) ++ name ∷ []) c.in_ok-scan.ensures.name
          ∙ sym (map-take_more (λ x. x.0) items i entry less c.at.ensures.entry));
    }
