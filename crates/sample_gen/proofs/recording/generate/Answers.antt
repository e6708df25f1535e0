use Rattle.std.proofs.Common.{◌≡◌, ◌+◌, ◌*◌, ◌∙◌, ap, sym, arith}
use Rattle.sink_text.proofs.WrittenText.{Puts-then, Puts-nothing, Appends-written}
use Rattle.sample_gen.specs.Frames.{first_word}
use Rattle.sample_gen.specs.Words.{words_from}
use Rattle.sample_gen.proofs.FrameLemmas.{Puts-same, slots_before-none, slots_before-next, slots_before-all}
use Rattle.sample_gen.proofs.recording.generate.Goals as goal

pub loop-k-init : goal.loop-k-init
loop-k-init g c =
    let first : 1001 * (10 * c.args.seconds * c.args.station) ≡ first_word c.args.seconds c.args.station 0 = omega arith in
    record {
      next = c.words_after-words.ensures ∙ ap (words_from c.args.seed) first;
      puts =
          Puts-same (sym (slots_before-none c.args.seed c.args.seconds c.args.station)) (Puts-nothing _ _ _);
    }

pub loop-k-preserved : goal.loop-k-preserved
loop-k-preserved g c =
    let n = first_word c.args.seconds c.args.station c.loop-k.k in
    let behind : n + 1001 ≡ first_word c.args.seconds c.args.station (c.loop-k.k + 1) = omega arith in
    record {
      next = c.put_frame.ensures.next c.args.seed n c.loop-k.invariant.next ∙ ap (words_from c.args.seed) behind;
      puts =
          Puts-then (slots_before-next c.args.seed c.args.seconds c.args.station c.loop-k.k) c.loop-k.invariant.puts
          (c.put_frame.ensures.puts c.args.seed n c.loop-k.invariant.next);
    }

pub returns : goal.returns
returns g c =
    let all : c.loop-k.k ≡ 10 * c.args.seconds = omega (arith, c.loop-k-test.false, c.loop-k.auto.k-end) in
    Appends-written c.new-slots.ensures
    (Puts-same (slots_before-all c.args.seed c.args.seconds c.args.station c.loop-k.k all) c.loop-k.invariant.puts)
    c.end.ensures
