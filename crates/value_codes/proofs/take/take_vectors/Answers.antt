use Rattle.std.proofs.Common.{◌≡◌, ◌+◌, ◌-◌, ◌*◌, ◌/◌, ◌%◌, ◌^◌, ◌<◌, ◌≤◌, ℕ, List, length, take, drop, sym, subst, ap, ◌∙◌, arith}
use Rattle.std.proofs.lemmas.List.{length-take, length-drop}
use Rattle.std.proofs.lemmas.Nat.{mul-le}
use Rattle.sample_unpack.specs.Level.{code_at}
use Rattle.value_codes.specs.Taken.{taken_of}
use Rattle.value_codes.proofs.CodeLemmas.{many-levels, alike-from, code-of-byte, code-of-field, one-vector-more}
use Rattle.value_codes.proofs.take.take_vectors.Goals as goal
use Rattle.value_codes.proofs.take.take_vectors.Goals.{then-step-eq8, else-step-eq8}

pub put_bytes-requires-clause-alike : goal.put_bytes-requires-clause-alike
put_bytes-requires-clause-alike c =
    let a = c.args in
    let inside : c.if-step-eq8.from + a.bits ≤ a.step = elim c.if-step-eq8.branch [
      | then-step-eq8 w ↦ omega (arith, w.from-is, c.requires.low)
      | else-step-eq8 w ↦ omega (arith, w.from-is, c.requires.low)
    ] in
    alike-from c.table-table.result a.bits c.if-step-eq8.from a.step c.table-table.ensures.lanes inside

part-long : (at end n : ℕ) (codes : List ℕ) → end ≡ at + n → end ≤ length codes → length (take (end - at) (drop at codes)) ≡ n
part-long at end n codes is fits = simp (length-take, length-drop) (omega (arith, is, fits))

pub loop-v-preserved : goal.loop-v-preserved
loop-v-preserved c =
    let a = c.args in
    let v : ℕ = c.loop-v.v in
    let per : ℕ = 8 / a.step in
    let levels : 16 * per * (v + 1) ≤ 16 * per * a.count = mul-le (16 * per) (v + 1) (16 * per) a.count (omega arith) (omega (arith, c.loop-v-test.true)) in
    let fits : 16 * per * (v + 1) ≤ length c.loop-v.codes = omega (arith, levels, c.requires.whole, c.loop-v.auto.codes) in
    let more : 16 * per * (v + 1) ≡ 16 * per * v + per * 16 = grind arith in
    let old : length (take (16 * per * (v + 1) - 16 * per * v) (drop (16 * per * v) c.loop-v.codes)) ≡ per * 16 =
    part-long (16 * per * v) (16 * per * (v + 1)) (per * 16) c.loop-v.codes more fits in
    one-vector-more a.array.now c.loop-v.codes c.put_bytes.new.codes a.bits a.byte a.low a.step per v _ c.requires.step fits (c.put_bytes.auto.codes ∙ old)
    c.loop-v.invariant
    (λ i h.
    let at : ℕ = a.byte + 16 * v in
    let inside : i < length (take (16 * per * (v + 1) - 16 * per * v) (drop (16 * per * v) c.loop-v.codes)) = subst (λ n. i < n) (sym old) h in
    elim c.if-step-eq8.branch [
      | then-step-eq8 w ↦
          let one : 8 / a.step ≡ 1 = ap (λ s. 8 / s) w.if-step-eq8.true in
          c.put_bytes.ensures.one w.if-step-eq8.true i inside
          ∙ code-of-byte a.array.now c.table-table.result a.bits at a.low i c.requires.width (omega (arith, c.requires.low, c.requires.width, w.if-step-eq8.true))
          (λ x below. c.table-table.ensures.lanes x below ∙ ap (λ n. taken_of a.bits (x / 2 ^ n % 2 ^ a.bits)) w.from-is) (omega (arith, h, one))
          ∙ ap (λ s. taken_of a.bits (code_at a.array.now a.bits (8 * at + a.low + i * s))) (sym w.if-step-eq8.true)
      | else-step-eq8 w ↦
          let few : a.step ≤ 4 = many-levels a.step c.requires.step w.if-step-eq8.false in
          c.put_bytes.ensures.more few i inside
          ∙ code-of-field a.array.now c.table-table.result a.bits at a.low a.step per i (omega (arith, c.requires.width)) c.requires.low few c.requires.step
          (λ x below. c.table-table.ensures.lanes x below ∙ ap (λ n. taken_of a.bits (x / 2 ^ n % 2 ^ a.bits)) w.from-is) h
    ])
