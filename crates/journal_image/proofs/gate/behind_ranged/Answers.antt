use Rattle.std.proofs.Common.{true, ◌≡◌, ◌≢◌, ◌∙◌, ℕ, ◌+◌, ◌*◌, ◌<◌, ◌≤◌, length, get_or, take, drop, Some, None, refl, sym, subst, arith}
use Rattle.piece_plan.specs.declared.epoch.EpochPlan.{EpochPlan}
use Rattle.piece_plan.specs.Epochs.{cell_count}
use Rattle.plan_places.specs.Places.{place_at}
use Rattle.journal_image.specs.Head.{place_text}
use Rattle.journal_image.specs.Difference.{IsRange}
use Rattle.journal_image.specs.Finding.{IsFault}
use Rattle.journal_image.proofs.GateLemmas.{place_same, front_stands, range_stands, fault_at, fault_place, fault_end, fault_short, fault_cells}
use Rattle.journal_image.proofs.gate.behind_ranged.Goals as goal

pub returns-then-same-there-clause-is : goal.returns-then-same-there-clause-is
returns-then-same-there-clause-is c bytes long front =
    let job = c.args.plan.now in
    let p = place_at c.args.place.now in
    let head = c.args.head.now in
    let due = c.head_from-due.result in
    let k = c.same_front-same.result in
    let low : k < 20 = omega (arith, c.if-same-there.true) in
    let same = place_same head bytes due p k (omega arith) front c.head_from-due.ensures c.same_front-same.ensures.same in
    let byte : get_or head k 0 ≡ get_or bytes k 0 = front k (omega arith) in
    let ours : get_or due k 0 ≡ get_or (place_text p) k 0 = c.head_from-due.ensures k low in
    let other : get_or bytes k 0 ≢ get_or (place_text p) k 0 = λ e. c.same_front-same.ensures.other c.if-same-there.true (byte ∙ e ∙ sym ours) in
    let fault = fault_place job p bytes c.args.at c.requires.job k low (omega (arith, c.if-same-there.true)) same other in
    subst (λ (x : ℕ). IsFault job true p bytes c.args.at (c.args.at + length bytes) record { at = c.args.at + k; kept = Some x; ours = Some (get_or due k 0) }) (sym byte)
    (subst (λ (x : ℕ). IsFault job true p bytes c.args.at (c.args.at + length bytes) record { at = c.args.at + k; kept = Some (get_or bytes k 0); ours = Some x }) (sym ours) fault)

pub returns-then-left-lt28-clause-is : goal.returns-then-left-lt28-clause-is
returns-then-left-lt28-clause-is c bytes long front =
    let job = c.args.plan.now in
    let p = place_at c.args.place.now in
    let k = c.same_front-same.result in
    let low : k ≤ 20 = omega (arith, c.same_front-same.ensures.within) in
    let same = place_same c.args.head.now bytes c.head_from-due.result p k low front c.head_from-due.ensures c.same_front-same.ensures.same in
    let fault = fault_short job p bytes c.args.at c.requires.job (length bytes) refl (omega (arith, c.if-left-lt28.true))
    (λ j below first. same j (omega (arith, c.if-same-there.false))) in
    fault_at job true p bytes c.args.at c.args.left c.cut_short.result long c.cut_short.ensures fault

pub returns-in_default-clause-is : goal.returns-in_default-clause-is
returns-in_default-clause-is c bytes long front =
    let job = c.args.plan.now in
    let p = place_at c.args.place.now in
    let enough : 28 ≤ length bytes = omega (arith, c.if-left-lt28.false) in
    let stands = front_stands c.args.head.now bytes c.head_from-due.result p c.same_front-same.result c.read_u64-to.result enough
    (omega (arith, enough, c.if-same-there.false)) front c.head_from-due.ensures c.same_front-same.ensures.same c.read_u64-to.ensures in
    let fault = fault_end job p bytes c.args.at c.requires.job enough stands.0 (subst (λ (n : ℕ). (e : EpochPlan) → ¬ IsRange job p n e) stands.1 c.in_default.ensures.none) in
    subst (λ (x : ℕ). IsFault job true p bytes c.args.at (c.args.at + length bytes) record { at = c.args.at + 20; kept = Some x; ours = None }) (sym (front 20 (omega arith))) fault

pub returns-then-left-record_len-clause-is : goal.returns-then-left-record_len-clause-is
returns-then-left-record_len-clause-is c bytes long front =
    let job = c.args.plan.now in
    let p = place_at c.args.place.now in
    let e = c.in-Some.e in
    let enough : 28 ≤ length bytes = omega (arith, c.if-left-lt28.false) in
    let stands = front_stands c.args.head.now bytes c.head_from-due.result p c.same_front-same.result c.read_u64-to.result enough
    (omega (arith, enough, c.if-same-there.false)) front c.head_from-due.ensures c.same_front-same.ensures.same c.read_u64-to.ensures in
    let range = subst (λ (n : ℕ). IsRange job p n e) stands.1 c.in-Some.ensures.some in
    let few : length bytes < 28 + 24 * cell_count e = omega (arith, c.cells.ensures, c.record_len.ensures.is) in
    fault_at job true p bytes c.args.at c.args.left c.cut_short-then-left-record_len.result long c.cut_short-then-left-record_len.ensures
    (fault_cells job p bytes c.args.at c.requires.job e range enough stands.0 few)

pub returns-clause-is : goal.returns-clause-is
returns-clause-is c bytes long front =
    let e = c.in-Some.e in
    let p = place_at c.args.place.now in
    let enough : 28 + 24 * cell_count e ≤ length bytes = omega (arith, c.cells.ensures, c.record_len.ensures.is) in
    let stands = front_stands c.args.head.now bytes c.head_from-due.result p c.same_front-same.result c.read_u64-to.result (omega (arith, enough))
    (omega (arith, enough, c.if-same-there.false)) front c.head_from-due.ensures c.same_front-same.ensures.same c.read_u64-to.ensures in
    let range = subst (λ (n : ℕ). IsRange c.args.plan.now p n e) stands.1 c.in-Some.ensures.some in
    let are : (i : ℕ) → i < 28 → get_or bytes i 0 < 256 = λ i below. subst (λ (x : ℕ). x < 256) (front i below) (omega (arith, c.type_inv.head i)) in
    (take (24 * cell_count e) (drop 28 bytes), range_stands c.args.plan.now p bytes e are range stands.0 enough)
