use Rattle.std.proofs.Common.{◌∙◌, ◌++◌, ap, ap₂, sym, replicate, arith}
use Rattle.sink_text.proofs.WrittenText.{Puts-nothing, Puts-then}
use Rattle.vdif_frame.specs.Header.{header_bytes}
use Rattle.sample_gen.proofs.FrameLemmas.{Puts-same, slots_by-zero, slots_by-one, slots_by-two, slots_by-more}
use Rattle.sample_gen.proofs.frame.put_slots.Goals as goal

pub returns-in-0 : goal.returns-in-0
returns-in-0 g c = Puts-same (sym (slots_by-zero c.args.word c.args.station c.args.k c.args.array.now c.in-0.is)) (Puts-nothing _ _ _)

pub returns-in-1 : goal.returns-in-1
returns-in-1 g c =
    Puts-same
    (ap (λ h. header_bytes h ++ c.args.array.now) c.header.ensures
    ∙ sym (slots_by-one c.args.word c.args.station c.args.k c.args.array.now c.in-1.is))
    c.put_slot.ensures

pub returns-in-2 : goal.returns-in-2
returns-in-2 g c =
    Puts-then
    (slots_by-two c.args.word c.args.station c.args.k c.args.array.now c.in-2.is
    ∙ ap₂ (λ h i. (header_bytes h ++ c.args.array.now) ++ (header_bytes i ++ replicate 8000 0)) (sym c.header-in-2.ensures) (sym c.header-in-2-2.ensures))
    c.put_slot-in-2.ensures
    c.put_slot-in-2-2.ensures

pub returns-in_default : goal.returns-in_default
returns-in_default g c =
    Puts-same
    (ap (λ h. header_bytes h ++ c.args.array.now) c.header-in_default.ensures
    ∙ sym (slots_by-more c.args.word c.args.station c.args.k c.args.array.now (omega (arith, c.in_default))))
    c.put_slot-in_default.ensures
