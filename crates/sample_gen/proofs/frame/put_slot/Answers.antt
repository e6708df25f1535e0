use Rattle.std.proofs.Common.{◌≡◌, ◌∙◌, ◌++◌, drop, replicate, ap, sym, append-nil}
use Rattle.sink_text.proofs.WrittenText.{Puts-then}
use Rattle.vdif_frame.specs.Header.{header_bytes}
use Rattle.vdif_frame.specs.Shape.{head_bytes}
use Rattle.sample_gen.proofs.frame.put_slot.Goals as goal

pub returns : goal.returns
returns g c =
    let head : c.write.new.out ≡ header_bytes c.args.header.now =
    c.write.ensures.bytes
    ∙ ap (λ legacy. header_bytes c.args.header.now ++ drop (head_bytes legacy) (replicate 32 0)) c.requires
    ∙ append-nil (header_bytes c.args.header.now) in
    Puts-then (ap (λ front. front ++ c.args.array.now) (sym head)) c.put.ensures c.put-2.ensures
