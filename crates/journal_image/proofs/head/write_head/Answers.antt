use Rattle.std.proofs.Common.{◌∙◌, length, sym, ap}
use Rattle.std.proofs.lemmas.List.{length-take-le}
use Rattle.journal_image.proofs.head.write_head.Goals as goal

pub copy_from_slice-requires : goal.copy_from_slice-requires
copy_from_slice-requires c = length-take-le 28 c.args.bytes.now c.requires ∙ sym (ap length c.head_bytes.ensures)
