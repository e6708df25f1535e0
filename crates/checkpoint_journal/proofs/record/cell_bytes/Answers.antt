use Rattle.std.proofs.Common.{rules, refl, w64, FitsSigned, to_z-of_z}
use Rattle.checkpoint_journal.proofs.record.cell_bytes.Goals as goal

pub returns : goal.returns
returns c =
    let re : FitsSigned w64 c.args.cell.re = search rules in
    let im : FitsSigned w64 c.args.cell.im = search rules in
    let h1 = simp to_z-of_z at c.write_i64.ensures in
    let h2 = simp to_z-of_z at c.write_i64-2.ensures in
    rw (c.write_u64.ensures, h2, h1) refl
