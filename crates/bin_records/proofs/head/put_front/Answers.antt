use Rattle.std.proofs.Common.{refl, sym, subst}
use Rattle.std.specs.List.{All}
use Rattle.corr_model.specs.Records.{IsName}
use Rattle.sink_text.proofs.WrittenText.{Puts-then}
use Rattle.bin_records.proofs.TextPieces.{head_front-pieces}
use Rattle.bin_records.proofs.head.put_front.Goals as goal

pub put_names-requires : goal.put_names-requires
put_names-requires g c = subst (All IsName) (sym c.stations-2.ensures.stations) c.stations-2.ensures.head.keys

pub returns : goal.returns
returns g c =
    let text = head_front-pieces c.args.bins c.args.head.now _ _ _ _ _ c.lags.ensures c.integration.ensures c.rate.ensures c.stations.ensures.stations c.stations-2.ensures.stations in
    let bins = Puts-then refl c.put.ensures c.put_u32.ensures in
    let sizes = Puts-then refl (Puts-then refl (Puts-then refl bins c.put_u32-2.ensures) c.put_u64.ensures) c.put_u64-2.ensures in
    Puts-then text (Puts-then refl sizes c.put_u32-3.ensures) c.put_names.ensures
