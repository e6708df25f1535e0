use Rattle.std.proofs.Common.{◌≡◌, ap, length, arith}
use Rattle.station_stream.proofs.window.all_filled.Goals as goal

pub loop-chan-init : goal.loop-chan-init
loop-chan-init c =
    let none : length c.new-chans.result.items ≡ 0 = ap length c.new-chans.ensures.items in
    record {
      each = none;
      filled = λ told swept i d h. absurd (omega (arith, h, none));
    }
