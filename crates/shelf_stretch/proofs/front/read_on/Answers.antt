use Rattle.std.proofs.Common.{length, drop, arith, ◌-◌}
use Rattle.std.proofs.lemmas.Result.{IfOk-weaker}
use Rattle.std.proofs.lemmas.List.{length-drop, length-take-le}
use Rattle.dev_traits.proofs.ToldLemmas.{WhereTold-weaker}
use Rattle.shelf_stretch.proofs.FrontLemmas.{ReadsOn-from}
use Rattle.shelf_stretch.proofs.front.read_on.Goals as goal

pub returns-clause-read : goal.returns-clause-read
returns-clause-read g c =
    IfOk-weaker c.read_at.result _ _
    (λ n told. WhereTold-weaker (g.F.Shelf.told c.args.shelf.now) _ _
    (λ files read. ReadsOn-from (files c.args.name.now) c.args.at c.args.done n c.args.buf.now _ c.read_at.new.buf _ c.requires.inside
    (length-take-le (length c.args.buf.now - c.args.done) (drop c.args.done c.args.buf.now) (omega (arith, length-drop c.args.done c.args.buf.now)))
    c.read_at.auto.buf read)
    told)
    c.read_at.ensures.read
