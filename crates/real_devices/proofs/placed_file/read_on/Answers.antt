use Rattle.std.proofs.lemmas.Result.{IfOk-weaker}
use Rattle.std.proofs.lemmas.List.{take_rest}
use Rattle.dev_traits.proofs.ToldLemmas.{WhereTold-weaker}
use Rattle.real_devices.proofs.PlacedLemmas.{ReadsOn-from}
use Rattle.real_devices.proofs.placed_file.read_on.Goals as goal

pub returns-clause-read : goal.returns-clause-read
returns-clause-read g c =
    IfOk-weaker c.read_some.result _ _
    (λ n told. WhereTold-weaker (g.F.PlacedFile.told c.args.file.now) _ _
    (λ bytes read. ReadsOn-from bytes c.args.buf.now _ c.read_some.new.buf c.args.at c.args.done n c.requires.inside
    (take_rest c.args.buf.now c.args.done) read)
    told)
    c.read_some.ensures.read
