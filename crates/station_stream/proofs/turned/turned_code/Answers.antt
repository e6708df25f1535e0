use Rattle.station_stream.proofs.TakenLemmas.{value_of-turned}
use Rattle.station_stream.proofs.turned.turned_code.Goals as goal

pub returns : goal.returns
returns c = λ level taken. value_of-turned c.args.code c.args.direction level c.requires taken
