use Rattle.std.proofs.Common.{◌∙◌, sym}
use Rattle.job_text.proofs.DraftLemmas.{put-under}
use Rattle.job_text.proofs.draft.take_named.Goals as goal

pub returns : goal.returns
returns g c = put-under c.args.things.now c.args.name.now c.args.stated c.in-Some.thing c.put.new.self c.in-Some.is (sym c.has.ensures ∙ c.if-has.false) c.in_ok-put.ensures.put
