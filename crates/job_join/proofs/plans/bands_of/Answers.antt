use Rattle.std.proofs.Common.{◌++◌, ◌∷◌, [], List, ℕ, map, ap, ◌∙◌, arith}
use Rattle.std.proofs.lemmas.List.{take_all, length-map}
use Rattle.named_list.specs.Named.{names}
use Rattle.job_join.specs.Channels.{chan_with}
use Rattle.job_join.specs.Joined.{band_of}
use Rattle.job_join.proofs.Sets.{map-names}
use Rattle.job_join.proofs.plans.bands_of.Goals as goal

pub loop-i-preserved : goal.loop-i-preserved
loop-i-preserved c =
    map-names (λ name. band_of (chan_with c.args.pass.now name)) c.args.channels.now c.loop-i.i (c.at.result.0.now, c.at.result.1.now) c.loop-i.bands.items c.push.new.self.items c.at.ensures.entry c.loop-i.invariant
    (c.in_ok-push.ensures.items ∙ ap (λ y. c.loop-i.bands.items ++ y ∷ []) (c.band_of.ensures ∙ ap band_of c.chan_with.ensures))

pub returns : goal.returns
returns c =
    c.loop-i.invariant ∙ ap (map (λ name. band_of (chan_with c.args.pass.now name))) (take_all c.loop-i.i (names c.args.channels.now) (omega (arith, length-map c.args.channels.now (λ (x : List ℕ × Unit {0}). x.0))))
