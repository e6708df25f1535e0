use Rattle.std.proofs.Common.{option_map, ap, ◌∙◌}
use Rattle.std.specs.List.{position}
use Rattle.named_list.specs.Named.{names}
use Rattle.job_join.specs.declared.fault.JoinFault.TheVariants.{ChannelDiffers}
use Rattle.job_join.specs.declared.joining.Joining.{Joining}
use Rattle.job_join.specs.declared.places.Place.{Place}
use Rattle.job_join.specs.Places.{visit_of, has_other_band}
use Rattle.job_join.specs.Joining.{scans_of}
use Rattle.job_join.proofs.JoinLemmas.{channel_differs-places}
use Rattle.job_join.proofs.joining.Joining.channel_differs.Goals as goal

pub returns-in-None : goal.returns-in-None
returns-in-None c =
    let j : Joining = c.args.self.now in
    ap (option_map ChannelDiffers) (c.in-None.ensures ∙ ap (position (λ (p : Place). has_other_band (names j.channels) (visit_of p))) c.deref.ensures.value ∙ channel_differs-places j.job.now (scans_of j) j.places.items c.requires.visits (names j.channels) c.requires.channels)

pub returns-in-Some : goal.returns-in-Some
returns-in-Some c =
    let j : Joining = c.args.self.now in
    ap (option_map ChannelDiffers) (c.in-Some.ensures ∙ ap (position (λ (p : Place). has_other_band (names j.channels) (visit_of p))) c.deref.ensures.value ∙ channel_differs-places j.job.now (scans_of j) j.places.items c.requires.visits (names j.channels) c.requires.channels)
