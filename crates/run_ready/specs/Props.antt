-- Facts of which there is one proof at most, so that a ghost field can hold them.
use Rattle.std.specs.Prelude.{◌≡◌, ◌^◌, ◌<◌, List, [], ◌∷◌, length, map}
use Rattle.std.specs.List.{AllZip}
use mathlib.Core.HLevel.{×_prop, Unit-prop}
use denote.Struct.Props.{props}
use Rattle.frame_index.specs.declared.recording.FileRef.{FileRef}
use Rattle.frame_index.specs.Recording.{slot_total}
use Rattle.job_plan.specs.declared.plan.StationPlan.{StationPlan}
use Rattle.run_ready.specs.declared.recordings.StationFiles.{StationFiles}
use Rattle.run_ready.specs.Sizes.{IsSizedBy}

-- a station's files with their sizes
pub IsSizedBy-prop : (s : StationPlan) (z : StationFiles) → IsProp (IsSizedBy s z)
IsSizedBy-prop s z x y =
    let names_prop : IsProp (map (λ (f : FileRef). f.name) z.files ≡ s.files) = hlevel props in
    let few_prop : IsProp (length z.files < 2 ^ 32) = hlevel props in
    let slots_prop : IsProp (z.slots ≡ slot_total s.shape z.files) = hlevel props in
    let bound_prop : IsProp (z.slots < 2 ^ 96) = hlevel props in
    λ i. record {
      names = names_prop x.names y.names i;
      few = few_prop x.few y.few i;
      slots = slots_prop x.slots y.slots i;
      bound = bound_prop x.bound y.bound i;
    }

-- those of all stations
pub AreSized-prop : (stations : List StationPlan) (sized : List StationFiles) → IsProp (AllZip IsSizedBy stations sized)
AreSized-prop [] [] = Unit-prop
AreSized-prop [] (z ∷ sized) = λ a b. absurd a
AreSized-prop (s ∷ stations) [] = λ a b. absurd a
AreSized-prop (s ∷ stations) (z ∷ sized) = ×_prop (IsSizedBy-prop s z) (AreSized-prop stations sized)
