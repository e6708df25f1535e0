use Rattle.std.proofs.Common.{◌≡◌, ◌∙◌, ℕ, sym, subst, map, List, Option, Some, arith}
use Rattle.dev_traits.specs.Told.{WhereTold}
use Rattle.frame_index.specs.Recording.{Shelved}
use Rattle.value_codes.specs.Codes.{value_of}
use Rattle.station_stream.specs.declared.chan.StationChan.{StationChan}
use Rattle.station_stream.specs.declared.part.StationPart.{StationPart}
use Rattle.station_stream.specs.declared.window.Window.{Window}
use Rattle.station_stream.specs.Window.{AreValues}
use Rattle.station_stream.proofs.FillLemmas.{AreValues-filled, AreValues-lacking}
use Rattle.station_stream.proofs.swept.fill_chan.Goals as goal

-- the values of a channel are those of the channel that was found
are_values : (told : Option Shelved) (part : StationPart) (w : Window) (codes : List ℕ) (found chan : Option StationChan) → found ≡ chan
    → WhereTold told (λ t. AreValues t part found w.from w.count (map value_of codes))
    → WhereTold told (λ t. AreValues t part chan w.from w.count (map value_of codes))
are_values told part w codes found chan is values =
    subst (λ (c : Option StationChan). WhereTold told (λ t. AreValues t part c w.from w.count (map value_of codes))) is values

pub returns-in-Some : goal.returns-in-Some
returns-in-Some c = λ told swept.
    are_values told c.args.part.now c.args.window c.fill_swept.new.codes _ _ (sym c.in-Some.is ∙ c.chan_at.ensures)
    (AreValues-filled told c.args.part.now (Some c.in-Some.chan) c.args.window c.fill_swept.new.codes (c.fill_swept.ensures told swept))

pub returns-in-None : goal.returns-in-None
returns-in-None c = λ told swept.
    are_values told c.args.part.now c.args.window c.clear.new.codes _ _ (sym c.in-None.is ∙ c.chan_at.ensures)
    (AreValues-lacking told c.args.part.now c.args.window c.clear.new.codes (c.clear.auto.codes ∙ c.requires.long)
    (λ k h. c.clear.ensures.cleared k (omega arith) (omega (arith, h, c.clear.auto.codes))))
