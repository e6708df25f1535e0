use Rattle.std.proofs.Common.{◌∙◌, ℕ, List, get_or, ap}
use Rattle.std.proofs.lemmas.List.{get_or_append_left}
use Rattle.byteorder.specs.Endian.{little_bytes}
use Rattle.plan_places.specs.Places.{place_at}
use Rattle.journal_image.specs.Head.{place_text}
use Rattle.journal_image.proofs.gate.head_from.Goals as goal

pub returns : goal.returns
returns c k below =
    ap (λ (l : List ℕ). get_or l k 0) c.head_bytes.ensures ∙ get_or_append_left (place_text (place_at c.args.place.now)) (little_bytes 8 0) 0 k below
