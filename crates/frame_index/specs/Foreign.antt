-- Recordings of which no slot agrees with the station's shape.
use Rattle.std.specs.Prelude.{ℕ, List, [], ◌∷◌, Option, None, if◌then◌else◌}
use Rattle.std.specs.List.{list_any}
use Rattle.vdif_frame.specs.declared.shape.Field.{Field}
use Rattle.vdif_frame.specs.Header.{fields_of}
use Rattle.vdif_frame.specs.Shape.{ShapeFields}
use Rattle.vdif_frame.specs.Agreement.{first_field}
use Rattle.corr_model.specs.Sample.{agrees_with}

-- the first field in which a slot differs from the shape
abbrev pub slot_field : ShapeFields → List ℕ → Option Field
slot_field shape slot = first_field (fields_of slot) shape

-- where there are slots and none of them agrees, the first slot's field
abbrev pub foreign_field : ShapeFields → List (List ℕ) → Option Field
foreign_field shape [] = None
foreign_field shape (slot ∷ slots) =
    if list_any (agrees_with shape) (slot ∷ slots) then None else slot_field shape slot
