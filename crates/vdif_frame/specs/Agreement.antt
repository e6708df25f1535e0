-- Where a frame's header differs from its station's shape.
use Rattle.std.specs.Prelude.{ℕ, ◌*◌, List, codes, Bool, true, false, not, ◌==◌, nat_lt, if◌then◌else◌, Option, Some, None}
use Rattle.vdif_frame.specs.Header.{HeaderFields}
use Rattle.vdif_frame.specs.Shape.{ShapeFields}
use Rattle.vdif_frame.specs.declared.shape.Field.{Field}
use Rattle.vdif_frame.specs.declared.shape.Field.TheVariants.{Legacy, Length, Channels, Complex, Bits, Station, FrameNumber}

abbrev pub is_same : Bool → Bool → Bool
is_same true b = b
is_same false b = not b

-- the first field that differs, None where the header agrees
unfoldable pub first_field : HeaderFields → ShapeFields → Option Field
first_field h s =
    if not (is_same h.legacy s.legacy) then Some Legacy
    else if not (h.units * 8 == s.frame_bytes) then Some Length
    else if not (h.chans_log2 == s.chans_log2) then Some Channels
    else if h.complex then Some Complex
    else if not (h.bits == s.bits) then Some Bits
    else if not (h.station == s.station) then Some Station
    else if not (nat_lt h.frame s.frames) then Some FrameNumber
    else None

-- a field's name
abbrev pub field_name : Field → List ℕ
field_name Legacy = codes "Legacy"
field_name Length = codes "Length"
field_name Channels = codes "Channels"
field_name Complex = codes "Complex"
field_name Bits = codes "Bits"
field_name Station = codes "Station"
field_name FrameNumber = codes "FrameNumber"
