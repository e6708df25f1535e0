-- How the slots of a shape are cut and read.
use Rattle.std.specs.Prelude.{◌≡◌, ◌≤◌, ◌<◌, ◌*◌, min}
use Rattle.vdif_frame.specs.Shape.{ShapeFields}
use Rattle.frame_index.specs.declared.recording.Layout.{Layout}

pub record IsLayoutOf (shape : ShapeFields) (layout : Layout) : Type 0 where
  pub size : layout.size ≡ shape.frame_bytes
  pub some : 0 < layout.size
  pub head : layout.head ≡ min 32 shape.frame_bytes
  pub once : 1 ≤ layout.most
  pub fits : layout.most * layout.size ≤ 131072
