-- What a record file says.
use Rattle.std.specs.Prelude.{◌≡◌, ℕ, List}
use Rattle.corr_model.specs.declared.cell.Cell.{Cell}
use Rattle.corr_model.specs.Records.{Head, IsVis, vis_text}

-- its head, and the cells of its records in their order
pub record Content : Type 0 where
  pub head : Head
  pub cells : List Cell

-- a text is the record file with this content
pub record IsRecordFile (text : List ℕ) (content : Content) : Type 0 where
  pub vis : IsVis content.head content.cells
  pub is : text ≡ vis_text content.head content.cells
