-- The text of the cells of bins: a head, the records in their order, an end. Numbers stand with the lowest byte first.
use Rattle.std.specs.Prelude.{ℕ, List, ◌++◌, drop, flat_map, codes}
use Rattle.byteorder.specs.Endian.{little_bytes}
use Rattle.corr_model.specs.declared.cell.Cell.{Cell}
use Rattle.corr_model.specs.declared.records.RecordAt.{RecordAt}
use Rattle.corr_model.specs.Records.{Head, head_text, cell_text, end_text}
use Rattle.bin_records.specs.Fronts.{record_front}

-- the head of a record file behind its mark, which is of eight bytes
abbrev pub fields_text : Head → List ℕ
fields_text head = drop 8 (head_text head)

-- the head: its mark, the number of bins in a turn, and the fields of a record file's head
unfoldable pub bin_head_text : ℕ → Head → List ℕ
bin_head_text bins head = codes "VLBIBIN1" ++ little_bytes 4 bins ++ fields_text head

-- a record: its front, then its cells by rising lag
unfoldable pub bin_record_text : RecordAt → ℕ → List Cell → List ℕ
bin_record_text at bin cells = record_front at bin ++ flat_map cell_text cells

-- the end: that of a record file
unfoldable pub bin_end_text : ℕ → List ℕ
bin_end_text = end_text
