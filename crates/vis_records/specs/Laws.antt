-- What follows from the reading of record files for every text.
use Rattle.std.specs.Prelude.{◌≡◌, ℕ, ◌^◌, ◌<◌, List, [], length}
use Rattle.vis_records.specs.Parts.{Took, AreBytes}
use Rattle.vis_records.specs.Content.{Content, IsRecordFile}
use Rattle.vis_records.specs.Reading.{record_file}

-- A text that is read is the record file with the content that is read, and nothing is left of it.
abbrev pub ReadsWhatIsWritten : List ℕ → Type 0
ReadsWhatIsWritten text =
    (content : Content) (rest : List ℕ) → AreBytes text → record_file text ≡ Took content rest → IsRecordFile text content × (rest ≡ [])

-- A record file is read to its content.
abbrev pub ReadsBack : List ℕ → Type 0
ReadsBack text = (content : Content) → length text < 2 ^ 64 → IsRecordFile text content → record_file text ≡ Took content []

-- A text is the record file of at most one content.
abbrev pub HasOneContent : List ℕ → Type 0
HasOneContent text =
    (content other : Content) → length text < 2 ^ 64 → IsRecordFile text content → IsRecordFile text other → content ≡ other
