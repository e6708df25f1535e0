-- The lines that a job may have: the word that begins each, and how the fields behind it are written.
use Rattle.std.specs.Prelude.{ℕ, ◌==◌, Bool, true, false, ◌||◌, ◌&&◌, ℤ, List, [], ◌∷◌, codes, bytes_eq, Option, find, Result, Ok, Err}
use Rattle.num_time.specs.Numerals.{decimal_of}
use Rattle.num_time.specs.Times.{vex_second_of}
use Rattle.num_time.specs.declared.numerals.NumFault.{NumFault}
use Rattle.num_time.specs.declared.numerals.NumFault.TheVariants.{NotNumber, TooManyPlaces, TooLarge}
use Rattle.num_time.specs.declared.times.TimeFault.{TimeFault}
use Rattle.num_time.specs.declared.times.TimeFault.TheVariants.{Shape, DayOfYear, TimeOfDay}
use Rattle.job_lines.specs.declared.word.Word.{Word}
use Rattle.job_lines.specs.declared.word.Word.TheVariants.{Lags, Integration, Epoch, Knot, Auto, Station, File, Chan, Clock, Poly, Product, Take, Rate, Scan, Band}
use Rattle.job_lines.specs.declared.word.FieldKind.{FieldKind}
use Rattle.job_lines.specs.declared.word.FieldKind.TheVariants.{Text, Number, Time, Side, Legacy}

-- how a word is spelt
abbrev pub text_of : Word → List ℕ
text_of Lags = codes "lags"
text_of Integration = codes "integration"
text_of Epoch = codes "epoch"
text_of Knot = codes "knot"
text_of Auto = codes "auto"
text_of Station = codes "station"
text_of File = codes "file"
text_of Chan = codes "chan"
text_of Clock = codes "clock"
text_of Poly = codes "poly"
text_of Product = codes "product"
text_of Take = codes "take"
text_of Rate = codes "rate"
text_of Scan = codes "scan"
text_of Band = codes "band"

-- all words
abbrev pub words : List Word
words = Lags ∷ Integration ∷ Epoch ∷ Knot ∷ Auto ∷ Station ∷ File ∷ Chan ∷ Clock ∷ Poly ∷ Product ∷ Take ∷ Rate ∷ Scan ∷ Band ∷ []

-- the word that a field spells
abbrev pub word_of : List ℕ → Option Word
word_of field = find (λ word. bytes_eq (text_of word) field) words

abbrev pub number_of : Word → ℕ
number_of Lags = 0
number_of Integration = 1
number_of Epoch = 2
number_of Knot = 3
number_of Auto = 4
number_of Station = 5
number_of File = 6
number_of Chan = 7
number_of Clock = 8
number_of Poly = 9
number_of Product = 10
number_of Take = 11
number_of Rate = 12
number_of Scan = 13
number_of Band = 14

-- two words are one
abbrev pub are_one : Word → Word → Bool
are_one v w = number_of v == number_of w

-- a word of scans that the job itself states, which no schedule gives
abbrev pub is_inline : Word → Bool
is_inline word = are_one word Rate || are_one word Scan || are_one word Band

-- the fields behind a word
abbrev pub needed : Word → List FieldKind
needed Lags = Number ∷ []
needed Integration = Number ∷ []
needed Epoch = Number ∷ []
needed Knot = Number ∷ []
needed Auto = []
needed Station = Text ∷ Number ∷ Number ∷ Number ∷ Number ∷ []
needed File = Text ∷ Text ∷ []
needed Chan = Text ∷ Text ∷ Number ∷ Number ∷ []
needed Clock = Text ∷ Time ∷ Number ∷ Number ∷ []
needed Poly = Text ∷ Time ∷ Number ∷ []
needed Product = Text ∷ Text ∷ []
needed Take = Text ∷ []
needed Rate = Number ∷ []
needed Scan = Text ∷ Time ∷ Number ∷ []
needed Band = Text ∷ Number ∷ Side ∷ []

-- the fields that may stand behind those, from the first on
abbrev pub further : Word → List FieldKind
further Station = Legacy ∷ []
further Poly = Number ∷ Number ∷ Number ∷ Number ∷ Number ∷ []
further _ = []

-- a text is written as a number is, whether or not it is too large
abbrev pub is_written_number : Result ℤ NumFault → Bool
is_written_number (Ok n) = true
is_written_number (Err NotNumber) = false
is_written_number (Err TooManyPlaces) = false
is_written_number (Err TooLarge) = true

-- a text is written as a time is, whether or not there is such a day and time of day
abbrev pub is_written_time : Result ℤ TimeFault → Bool
is_written_time (Ok second) = true
is_written_time (Err Shape) = false
is_written_time (Err DayOfYear) = true
is_written_time (Err TimeOfDay) = true

-- a field is written so
abbrev pub is_written : FieldKind → List ℕ → Bool
is_written Text field = true
is_written Number field = is_written_number (decimal_of field 0)
is_written Time field = is_written_time (vex_second_of field)
is_written Side field = bytes_eq field (codes "U") || bytes_eq field (codes "L")
is_written Legacy field = bytes_eq field (codes "legacy")

-- the fields are those that are needed, then some of the further ones from the first on, each written as it asks
abbrev pub are_written : List FieldKind → List FieldKind → List (List ℕ) → Bool
are_written [] more [] = true
are_written (kind ∷ kinds) more [] = false
are_written [] [] (field ∷ fields) = false
are_written [] (kind ∷ more) (field ∷ fields) = is_written kind field && are_written [] more fields
are_written (kind ∷ kinds) more (field ∷ fields) = is_written kind field && are_written kinds more fields
