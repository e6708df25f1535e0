-- The job that correlates the generated recordings.
use Rattle.std.specs.Prelude.{ℕ, ◌*◌, List, [], ◌∷◌, ◌++◌, codes, decimal, flat_map}
use Rattle.std.specs.List.{range_with_len}

-- a line
abbrev pub line : List ℕ → List ℕ
line text = text ++ 10 ∷ []

-- station i with its recording and its two channels
abbrev pub station_lines : ℕ → List ℕ
station_lines i =
    line (codes "station S" ++ decimal i ++ codes " " ++ decimal i ++ codes " 2 2 8032")
    ++ line (codes "file S" ++ decimal i ++ codes " s" ++ decimal i ++ codes ".vdif")
    ++ line (codes "chan S" ++ decimal i ++ codes " X0 0 0")
    ++ line (codes "chan S" ++ decimal i ++ codes " X1 0 1")

-- the lines before the scan
abbrev pub first_lines : List ℕ
first_lines =
    line (codes "lags 32")
    ++ line (codes "integration 160000")
    ++ line (codes "epoch 50000")
    ++ line (codes "knot 1000")
    ++ flat_map station_lines (range_with_len 0 4)
    ++ line (codes "poly S1 2010y001d00h00m00s 2147483648 900000000000000")
    ++ line (codes "poly S2 2010y001d00h00m00s -6442450944 -900000000000000")
    ++ line (codes "clock S3 2010y001d00h00m00s 4294967296 1000")
    ++ line (codes "product X0 X0")
    ++ line (codes "product X1 X1")
    ++ line (codes "rate 160000")

-- the job of so many seconds, each of 160,000 samples
unfoldable pub job_of : ℕ → List ℕ
job_of seconds =
    first_lines
    ++ line (codes "scan G 2010y001d00h00m00s " ++ decimal (160000 * seconds))
    ++ line (codes "band X0 1600000000 U")
    ++ line (codes "band X1 1600000000 L")
