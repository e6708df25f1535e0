-- The text of the job in three parts.
use Rattle.std.proofs.Common.{◌≡◌, ◌*◌, ℕ, List, [], ◌∷◌, ◌++◌, codes, append_assoc, ◌∙◌, sym, ap}
use Rattle.std.specs.Fmt.{decimal}
use Rattle.sample_gen.specs.Job.{first_lines, job_of, line}

-- the text before the scan's length, and the text behind it
abbrev pub before_length : List ℕ
before_length = first_lines ++ codes "scan G 2010y001d00h00m00s "

abbrev pub behind_length : List ℕ
behind_length = (10 ∷ []) ++ line (codes "band X0 1600000000 U") ++ line (codes "band X1 1600000000 L")

-- lines that follow a piece of another line
lines-joined : (a b x end c d : List ℕ) → a ++ ((b ++ x) ++ end) ++ c ++ d ≡ (a ++ b) ++ x ++ (end ++ c ++ d)
lines-joined a b x end c d =
    ap (λ t. (t ++ c) ++ d) (ap (λ t. a ++ t) (append_assoc b x end) ∙ sym (append_assoc a b (x ++ end)))
    ∙ ap (λ t. t ++ d) (append_assoc (a ++ b) (x ++ end) c)
    ∙ append_assoc (a ++ b) ((x ++ end) ++ c) d
    ∙ ap (λ t. (a ++ b) ++ t) (ap (λ t. t ++ d) (append_assoc x end c) ∙ append_assoc x (end ++ c) d)
    ∙ sym (append_assoc (a ++ b) x ((end ++ c) ++ d))

pub job_of-parts : (seconds : ℕ) → job_of seconds ≡ before_length ++ decimal (160000 * seconds) ++ behind_length
unfolding job_of
job_of-parts seconds =
    lines-joined first_lines (codes "scan G 2010y001d00h00m00s ") (decimal (160000 * seconds)) (10 ∷ [])
    (line (codes "band X0 1600000000 U")) (line (codes "band X1 1600000000 L"))
