-- Words one behind another at the front of a text.
use Rattle.std.proofs.Common.{◌≡◌, ◌≢◌, ℕ, List, [], ◌∷◌, ◌++◌, Option, Some, None, codes, decimal, append_assoc, sym, ap, ◌∙◌}
use Rattle.std.proofs.lemmas.List.{append_cancel_left}
use Rattle.std.specs.Prelude.{MatchOption}
use denote.Ref.{Bor}
use Rattle.fringe_search.specs.declared.places.SeriesAt.{SeriesAt}
use Rattle.fringe_search.specs.Certificates.{place_text}

-- a word that stands behind others
pub strips_more : (text front middle word : List ℕ) (r : Option (Bor (List ℕ))) → text ≡ front ++ middle
    → MatchOption r ((rest : List ℕ) → middle ≢ word ++ rest) (λ x. middle ≡ word ++ x.now)
    → MatchOption r ((rest : List ℕ) → text ≢ (front ++ word) ++ rest) (λ x. text ≡ (front ++ word) ++ x.now)
strips_more text front middle word None is h =
    λ rest e. h rest (append_cancel_left front middle (word ++ rest) (sym is ∙ e ∙ append_assoc front word rest))
strips_more text front middle word (Some x) is h = is ∙ ap (λ m. front ++ m) h ∙ sym (append_assoc front word x.now)

-- the front of a peak's line, number by number
abbrev pub word : ℕ → List ℕ
word n = decimal n ++ 32 ∷ []

-- a word and the byte behind it, and what comes later
pub parted : (front : List ℕ) (stop : ℕ) (later rest : List ℕ) → (front ++ stop ∷ later) ++ rest ≡ (front ++ stop ∷ []) ++ (later ++ rest)
parted front stop later rest = append_assoc front (stop ∷ later) rest ∙ sym (append_assoc front (stop ∷ []) (later ++ rest))

pub place_parts : (at : SeriesAt) (rest : List ℕ) → place_text at ++ rest ≡ codes "peak " ++ (word at.scan ++ (word at.product ++ (word at.baseline ++ rest)))
place_parts at rest =
    ap (λ t. codes "peak " ++ t)
    (parted (decimal at.scan) 32 (decimal at.product ++ 32 ∷ word at.baseline) rest
    ∙ ap (λ t. word at.scan ++ t) (parted (decimal at.product) 32 (word at.baseline) rest))

-- what stands behind a front is behind it wherever the text has that front
pub behind_front : (text front middle other : List ℕ) → text ≡ front ++ middle → text ≡ front ++ other → middle ≡ other
behind_front text front middle other is e = append_cancel_left front middle other (sym is ∙ e)

-- the last number of it
pub place_strips : (text : List ℕ) (at : SeriesAt) (scan product baseline : List ℕ) (r : Option (Bor (List ℕ))) → text ≡ codes "peak " ++ scan
    → scan ≡ word at.scan ++ product → product ≡ word at.product ++ baseline
    → MatchOption r ((rest : List ℕ) → baseline ≢ word at.baseline ++ rest) (λ x. baseline ≡ word at.baseline ++ x.now)
    → MatchOption r ((rest : List ℕ) → text ≢ place_text at ++ rest) (λ x. text ≡ place_text at ++ x.now)
place_strips text at scan product baseline None a b c h = λ rest e.
    let first = behind_front text (codes "peak ") scan (word at.scan ++ (word at.product ++ (word at.baseline ++ rest))) a (e ∙ place_parts at rest) in
    let second = behind_front scan (word at.scan) product (word at.product ++ (word at.baseline ++ rest)) b first in
    h rest (behind_front product (word at.product) baseline (word at.baseline ++ rest) c second)
place_strips text at scan product baseline (Some x) a b c h =
    a ∙ ap (λ t. codes "peak " ++ t) (b ∙ ap (λ t. word at.scan ++ t) (c ∙ ap (λ t. word at.product ++ t) h)) ∙ sym (place_parts at x.now)
