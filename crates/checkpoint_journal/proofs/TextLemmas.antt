-- The text of cells, part after part.
use Rattle.std.specs.Prelude.{option_map}
use Rattle.std.proofs.Common.{◌≡◌, ◌∙◌, ℕ, ◌+◌, ◌*◌, ◌<◌, ◌≤◌, List, [], ◌∷◌, ◌++◌, length, get_or, take, drop, Option, Some, None, refl, sym, ap, arith, length-append, take-append-drop, append_assoc}
use Rattle.std.proofs.lemmas.List.{take_at, drop_at, drop-drop, drop-take, take-take, length-take, length-drop, take_more, get_or-drop, flat_map_more}
use Rattle.std.proofs.lemmas.List.Concat.{flat_map-append}
use Rattle.dev_traits.specs.Images.{put_at}
use Rattle.dev_traits.specs.Told.{WhereTold}
use Rattle.corr_model.specs.declared.cell.Cell.{Cell}
use Rattle.corr_model.specs.Records.{cell_text}
use Rattle.checkpoint_journal.specs.Cells.{body_text}
use Rattle.checkpoint_journal.specs.Runs.{put_over}
use Rattle.checkpoint_journal.proofs.WriteLemmas.{put_at-inside}

pub length-body_text : (cells : List Cell) → length (body_text cells) ≡ 24 * length cells
length-body_text [] = refl
length-body_text (c ∷ cells) = omega (arith, length-append (cell_text c) (body_text cells), length-body_text cells)

-- one cell more
pub body_text-more : (cells : List Cell) (first k : ℕ) (cell : Cell) → first + k < length cells → ((d : Cell) → get_or cells (first + k) d ≡ cell) → body_text (take (k + 1) (drop first cells)) ≡ body_text (take k (drop first cells)) ++ cell_text cell
body_text-more cells first k cell inside is =
    let one : k < length (drop first cells) = omega (arith, length-drop first cells) in
    let next : get_or (drop first cells) k cell ≡ cell = get_or-drop first cells k cell ∙ is cell in
    ap body_text (take_more (drop first cells) k cell one ∙ ap (λ (c : Cell). take k (drop first cells) ++ c ∷ []) next) ∙ sym (flat_map_more cell_text [] (take k (drop first cells)) cell)

-- a part more
pub body_text-part : (cells : List Cell) (done part : ℕ) → body_text (take (done + part) cells) ≡ body_text (take done cells) ++ body_text (take part (drop done cells))
body_text-part cells done part =
    let split : take (done + part) cells ≡ take done cells ++ take part (drop done cells) =
    sym (take-append-drop done (take (done + part) cells)) ∙ ap (λ (l : List Cell). l ++ drop done (take (done + part) cells)) (take-take done (done + part) cells (omega arith)) ∙ ap (λ (l : List Cell). take done cells ++ l) (drop-take done part cells) in
    ap body_text split ∙ flat_map-append cell_text (take done cells) (take part (drop done cells))

-- what is written behind what was written
pub put_over-more : (at : ℕ) (a b v : List ℕ) → at ≤ length v → put_at (at + length a) b (put_over at a v) ≡ put_over at (a ++ b) v
put_over-more at a b v inside =
    let w = put_over at a v in
    let front : length (take at v ++ a) ≡ at + length a = omega (arith, length-append (take at v) a, length-take at v) in
    let split : w ≡ (take at v ++ a) ++ drop (at + length a) v = sym (append_assoc (take at v) a (drop (at + length a) v)) in
    let fits : at + length a ≤ length w = omega (arith, ap length split, length-append (take at v ++ a) (drop (at + length a) v), front) in
    let ahead : take (at + length a) w ≡ take at v ++ a = ap (take (at + length a)) split ∙ take_at (take at v ++ a) (drop (at + length a) v) (at + length a) front in
    let back : drop (at + length a + length b) w ≡ drop (at + length (a ++ b)) v =
    sym (drop-drop (length b) (at + length a) w) ∙ ap (drop (length b)) (ap (drop (at + length a)) split ∙ drop_at (take at v ++ a) (drop (at + length a) v) (at + length a) front) ∙ drop-drop (length b) (at + length a) v
    ∙ ap (λ (n : ℕ). drop n v) (total (length a) (length b) (length-append a b)) in
    put_at-inside (at + length a) b w fits ∙ ap (λ (l : List ℕ). l ++ (b ++ drop (at + length a + length b) w)) ahead ∙ append_assoc (take at v) a (b ++ drop (at + length a + length b) w)
    ∙ ap (λ (l : List ℕ). take at v ++ l) (sym (append_assoc a b (drop (at + length a + length b) w))) ∙ ap (λ (l : List ℕ). take at v ++ ((a ++ b) ++ l)) back
  where
    total : (m n : ℕ) → length (a ++ b) ≡ m + n → at + m + n ≡ at + length (a ++ b)
    total m n e = omega arith

pub written_more : (at place : ℕ) (a b : List ℕ) (old mid new : Option (List ℕ)) → WhereTold old (λ v. at ≤ length v) → place ≡ at + length a → mid ≡ option_map (put_over at a) old → new ≡ option_map (put_at place b) mid → new ≡ option_map (put_over at (a ++ b)) old
written_more at place a b None mid new within is first second = second ∙ ap (option_map (put_at place b)) first
written_more at place a b (Some v) mid new within is first second =
    second ∙ ap (option_map (put_at place b)) first ∙ ap (λ (n : ℕ). Some (put_at n b (put_over at a v))) is ∙ ap (λ (l : List ℕ). Some l) (put_over-more at a b v within)
