-- Sums over the cells of a lag that stand in another series.
use Rattle.std.proofs.Common.{◌≡◌, ◌∙◌, ℕ, zero, suc, ◌+◌, ◌<◌, ℤ, ◌+ℤ◌, refl, ap, ap₂, arith}
use Rattle.corr_model.specs.declared.cell.Cell.{Cell}
use Rattle.fringe_search.specs.Layout.{Series, IsLagOf, cell_at}
use Rattle.fringe_search.specs.Sums.{size, sector, turned_re, turned_im, int_sum, nat_sum, re_at, im_at, amplitude_at}

int_sum-alike : (f g : ℕ → ℤ) (n : ℕ) → ((m : ℕ) → m < n → f m ≡ g m) → int_sum f n ≡ int_sum g n
unfolding int_sum
int_sum-alike f g zero same = refl
int_sum-alike f g (suc n) same = ap₂ (λ x y. x +ℤ y) (int_sum-alike f g n (λ m below. same m (omega arith))) (same n (omega arith))

nat_sum-alike : (f g : ℕ → ℕ) (n : ℕ) → ((m : ℕ) → m < n → f m ≡ g m) → nat_sum f n ≡ nat_sum g n
unfolding nat_sum
nat_sum-alike f g zero same = refl
nat_sum-alike f g (suc n) same = ap₂ (λ x y. x + y) (nat_sum-alike f g n (λ m below. same m (omega arith))) (same n (omega arith))

turned-alike : (turned : Cell → ℕ → ℤ) (s : Series) (lag : ℕ) (t : Series) (number divide : ℕ) (rate : ℤ) → IsLagOf s lag t number
    → int_sum (λ m. turned (cell_at t m number) (sector rate divide m)) t.integrations ≡ int_sum (λ m. turned (cell_at s m lag) (sector rate divide m)) s.integrations
turned-alike turned s lag t number divide rate of =
    let sums : ℕ → ℤ = λ m. turned (cell_at t m number) (sector rate divide m) in
    ap (int_sum sums) of.integrations
    ∙ int_sum-alike sums (λ m. turned (cell_at s m lag) (sector rate divide m)) s.integrations
    (λ m below. ap (λ (c : Cell). turned c (sector rate divide m)) (of.cells m below))

pub re-alike : (s : Series) (lag : ℕ) (t : Series) (number divide : ℕ) (rate : ℤ) → IsLagOf s lag t number → re_at t divide number rate ≡ re_at s divide lag rate
re-alike s lag t number divide rate of = turned-alike turned_re s lag t number divide rate of

pub im-alike : (s : Series) (lag : ℕ) (t : Series) (number divide : ℕ) (rate : ℤ) → IsLagOf s lag t number → im_at t divide number rate ≡ im_at s divide lag rate
im-alike s lag t number divide rate of = turned-alike turned_im s lag t number divide rate of

pub amplitude-alike : (s : Series) (lag : ℕ) (t : Series) (number : ℕ) → IsLagOf s lag t number → amplitude_at t number ≡ amplitude_at s lag
amplitude-alike s lag t number of =
    let sums : ℕ → ℕ = λ m. size (cell_at t m number) in
    ap (nat_sum sums) of.integrations
    ∙ nat_sum-alike sums (λ m. size (cell_at s m lag)) s.integrations (λ m below. ap size (of.cells m below))
