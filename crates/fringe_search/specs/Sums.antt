-- The sum of a lag's cells, each turned back by a rate, and what bounds its power.
use Rattle.std.specs.Prelude.{ℕ, zero, suc, ◌+◌, ◌*◌, ◌%◌, List, [], ◌∷◌, ℤ, pos, negsuc, ◌+ℤ◌, ◌-ℤ◌, ◌*ℤ◌, unsigned_abs, slice_index_or}
use Rattle.std.specs.Int.{int_div_euclid, int_rem_euclid}
use Rattle.corr_model.specs.declared.cell.Cell.{Cell}
use Rattle.fringe_search.specs.Layout.{Series, cell_at}

-- the cosine of each sixteenth of a turn, times 2^14
abbrev pub cosines : List ℤ
cosines =
    pos 16384 ∷ pos 15137 ∷ pos 11585 ∷ pos 6270 ∷ pos 0 ∷ negsuc 6269 ∷ negsuc 11584 ∷ negsuc 15136
    ∷ negsuc 16383 ∷ negsuc 15136 ∷ negsuc 11584 ∷ negsuc 6269 ∷ pos 0 ∷ pos 6270 ∷ pos 11585 ∷ pos 15137 ∷ []

abbrev pub cosine_of : ℕ → ℤ
cosine_of k = slice_index_or cosines k (pos 0)

-- the sine: the cosine three quarters of a turn on
abbrev pub sine_of : ℕ → ℤ
sine_of k = cosine_of ((k + 12) % 16)

-- the sector of a rate at an integration: floor (rate * m / divide) mod 16
unfoldable pub sector : ℤ → ℕ → ℕ → ℕ
sector rate divide m = unsigned_abs (int_rem_euclid (int_div_euclid (rate *ℤ pos m) (pos divide)) (pos 16))

-- a cell turned back by a sector: its real and its imaginary part
abbrev pub turned_re : Cell → ℕ → ℤ
turned_re c k = c.re *ℤ cosine_of k +ℤ c.im *ℤ sine_of k

abbrev pub turned_im : Cell → ℕ → ℤ
turned_im c k = c.im *ℤ cosine_of k -ℤ c.re *ℤ sine_of k

-- the size of a cell
abbrev pub size : Cell → ℕ
size c = unsigned_abs c.re + unsigned_abs c.im

-- the sum of f over the first n numbers, of signed numbers and of others
unfoldable pub int_sum : (ℕ → ℤ) → ℕ → ℤ
int_sum f zero = pos 0
int_sum f (suc n) = int_sum f n +ℤ f n

unfoldable pub nat_sum : (ℕ → ℕ) → ℕ → ℕ
nat_sum f zero = 0
nat_sum f (suc n) = nat_sum f n + f n

-- the sum at a lag and a rate over the first integrations, and the sum of the sizes of a lag's cells
abbrev pub re_over : Series → ℕ → ℕ → ℤ → ℕ → ℤ
re_over s divide lag rate = int_sum (λ m. turned_re (cell_at s m lag) (sector rate divide m))

abbrev pub im_over : Series → ℕ → ℕ → ℤ → ℕ → ℤ
im_over s divide lag rate = int_sum (λ m. turned_im (cell_at s m lag) (sector rate divide m))

abbrev pub size_over : Series → ℕ → ℕ → ℕ
size_over s lag = nat_sum (λ m. size (cell_at s m lag))

-- the same over all integrations
abbrev pub re_at : Series → ℕ → ℕ → ℤ → ℤ
re_at s divide lag rate = re_over s divide lag rate s.integrations

abbrev pub im_at : Series → ℕ → ℕ → ℤ → ℤ
im_at s divide lag rate = im_over s divide lag rate s.integrations

abbrev pub amplitude_at : Series → ℕ → ℕ
amplitude_at s lag = size_over s lag s.integrations

abbrev pub square : ℕ → ℕ
square n = n * n

-- the power of a sum, and that at a lag and a rate
abbrev pub power_of : ℤ → ℤ → ℕ
power_of re im = square (unsigned_abs re) + square (unsigned_abs im)

unfoldable pub power_at : Series → ℕ → ℕ → ℤ → ℕ
power_at s divide lag rate = power_of (re_at s divide lag rate) (im_at s divide lag rate)

-- the bound of a lag
abbrev pub bound_of : ℕ → ℕ
bound_of amplitude = 2 * square (16384 * amplitude)

unfoldable pub bound_at : Series → ℕ → ℕ
bound_at s lag = bound_of (amplitude_at s lag)
