-- What a file holds that is written with a mark behind a first byte, the gate, which is 0 where it is closed and 1 where it is
-- open.
use Rattle.std.specs.Prelude.{ℕ, Bool, ◌&&◌, ◌||◌, ◌==◌, eqb, nat_le, List, length, drop, slice_index}
use Rattle.std.specs.List.{starts_with, list_all}

abbrev pub are_zeros : List ℕ → Bool
are_zeros = list_all (λ byte. byte == 0)

-- The front of a file with at most one byte, or with a gate. Behind the gate stands the mark; or as much of it as the file has,
-- which a write that was cut short leaves; or nothing but zeros, which the system leaves where the file's length was put in its
-- place and its first bytes were not.
abbrev pub is_begun : List ℕ → List ℕ → Bool
is_begun mark front = nat_le (length front) 1 || (nat_le (slice_index front 0) 1
    && (starts_with eqb (drop 1 front) mark || starts_with eqb mark (drop 1 front) || are_zeros (drop 1 front)))
