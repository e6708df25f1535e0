-- Reads of a file that go on behind one another.
use Rattle.std.proofs.Common.{◌≡◌, ◌<◌, ◌≤◌, ℕ, ◌+◌, ◌-◌, List, ◌++◌, length, take, drop, Some, ap, ap₂, sym, subst, ◌∙◌, append-nil, arith, inl, inr}
use Rattle.std.proofs.Math.ListN.{drop_of_length-le}
use Rattle.std.proofs.Math.Seq.{take-add}
use Rattle.std.proofs.lemmas.Bool.{cases_lt}
use Rattle.std.proofs.lemmas.List.{take_at, drop_at, drop-drop, length-drop, length-take-le}
use Rattle.dev_traits.specs.Files.{ReadsAt}
use Rattle.real_devices.specs.Placed.{HasRead, ReadsSome, ReadsOn}

-- one read into the rest of a buffer goes on with those before it
HasRead-on : (bytes first old part : List ℕ) (at done n : ℕ)
    → done ≤ length old → HasRead bytes at first done old → HasRead bytes (at + done) (drop done old) n part
    → HasRead bytes at first (done + n) (take done old ++ part)
HasRead-on bytes first old part at done n inside before read =
    let front : length (take done old) ≡ done = length-take-le done old inside in record {
      there = omega (arith, before.there, read.there);
      front =
          take-add done n (take done old ++ part)
          ∙ ap₂ (λ (x : List ℕ) (y : List ℕ). x ++ take n y) (take_at (take done old) part done front) (drop_at (take done old) part done front)
          ∙ ap₂ (λ (x : List ℕ) (y : List ℕ). x ++ y) before.front (read.front ∙ ap (take n) (sym (drop-drop done at bytes)))
          ∙ sym (take-add done n (drop at bytes));
      behind =
          sym (drop-drop n done (take done old ++ part))
          ∙ ap (drop n) (drop_at (take done old) part done front)
          ∙ read.behind
          ∙ ap (drop n) before.behind
          ∙ drop-drop n done first;
    }

-- nothing lies behind the rest of a buffer
nothing_behind : (done : ℕ) (old part : List ℕ) → part ++ drop (length old - done) (drop done old) ≡ part
nothing_behind done old part =
    ap (λ rest. part ++ rest) (drop_of_length-le (drop done old) (omega (arith, length-drop done old))) ∙ append-nil part

pub ReadsOn-from : (bytes old middle part : List ℕ) (at done n : ℕ)
    → done ≤ length old → middle ≡ drop done old → ReadsSome bytes (at + done) middle n part
    → ReadsOn bytes at done old n (take done old ++ (part ++ drop (length old - done) (drop done old)))
ReadsOn-from bytes old middle part at done n inside rest given =
    let read : ReadsSome bytes (at + done) (drop done old) n part =
    subst (λ m. ReadsSome bytes (at + done) m n part) rest given in record {
      on = λ first before.
          subst (λ new. HasRead bytes at first (done + n) (take done old ++ new)) (sym (nothing_behind done old part))
          (HasRead-on bytes first old part at done n inside before read.has);
      some = λ there fits. read.some there (omega (arith, length-drop done old, fits));
    }

-- the buffer is full
pub ReadsAt-full : (bytes old new : List ℕ) (at n : ℕ)
    → HasRead bytes at old n new → n ≡ length old → ReadsAt (Some bytes) at old n new
ReadsAt-full bytes old new at n read full = record {
  count = omega (arith, read.there, full);
  front = read.front;
  behind = read.behind;
}

-- where a read gives nothing though something fits, the file has ended
ended_at : (bytes : List ℕ) (at done n : ℕ)
    → n ≡ 0 → (at + done < length bytes → 0 < n) → length bytes ≤ at + done
ended_at bytes at done n nothing more =
    elim (cases_lt (at + done) (length bytes)) [
      | inl there ↦ absurd (let some = more there in omega (arith, some, nothing))
      | inr ended ↦ ended
    ]

-- a further read gave nothing
pub ReadsAt-at_end : (bytes old now new : List ℕ) (at done n : ℕ)
    → n ≡ 0 → done < length now → length now ≡ length old
    → HasRead bytes at old done now → ReadsOn bytes at done now n new → ReadsAt (Some bytes) at old done new
ReadsAt-at_end bytes old now new at done n nothing room same before read =
    let whole : done + n ≡ done = omega (arith, nothing) in
    let ended = ended_at bytes at done n nothing (λ there. read.some there room) in
    let all : HasRead bytes at old done new = subst (λ k. HasRead bytes at old k new) whole (read.on old before) in record {
      count = omega (arith, before.there, ended, room, same);
      front = all.front;
      behind = all.behind;
    }
