-- What the builder says when all slots are met.
use Rattle.std.specs.Prelude.{◌↔◌}
use Rattle.std.proofs.Common.{◌≡◌, ◌∙◌, refl, sym, ap, subst, ℕ, ◌+◌, ◌≤◌, ◌<◌, List, [], length, Option, None, Result, Ok, Err, IfErr, arith}
use Rattle.dev_traits.specs.Told.{WhereTold}
use Rattle.vdif_frame.specs.Shape.{ShapeFields}
use Rattle.vdif_frame.specs.declared.shape.Field.{Field}
use Rattle.corr_model.specs.Slots.{Slot, slots_of}
use Rattle.frame_index.specs.declared.builder.Builder.{Builder}
use Rattle.frame_index.specs.declared.counts.Counts.{Counts}
use Rattle.frame_index.specs.declared.frame.Frame.{Frame}
use Rattle.frame_index.specs.declared.frame.SlotAt.{SlotAt}
use Rattle.frame_index.specs.declared.recording.FileRef.{FileRef}
use Rattle.frame_index.specs.declared.fault.IndexFault.{IndexFault}
use Rattle.frame_index.specs.declared.fault.IndexFault.TheVariants.{Read, NoFrameAgrees, TooManySlots, Memory}
use Rattle.frame_index.specs.FrameOrder.{AreInFileOrder, place_under, frames_in}
use Rattle.frame_index.specs.Counted.{count_where, is_doubled, counts_of}
use Rattle.frame_index.specs.Indexed.{IsIndexOf}
use Rattle.frame_index.specs.SlotOrder.{FollowOn}
use Rattle.frame_index.specs.Building.{Holds, Extends}
use Rattle.frame_index.specs.Faults.{CountsFault, CountsReads, IsReadOrMemory, IsFieldOf, IsFieldFault}
use Rattle.frame_index.specs.Foreign.{foreign_field}
use Rattle.frame_index.specs.Recording.{Shelved, AreOnShelf, bytes_on, slots_on, slots_by_size, slot_total}
use Rattle.frame_index.proofs.ValidLemmas.{places-valid, doubled-valid, in_order-valid}
use Rattle.frame_index.proofs.ToldLemmas.{WhereTold-both, WhereTold-weaker, WhereTold-always}

-- the builder stands for all slots
pub all_met : (told : Option Shelved) (shape : ShapeFields) (files : List FileRef) (a b : Builder) → Holds shape [] a
    → WhereTold told (AreOnShelf files)
    → WhereTold told (λ shelf. AreOnShelf files shelf → Extends shape a b (slots_on shelf shape files))
    → WhereTold told (λ shelf. Holds shape (slots_on shelf shape files) b)
all_met told shape files a b holds on_shelf extends =
    WhereTold-both told (AreOnShelf files) (λ shelf. AreOnShelf files shelf → Extends shape a b (slots_on shelf shape files)) (λ shelf. Holds shape (slots_on shelf shape files) b)
    (λ shelf on more. more on [] holds) on_shelf extends

-- the index that the builder comes to
pub finished : (shape : ShapeFields) (slots : List Slot) (builder : Builder) (entries : List (Frame × SlotAt)) (doubled : ℕ) (counts : Counts)
    → Holds shape slots builder → FollowOn slots
    → (AreInFileOrder builder.frames.entries.items → (frame : Frame) → place_under entries frame ≡ place_under builder.frames.entries.items frame)
    → doubled + frames_in builder.frames.entries.items ≡ length builder.frames.entries.items
    → counts ≡ record builder.counts { doubled = doubled }
    → IsIndexOf shape slots (record { entries = entries; counts = counts })
finished shape slots builder entries doubled counts holds follow first repeats with_doubled =
    let ordered : AreInFileOrder builder.frames.entries.items = rw holds.frames (in_order-valid shape slots follow) in
    let named : doubled ≡ count_where (is_doubled shape) slots = omega (arith, rw holds.frames at repeats, doubled-valid shape slots) in
    record {
      places = λ thread second number.
          let frame : Frame = record { second = second; number = number; thread = thread } in
          first ordered frame
          ∙ ap (λ (met : List (Frame × SlotAt)). place_under met frame) holds.frames
          ∙ places-valid shape slots frame;
      counts = with_doubled
          ∙ ap (λ (c : Counts). let d : Counts = record c { doubled = doubled } in d) holds.counts
          ∙ ap (λ (n : ℕ). let d : Counts = record (counts_of shape slots) { doubled = n } in d) named;
    }

-- a fault of a read, or want of memory, names no field
pub no_field : (told : Option Shelved) (foreign : Shelved → Option Field) (fault : IndexFault) → IsReadOrMemory fault
    → WhereTold told (λ shelf. IsFieldOf (foreign shelf) fault)
no_field told foreign fault is = WhereTold-always told (λ shelf. IsFieldOf (foreign shelf) fault) (λ shelf. at shelf fault is)
  where
    at : (shelf : Shelved) (fault : IndexFault) → IsReadOrMemory fault → IsFieldOf (foreign shelf) fault
    at shelf Read is = tt
    at shelf (NoFrameAgrees field) is = absurd is
    at shelf TooManySlots is = absurd is
    at shelf Memory is = tt

-- the field that the builder knows
named_field : (known foreign : Option Field) (fault : IndexFault) → known ≡ foreign → IsFieldFault known fault → IsFieldOf foreign fault
named_field known foreign Read e is = absurd is
named_field known foreign (NoFrameAgrees field) e is = sym e ∙ is
named_field known foreign TooManySlots e is = absurd is
named_field known foreign Memory e is = absurd is

pub foreign_named : (told : Option Shelved) (shape : ShapeFields) (files : List FileRef) (b : Builder) (fault : IndexFault)
    → WhereTold told (λ shelf. Holds shape (slots_on shelf shape files) b) → IsFieldFault b.none_agrees fault
    → WhereTold told (λ shelf. IsFieldOf (foreign_field shape (slots_of shape.frame_bytes (bytes_on shelf files))) fault)
foreign_named told shape files b fault met is =
    WhereTold-weaker told (λ shelf. Holds shape (slots_on shelf shape files) b) (λ shelf. IsFieldOf (foreign_field shape (slots_of shape.frame_bytes (bytes_on shelf files))) fault)
    (λ shelf holds. named_field b.none_agrees (foreign_field shape (slots_of shape.frame_bytes (bytes_on shelf files))) fault holds.none_agrees is) met

pub some_agrees : (told : Option Shelved) (shape : ShapeFields) (files : List FileRef) (b : Builder)
    → WhereTold told (λ shelf. Holds shape (slots_on shelf shape files) b) → b.none_agrees ≡ None
    → WhereTold told (λ shelf. foreign_field shape (slots_of shape.frame_bytes (bytes_on shelf files)) ≡ None)
some_agrees told shape files b met e =
    WhereTold-weaker told (λ shelf. Holds shape (slots_on shelf shape files) b) (λ shelf. foreign_field shape (slots_of shape.frame_bytes (bytes_on shelf files)) ≡ None)
    (λ shelf holds. sym holds.none_agrees ∙ e) met

-- one of these faults is not that of too many slots
pub never_too_many : {T : Type 0} (r : Result T IndexFault) (P : IndexFault → Type 0) → (P TooManySlots → ⊥) → IfErr r P → r ≡ Err TooManySlots → ⊥
never_too_many (Ok x) P never is e = cc
never_too_many (Err fault) P never is e = let same : fault ≡ TooManySlots = cc in never (subst P same is)

-- the files' slots are not more than the most, where they were counted
pub within_most : (slots most size : ℕ) (shape : ShapeFields) (files : List FileRef) → size ≡ shape.frame_bytes
    → slots ≡ slots_by_size size files → slots ≤ most
    → slot_total shape files ≤ most
within_most slots most size shape files same counted within =
    let total : slots_by_size size files ≡ slot_total shape files = ap (λ (n : ℕ). slots_by_size n files) same in
    omega (arith, total, counted, within)

pub total_met : (a b n : ℕ) → b ≡ a + n → a ≡ 0 → b ≡ n
total_met a b n e z = omega arith

pub not_too_many : {T : Type 0} (r : Result T IndexFault) (most total : ℕ) (P : IndexFault → Type 0) → (P TooManySlots → ⊥) → IfErr r P → total ≤ most
    → (r ≡ Err TooManySlots) ↔ (most < total)
not_too_many (Ok x) most total P never is within = ((λ e. cc), λ more. absurd (omega arith))
not_too_many (Err fault) most total P never is within =
    ((λ e. let same : fault ≡ TooManySlots = cc in absurd (never (subst P same is))), λ more. absurd (omega arith))

-- a fault that names a field is none of the shelf's
kept_by : (before : ℕ) (known : Option Field) (fault : IndexFault) → IsFieldFault known fault → CountsFault before before fault
kept_by before known Read is = absurd is
kept_by before known (NoFrameAgrees field) is = refl
kept_by before known TooManySlots is = refl
kept_by before known Memory is = refl

pub CountsReads-kept : {T : Type 0} (before now : ℕ) (known : Option Field) (r : Result T IndexFault) → now ≡ before → IfErr r (IsFieldFault known) → CountsReads before now r
CountsReads-kept before now known (Ok x) e is = record { kept = e; cause = tt; no_fall = omega arith }
CountsReads-kept before now known (Err fault) e is = record { kept = tt; cause = subst (λ (n : ℕ). CountsFault before n fault) (sym e) (kept_by before known fault is); no_fall = omega arith }
