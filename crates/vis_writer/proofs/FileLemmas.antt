-- A whole record file, of its head, its records and its end.
use Rattle.std.proofs.Common.{◌≡◌, ℕ, ◌%◌, ◌^◌, List, ◌++◌, length, Option, Result, Ok, Err, refl, sym, ap, ◌∙◌, subst, append_assoc}
use Rattle.dev_traits.specs.Told.{WhereTold}
use Rattle.corr_model.specs.Records.{Head, head_text, end_text, places_of, vis_text}
use Rattle.sink_text.specs.Appends.{Appends}
use Rattle.vis_records.specs.declared.writer.SinkFault.{SinkFault}
use Rattle.vis_writer.specs.declared.fault.WriteFault.{WriteFault}
use Rattle.vis_writer.specs.Cells.{CellsOf, IsFull, all_cells}
use Rattle.vis_writer.specs.Texts.{scans_text}
use Rattle.vis_writer.specs.Writes.{Composes, Writes, of_sink}
use Rattle.vis_writer.proofs.FileText.{vis_text-scans, end_text-low}
use Rattle.vis_writer.proofs.WritesLemmas.{where_then, where_always, Writes-then, Writes-exit, Writes-sunk}

module _ {C F : Type 0} (head : C → Head) (cells : C → Option CellsOf) (steady : C → C → Type 0) (fails : C → C → F → Type 0) (laws : Composes steady fails)
    (h : Head) (old : C) (is : head old ≡ h) (full : WhereTold (cells old) (IsFull (head old))) where
  parts : WhereTold (cells old) (λ of. vis_text h (all_cells h of) ≡ (head_text h ++ scans_text h of) ++ end_text (length (places_of h)))
  parts =
      where_then (cells old) (IsFull (head old)) (λ of. vis_text h (all_cells h of) ≡ (head_text h ++ scans_text h of) ++ end_text (length (places_of h)))
      (λ of full. vis_text-scans h of (subst (λ (x : Head). IsFull x of) is full)) full

  parts_right : WhereTold (cells old) (λ of. vis_text h (all_cells h of) ≡ head_text h ++ (scans_text h of ++ end_text (length (places_of h))))
  parts_right =
      where_then (cells old) (λ of. vis_text h (all_cells h of) ≡ (head_text h ++ scans_text h of) ++ end_text (length (places_of h)))
      (λ of. vis_text h (all_cells h of) ≡ head_text h ++ (scans_text h of ++ end_text (length (places_of h))))
      (λ of whole. whole ∙ append_assoc (head_text h) (scans_text h of) (end_text (length (places_of h)))) parts

  -- the head failed
  pub file-head : {e : WriteFault F} {r : Result (Unit {0}) (WriteFault F)} (written : Result (Unit {0}) SinkFault) (told told' : Option (List ℕ)) (faults faults' : ℕ)
      → Appends told told' (head_text h) faults faults' written
      → Err e ≡ of_sink written
      → r ≡ Err e
      → Writes head cells steady fails (λ of. vis_text h (all_cells h of)) old old told told' faults faults' r
  file-head {e = e} {r = r} written told told' faults faults' one failed same =
      let first = Writes-sunk head cells steady fails laws written (head_text h) old told told' faults faults' one in
      subst (λ (r : Result (Unit {0}) (WriteFault F)). Writes head cells steady fails (λ of. vis_text h (all_cells h of)) old old told told' faults faults' r) (sym same)
      (Writes-exit head cells steady fails laws (λ of. vis_text h (all_cells h of)) (λ of. head_text h) (λ of. scans_text h of ++ end_text (length (places_of h)))
      old old told told' faults faults' parts_right
      (subst (λ (r : Result (Unit {0}) (WriteFault F)). Writes head cells steady fails (λ of. head_text h) old old told told' faults faults' r) (sym failed) first))

  -- the head and then records
  both : {x : Unit {0}} {r : Result (Unit {0}) (WriteFault F)} (written : Result (Unit {0}) SinkFault) (new : C)
      (told told' told'' : Option (List ℕ)) (faults faults' faults'' : ℕ)
      → Appends told told' (head_text h) faults faults' written
      → Ok x ≡ of_sink {F = F} written
      → Writes head cells steady fails (λ of. scans_text h of) old new told' told'' faults' faults'' r
      → Writes head cells steady fails (λ of. head_text h ++ scans_text h of) old new told told'' faults faults'' r
  both written new told told' told'' faults faults' faults'' one done scans =
      let first = Writes-sunk head cells steady fails laws written (head_text h) old told told' faults faults' one in
      Writes-then head cells steady fails laws (λ of. head_text h ++ scans_text h of) (λ of. head_text h) (λ of. scans_text h of)
      old old new told told' told'' faults faults' faults''
      (where_same (λ of. head_text h ++ scans_text h of))
      (subst (λ (r : Result (Unit {0}) (WriteFault F)). Writes head cells steady fails (λ of. head_text h) old old told told' faults faults' r) (sym done) first)
      scans
    where
      where_same : (f : CellsOf → List ℕ) → WhereTold (cells old) (λ of. f of ≡ f of)
      where_same f = where_always (cells old) (λ of. f of ≡ f of) (λ of. refl)

  -- a record failed
  pub file-records : {e : WriteFault F} {x : Unit {0}} {r : Result (Unit {0}) (WriteFault F)} (written : Result (Unit {0}) SinkFault) (new : C)
      (told told' told'' : Option (List ℕ)) (faults faults' faults'' : ℕ)
      → Appends told told' (head_text h) faults faults' written
      → Ok x ≡ of_sink {F = F} written
      → Writes {T = Unit {0}} head cells steady fails (λ of. scans_text h of) old new told' told'' faults' faults'' (Err e)
      → r ≡ Err e
      → Writes head cells steady fails (λ of. vis_text h (all_cells h of)) old new told told'' faults faults'' r
  file-records {e = e} {r = r} written new told told' told'' faults faults' faults'' one done scans same =
      subst (λ (r : Result (Unit {0}) (WriteFault F)). Writes head cells steady fails (λ of. vis_text h (all_cells h of)) old new told told'' faults faults'' r) (sym same)
      (Writes-exit head cells steady fails laws (λ of. vis_text h (all_cells h of)) (λ of. head_text h ++ scans_text h of) (λ of. end_text (length (places_of h)))
      old new told told'' faults faults'' parts
      (both written new told told' told'' faults faults' faults'' one done scans))

  -- all of it
  pub file-all : {x y : Unit {0}} {r : Result (Unit {0}) (WriteFault F)} (written ended : Result (Unit {0}) SinkFault) (new : C) (n : ℕ)
      (told told' told'' told''' : Option (List ℕ)) (faults faults' faults'' faults''' : ℕ)
      → Appends told told' (head_text h) faults faults' written
      → Ok x ≡ of_sink {F = F} written
      → Writes {T = Unit {0}} head cells steady fails (λ of. scans_text h of) old new told' told'' faults' faults'' (Ok y)
      → n ≡ length (places_of h) % 2 ^ 64
      → Appends told'' told''' (end_text n) faults'' faults''' ended
      → r ≡ of_sink ended
      → Writes head cells steady fails (λ of. vis_text h (all_cells h of)) old new told told''' faults faults''' r
  file-all {r = r} written ended new n told told' told'' told''' faults faults' faults'' faults''' one done scans counted last same =
      let right : Appends told'' told''' (end_text (length (places_of h))) faults'' faults''' ended =
      subst (λ (t : List ℕ). Appends told'' told''' t faults'' faults''' ended) (ap end_text counted ∙ end_text-low (length (places_of h))) last in
      subst (λ (r : Result (Unit {0}) (WriteFault F)). Writes head cells steady fails (λ of. vis_text h (all_cells h of)) old new told told''' faults faults''' r) (sym same)
      (Writes-then head cells steady fails laws (λ of. vis_text h (all_cells h of)) (λ of. head_text h ++ scans_text h of) (λ of. end_text (length (places_of h)))
      old new new told told'' told''' faults faults'' faults''' parts
      (both written new told told' told'' faults faults' faults'' one done scans)
      (Writes-sunk head cells steady fails laws ended (end_text (length (places_of h))) new told'' told''' faults'' faults''' right))
