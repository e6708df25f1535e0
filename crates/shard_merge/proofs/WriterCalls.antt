-- Calls that read shards from a shelf and append records, in turns.
use Rattle.std.specs.Prelude.{option_map}
use Rattle.std.proofs.Common.{◌≡◌, ◌∙◌, sym, ap, refl, subst, ℕ, ◌%◌, ◌^◌, ◌+◌, ◌<◌, List, [], ◌++◌, length, Option, Some, None, Result, Ok, Err}
use Rattle.std.specs.List.{flat_map, range_with_len}
use Rattle.dev_traits.specs.Fault.{HasRisen}
use Rattle.dev_traits.specs.Told.{WhereTold}
use Rattle.dev_traits.specs.declared.Failed.{Failed}
use Rattle.sink_text.specs.Appends.{Appends}
use Rattle.corr_model.specs.declared.cell.Cell.{Cell}
use Rattle.corr_model.specs.Files.{Files}
use Rattle.corr_model.specs.Records.{Head, head_text, end_text, places_of, vis_text}
use Rattle.piece_plan.specs.Epochs.{JobSizes}
use Rattle.journal_image.specs.Image.{KeptEpoch}
use Rattle.vis_records.specs.declared.writer.SinkFault.{SinkFault}
use Rattle.vis_writer.specs.declared.fault.WriteFault.{WriteFault}
use Rattle.vis_writer.specs.declared.fault.WriteFault.TheVariants.{Source}
use Rattle.vis_writer.specs.Cells.{CellsOf, all_cells}
use Rattle.vis_writer.specs.Texts.{integration_at, scans_text}
use Rattle.vis_writer.specs.Writes.{Composes, Writes, of_sink}
use Rattle.vis_writer.proofs.FileLemmas.{file-head, file-records, file-all}
use Rattle.vis_writer.proofs.WritesLemmas.{where_always, Writes-none, Writes-then, Writes-same, Writes-sunk, Writes-filled, Writes-failed, Writes-next, Writes-cut}
use Rattle.shard_merge.specs.declared.shard.Shard.{Shard}
use Rattle.shard_merge.specs.Merged.{merged_cells}
use Rattle.shard_merge.specs.Reading.{AreReadFrom}
use Rattle.shard_merge.specs.Writing.{IsHeadOf, Stays, Fails, IsSource, WritesMerged, head_by, cells_by}
use Rattle.shard_merge.proofs.WriterSizes.{cells-full}

module _ {F : Type 0} (told : F → Option Files) (count : F → ℕ) (head : Head) (job : JobSizes) (shards : List Shard) where
  shelf-composes : Composes {C = F} {F = Failed} (Stays told count) (Fails told count)
  shelf-composes = record {
    none = λ s. record { same = refl; count_stays = refl };
    both = λ old mid new first second. record {
      same = second.same ∙ first.same;
      count_stays = second.count_stays ∙ first.count_stays;
    };
    last = λ old mid new fault first second. record {
      same = second.same ∙ first.same;
      risen = subst (λ n. HasRisen n (count new)) first.count_stays second.risen;
    };
  }

  -- the shelf still tells it
  source-on : (keeps : Option (List (List KeptEpoch))) (old new : F) → told new ≡ told old → IsSource told job shards keeps old
      → IsSource told job shards keeps new
  source-on None old new same source = tt
  source-on (Some keeps) old new same source = record { files = source.files; there = same ∙ source.there; id = source.id; read = source.read }

  -- nothing yet
  pub merged-none : (shelf : F) (out : Option (List ℕ)) (faults : ℕ)
      → WritesMerged {T = Unit {0}} told count head job shards (λ of. []) shelf shelf out out faults faults (Ok tt)
  merged-none shelf out faults = record {
    at = λ keeps source. Writes-none (head_by head) (cells_by job keeps) (Stays told count) (Fails told count) shelf-composes tt shelf out faults;
  }

  -- the texts of the first numbers, and of the next one
  pub merged-next : {T U : Type 0} {x : U} {r : Result T (WriteFault Failed)} (text : CellsOf → ℕ → List ℕ) (k : ℕ) (old mid new : F)
      (out_old out_mid out_new : Option (List ℕ)) (faults_old faults_mid faults_new : ℕ)
      → WritesMerged {T = U} told count head job shards (λ of. flat_map (text of) (range_with_len 0 k)) old mid out_old out_mid faults_old faults_mid (Ok x)
      → WritesMerged told count head job shards (λ of. text of k) mid new out_mid out_new faults_mid faults_new r
      → WritesMerged told count head job shards (λ of. flat_map (text of) (range_with_len 0 (k + 1))) old new out_old out_new faults_old faults_new r
  merged-next text k old mid new out_old out_mid out_new faults_old faults_mid faults_new first second = record {
    at = λ keeps source.
        let begun = first.at keeps source in
        Writes-next (head_by head) (cells_by job keeps) (Stays told count) (Fails told count) shelf-composes
        text k old mid new out_old out_mid out_new faults_old faults_mid faults_new begun
        (second.at keeps (source-on keeps old mid begun.goes.same source));
  }

  -- the texts of all numbers, of which one failed
  pub merged-cut : {T U : Type 0} {e : WriteFault Failed} {r : Result T (WriteFault Failed)} (text : CellsOf → ℕ → List ℕ) (k n : ℕ) (old new : F)
      (out_old out_new : Option (List ℕ)) (faults_old faults_new : ℕ)
      → k < n
      → r ≡ Err e
      → WritesMerged {T = U} told count head job shards (λ of. flat_map (text of) (range_with_len 0 (k + 1))) old new out_old out_new faults_old faults_new (Err e)
      → WritesMerged told count head job shards (λ of. flat_map (text of) (range_with_len 0 n)) old new out_old out_new faults_old faults_new r
  merged-cut text k n old new out_old out_new faults_old faults_new h failed first = record {
    at = λ keeps source.
        Writes-cut (head_by head) (cells_by job keeps) (Stays told count) (Fails told count) shelf-composes
        text k n old new out_old out_new faults_old faults_new h failed (first.at keeps source);
  }

  -- those of all numbers
  pub merged-whole : {T : Type 0} {x : T} (text : CellsOf → ℕ → List ℕ) (k n : ℕ) (old new : F)
      (out_old out_new : Option (List ℕ)) (faults_old faults_new : ℕ)
      → k ≡ n
      → WritesMerged {T = T} told count head job shards (λ of. flat_map (text of) (range_with_len 0 k)) old new out_old out_new faults_old faults_new (Ok x)
      → WritesMerged {T = T} told count head job shards (λ of. flat_map (text of) (range_with_len 0 n)) old new out_old out_new faults_old faults_new (Ok x)
  merged-whole {T = T} {x = x} text k n old new out_old out_new faults_old faults_new last first =
      subst (λ (n : ℕ). WritesMerged {T = T} told count head job shards (λ of. flat_map (text of) (range_with_len 0 n)) old new out_old out_new faults_old faults_new (Ok x))
      last first

  -- another word for the same text
  pub merged-same : {T : Type 0} {r : Result T (WriteFault Failed)} (a b : CellsOf → List ℕ) (old new : F)
      (out_old out_new : Option (List ℕ)) (faults_old faults_new : ℕ)
      → ((of : CellsOf) → a of ≡ b of)
      → WritesMerged told count head job shards a old new out_old out_new faults_old faults_new r
      → WritesMerged told count head job shards b old new out_old out_new faults_old faults_new r
  merged-same a b old new out_old out_new faults_old faults_new same first = record {
    at = λ keeps source.
        Writes-same (head_by head) (cells_by job keeps) (Stays told count) (Fails told count) shelf-composes
        a b old new out_old out_new faults_old faults_new
        (where_always (cells_by job keeps old) (λ of. a of ≡ b of) same) (first.at keeps source);
  }

  -- another word for the same answer
  pub merged-answer : {T : Type 0} {q r : Result T (WriteFault Failed)} (text : CellsOf → List ℕ) (old new : F)
      (out_old out_new : Option (List ℕ)) (faults_old faults_new : ℕ)
      → q ≡ r
      → WritesMerged told count head job shards text old new out_old out_new faults_old faults_new r
      → WritesMerged told count head job shards text old new out_old out_new faults_old faults_new q
  merged-answer {T = T} text old new out_old out_new faults_old faults_new same first =
      subst (λ (r : Result T (WriteFault Failed)). WritesMerged told count head job shards text old new out_old out_new faults_old faults_new r) (sym same) first

  -- the records of an integration, whose cells were read
  pub merged-integration : (old new : F) (number m : ℕ) (sums : List Cell) (out out' : Option (List ℕ)) (faults faults' : ℕ)
      (written : Result (Unit {0}) SinkFault)
      → told new ≡ told old → count new ≡ count old
      → WhereTold (told old) (λ files. (id : List ℕ) (keeps : List (List KeptEpoch)) → AreReadFrom files id job shards keeps → sums ≡ merged_cells job keeps number m)
      → Appends out out' (integration_at head number m sums) faults faults' written
      → WritesMerged told count head job shards (λ of. integration_at head number m (of number m)) old new out out' faults faults' (of_sink written)
  merged-integration old new number m sums out out' faults faults' written same stays read appends = record { at = one }
    where
      text : CellsOf → List ℕ
      text of = integration_at head number m (of number m)

      at_files : (files : Files) → told old ≡ Some files → (id : List ℕ) (keeps : List (List KeptEpoch)) → AreReadFrom files id job shards keeps
          → sums ≡ merged_cells job keeps number m
      at_files files there =
          subst (λ (o : Option Files). WhereTold o (λ files. (id : List ℕ) (keeps : List (List KeptEpoch)) → AreReadFrom files id job shards keeps → sums ≡ merged_cells job keeps number m))
          there read

      same_text : (keeps : Option (List (List KeptEpoch))) → IsSource told job shards keeps old
          → WhereTold (option_map (merged_cells job) keeps) (λ of. integration_at head number m sums ≡ integration_at head number m (of number m))
      same_text None source = tt
      same_text (Some keeps) source = ap (integration_at head number m) (at_files source.files source.there source.id keeps source.read)

      one : (keeps : Option (List (List KeptEpoch))) → IsSource told job shards keeps old
          → Writes (head_by head) (cells_by job keeps) (Stays told count) (Fails told count)
          (λ of. integration_at head number m (of number m)) old new out out' faults faults' (of_sink written)
      one keeps source =
          let cells : F → Option CellsOf = cells_by job keeps in
          let first : Writes {T = Unit {0}} (head_by head) cells (Stays told count) (Fails told count) (λ of. []) old new out out faults faults (Ok tt) =
          Writes-filled (head_by head) cells (Stays told count) (Fails told count) shelf-composes tt old new out faults (record { same = same; count_stays = stays }) refl refl in
          let sunk = Writes-sunk (head_by head) cells (Stays told count) (Fails told count) shelf-composes written (integration_at head number m sums) new out out' faults faults' appends in
          let second = Writes-same (head_by head) cells (Stays told count) (Fails told count) shelf-composes (λ of. integration_at head number m sums)
          (λ of. integration_at head number m (of number m)) new new out out' faults faults' (same_text keeps source) sunk in
          Writes-then (head_by head) cells (Stays told count) (Fails told count) shelf-composes (λ of. integration_at head number m (of number m)) (λ of. [])
          (λ of. integration_at head number m (of number m)) old new new out out out' faults faults faults'
          (where_always (cells old) (λ of. integration_at head number m (of number m) ≡ [] ++ integration_at head number m (of number m)) (λ of. refl))
          first second

  -- the records of an integration, whose cells could not be read
  pub merged-failed : (text : CellsOf → List ℕ) (old new : F) (out : Option (List ℕ)) (faults : ℕ) (fault : Failed)
      → told new ≡ told old → HasRisen (count old) (count new)
      → WritesMerged {T = Unit {0}} told count head job shards text old new out out faults faults (Err (Source fault))
  merged-failed text old new out faults fault same risen = record {
    at = λ keeps source.
        Writes-failed (head_by head) (cells_by job keeps) (Stays told count) (Fails told count) shelf-composes
        fault text old new out faults (record { same = same; risen = risen }) refl refl;
  }

  -- the head, the records and the end
  pub merged-head : {e : WriteFault Failed} {r : Result (Unit {0}) (WriteFault Failed)} (written : Result (Unit {0}) SinkFault) (old : F)
      (out out' : Option (List ℕ)) (faults faults' : ℕ)
      → IsHeadOf job head
      → Appends out out' (head_text head) faults faults' written
      → Err e ≡ of_sink written
      → r ≡ Err e
      → WritesMerged told count head job shards (λ of. vis_text head (all_cells head of)) old old out out' faults faults' r
  merged-head written old out out' faults faults' is one failed same = record {
    at = λ keeps source.
        file-head (head_by head) (cells_by job keeps) (Stays told count) (Fails told count) shelf-composes head old refl (cells-full job head keeps old is)
        written out out' faults faults' one failed same;
  }

  pub merged-records : {e : WriteFault Failed} {x : Unit {0}} {r : Result (Unit {0}) (WriteFault Failed)} (written : Result (Unit {0}) SinkFault) (old new : F)
      (out out' out'' : Option (List ℕ)) (faults faults' faults'' : ℕ)
      → IsHeadOf job head
      → Appends out out' (head_text head) faults faults' written
      → Ok x ≡ of_sink {F = Failed} written
      → WritesMerged {T = Unit {0}} told count head job shards (λ of. scans_text head of) old new out' out'' faults' faults'' (Err e)
      → r ≡ Err e
      → WritesMerged told count head job shards (λ of. vis_text head (all_cells head of)) old new out out'' faults faults'' r
  merged-records written old new out out' out'' faults faults' faults'' is one done scans same = record {
    at = λ keeps source.
        file-records (head_by head) (cells_by job keeps) (Stays told count) (Fails told count) shelf-composes head old refl (cells-full job head keeps old is)
        written new out out' out'' faults faults' faults'' one done (scans.at keeps source) same;
  }

  pub merged-file : {x y : Unit {0}} {r : Result (Unit {0}) (WriteFault Failed)} (written ended : Result (Unit {0}) SinkFault) (old new : F) (n : ℕ)
      (out out' out'' out''' : Option (List ℕ)) (faults faults' faults'' faults''' : ℕ)
      → IsHeadOf job head
      → Appends out out' (head_text head) faults faults' written
      → Ok x ≡ of_sink {F = Failed} written
      → WritesMerged {T = Unit {0}} told count head job shards (λ of. scans_text head of) old new out' out'' faults' faults'' (Ok y)
      → n ≡ length (places_of head) % 2 ^ 64
      → Appends out'' out''' (end_text n) faults'' faults''' ended
      → r ≡ of_sink ended
      → WritesMerged told count head job shards (λ of. vis_text head (all_cells head of)) old new out out''' faults faults''' r
  merged-file written ended old new n out out' out'' out''' faults faults' faults'' faults''' is one done scans counted last same = record {
    at = λ keeps source.
        file-all (head_by head) (cells_by job keeps) (Stays told count) (Fails told count) shelf-composes head old refl (cells-full job head keeps old is)
        written ended new n out out' out'' out''' faults faults' faults'' faults''' one done (scans.at keeps source) counted last same;
  }
