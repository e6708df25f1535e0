-- Calls that take cells from a source and append their records to a sink.
use Rattle.std.specs.Prelude.{◌≡◌, ℕ, ◌≤◌, List, Option, Result, Ok, Err, OnOk, OnErr}
use Rattle.dev_traits.specs.Fault.{HasRisen}
use Rattle.dev_traits.specs.Told.{more, PrefixMore, WhereTold}
use Rattle.vis_records.specs.declared.writer.SinkFault.{SinkFault}
use Rattle.vis_writer.specs.declared.fault.WriteFault.{WriteFault}
use Rattle.vis_writer.specs.declared.fault.WriteFault.TheVariants.{Source, Sink}
use Rattle.vis_writer.specs.Cells.{CellsOf}

-- What calls without a fault do to a source goes on over any number of them, and a fault after such calls is one of
-- them all.
pub record Composes {C F : Type 0} (steady : C → C → Type 0) (fails : C → C → F → Type 0) : Type 0 where
  pub none : (source : C) → steady source source
  pub both : (old mid new : C) → steady old mid → steady mid new → steady old new
  pub last : (old mid new : C) (fault : F) → steady old mid → fails mid new fault → fails old new fault

-- all of the text was appended, or with a fault a first part of it
pub record Appended {T E : Type 0} (old : Option (List ℕ)) (text : List ℕ) (new : Option (List ℕ)) (result : Result T E) : Type 0 where
  pub all : OnOk result (new ≡ more old text)
  pub part : OnErr result (PrefixMore old text new)

-- the sink's count of faults rises with a fault of the sink, and with nothing else
abbrev pub SinkCounts : {T F : Type 0} → ℕ → ℕ → Result T (WriteFault F) → Type 0
SinkCounts before now (Ok x) = now ≡ before
SinkCounts before now (Err (Source fault)) = now ≡ before
SinkCounts before now (Err Sink) = HasRisen before now × (before ≤ now)

-- the source fails with a fault of its own, and with nothing else
abbrev pub SourceGoes : {C T F : Type 0} → (C → C → Type 0) → (C → C → F → Type 0) → C → C → Result T (WriteFault F) → Type 0
SourceGoes steady fails old new (Ok x) = steady old new
SourceGoes steady fails old new (Err (Source fault)) = fails old new fault
SourceGoes steady fails old new (Err Sink) = steady old new

-- A call appends the text that the source's cells make, where the source tells them. The source keeps its head and its
-- cells.
pub record Writes {C H T F : Type 0} (head : C → H) (cells : C → Option CellsOf) (steady : C → C → Type 0)
    (fails : C → C → F → Type 0) (text : CellsOf → List ℕ) (old new : C) (told_old told_new : Option (List ℕ))
    (faults_old faults_new : ℕ) (result : Result T (WriteFault F)) : Type 0 where
  pub appended : WhereTold (cells old) (λ of. Appended told_old (text of) told_new result)
  pub counts : SinkCounts faults_old faults_new result
  pub goes : SourceGoes steady fails old new result
  pub same_head : head new ≡ head old
  pub same_cells : cells new ≡ cells old

-- the sink's answer
abbrev pub of_sink : {T F : Type 0} → Result T SinkFault → Result T (WriteFault F)
of_sink (Ok x) = Ok x
of_sink (Err fault) = Err Sink
