-- Calls that append some text, one after another.
use Rattle.std.proofs.Common.{◌≡◌, ◌∙◌, sym, ap, refl, subst, ℕ, List, [], ◌++◌, Option, Result, Ok, Err}
use Rattle.dev_traits.specs.Told.{more, PrefixMore}
use Rattle.dev_traits.proofs.Appended.{more-more, more-nil, PrefixMore-after, PrefixMore-none}
use Rattle.sink_text.specs.Appends.{Appends}
use Rattle.checkpoint_journal.specs.declared.fault.ReadFault.{ReadFault}
use Rattle.vis_records.specs.declared.writer.SinkFault.{SinkFault}
use Rattle.vis_records.specs.declared.writer.SinkFault.TheVariants.{Sink}
use Rattle.vis_writer.specs.Writes.{of_sink}
use Rattle.journal_records.specs.declared.fault.EmitFault.{EmitFault}
use Rattle.journal_records.specs.declared.fault.EmitFault.TheVariants.{Memory}
use Rattle.journal_records.specs.Kept.{Grows}

pub grows-none : {E : Type 0} (told : Option (List ℕ)) → Grows {T = Unit {0}} {E = E} told told (Ok tt)
grows-none told = ([], record { all = sym (more-nil told); part = tt })

pub grows-failed : {T E : Type 0} (told : Option (List ℕ)) (e : E) → Grows {T = T} {E = E} told told (Err e)
grows-failed told e = ([], record { all = tt; part = PrefixMore-none told told [] refl })

pub grows-then : {T U E : Type 0} {x : U} (r : Result T E) (old mid new : Option (List ℕ))
    → Grows {T = U} {E = E} old mid (Ok x) → Grows mid new r → Grows old new r
grows-then (Ok y) old mid new first second = (
  first.0 ++ second.0,
  record {
    all = second.1.all ∙ ap (λ t. more t second.0) first.1.all ∙ more-more old first.0 second.0;
    part = tt;
  },
)
grows-then (Err e) old mid new first second = (
  first.0 ++ second.0,
  record {
    all = tt;
    part = PrefixMore-after old new first.0 second.0 (subst (λ t. PrefixMore t second.0 new) first.1.all second.1.part);
  },
)

-- the same fault as that of another call
pub grows-cut : {T U E : Type 0} {e : E} {r : Result T E} (old new : Option (List ℕ)) → r ≡ Err e
    → Grows {T = U} {E = E} old new (Err e) → Grows old new r
grows-cut {T = T} {U = U} {E = E} {e = e} {r = r} old new failed first =
    let one : Grows {T = T} {E = E} old new (Err e) = (first.0, record { all = tt; part = first.1.part }) in
    subst (λ (q : Result T E). Grows old new q) (sym failed) one

-- a call of the sink
pub grows-sunk : (written : Result (Unit {0}) SinkFault) (text : List ℕ) (old new : Option (List ℕ)) (faults now : ℕ)
    → Appends old new text faults now written → Grows old new (of_sink {F = ReadFault} written)
grows-sunk (Ok x) text old new faults now one = (text, record { all = one.ok; part = tt })
grows-sunk (Err Sink) text old new faults now one = (text, record { all = tt; part = one.prefix })

-- a call that was refused before it began
pub grows-refused : (told : Option (List ℕ)) (r : Result (Unit {0}) EmitFault) → r ≡ Err Memory → Grows told told r
grows-refused told r is = subst (λ (q : Result (Unit {0}) EmitFault). Grows told told q) (sym is) (grows-failed {T = Unit {0}} told Memory)
