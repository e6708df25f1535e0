use Rattle.std.proofs.Common.{◌≡◌, ◌⊎◌, Result, Err, inl, inr, sym, subst}
use Rattle.std.specs.Prelude.{map, string_bytes}
use Rattle.run_words.specs.declared.fault.WordsFault.{WordsFault}
use Rattle.run_words.specs.declared.fault.WordsFault.TheVariants.{Memory}
use Rattle.run_words.specs.declared.order.Order.{Order}
use Rattle.vlbi_core.specs.Calls.{order_in}
use Rattle.vlbi_core.specs.Faults.{words_refusal}
use Rattle.vlbi_core.specs.Steps.{IsOfWords}
use Rattle.vlbi_core.proofs.order.read_order.Goals as goal

IsOfWords-refusal : (wanted : Result Order WordsFault) (fault : WordsFault) → (fault ≡ Memory) ⊎ (wanted ≡ Err fault) → IsOfWords wanted (words_refusal fault)
IsOfWords-refusal wanted fault (inl memory) = subst (λ (f : WordsFault). IsOfWords wanted (words_refusal f)) (sym memory) tt
IsOfWords-refusal wanted Memory (inr is) = tt
IsOfWords-refusal wanted fault (inr is) = is

pub returns-in-Err-clause-fault : goal.returns-in-Err-clause-fault
returns-in-Err-clause-fault c =
    rw c.words_refusal.ensures (IsOfWords-refusal (order_in (map string_bytes c.args.words.now)) c.in-Err.fault c.in-Err.ensures.order)
