use Rattle.std.proofs.Common.{◌≡◌, ◌/◌, ℕ, List, [], length, rules, ap, sym, subst, ◌∙◌}
use Rattle.corr_model.specs.Records.{IsVis, places_of}
use Rattle.vis_records.specs.Content.{IsRecordFile}
use Rattle.vis_records.specs.Parts.{Took, StopsBy, in_turn, AreBytes}
use Rattle.vis_records.specs.Reading.{head, record_due, end_due}
use Rattle.vis_records.proofs.FieldLemmas.{passed-on}
use Rattle.vis_records.proofs.FileForms.{FileSaid, file-is, count-is, stops-at_end}
use Rattle.vis_records.proofs.read.read_file.Goals.{After-lags}
use Rattle.vis_records.proofs.read.read_file.Goals as goal

-- the head that was read, the cells from none on, and how many records they are
head-of : (c : After-lags) → head c.args.bytes.now ≡ Took c.in_ok-head.head c.read_head.new.rest
head-of c = subst (λ t. head t ≡ Took c.in_ok-head.head c.read_head.new.rest) c.of-rest.ensures c.in_ok-head.ensures.took

cells-of : (c : After-lags)
    → in_turn (record_due c.in_ok-head.head.lags) [] (places_of c.in_ok-head.head) c.read_head.new.rest
    ≡ Took c.read_records.new.cells.items c.read_records.new.rest
cells-of c =
    subst (λ none. in_turn (record_due c.in_ok-head.head.lags) none (places_of c.in_ok-head.head) c.read_head.new.rest ≡ Took c.read_records.new.cells.items c.read_records.new.rest)
    c.new-cells.ensures.items c.in_ok-read_records.ensures.took

count-of : (c : After-lags) → c.len.result / c.lags.result ≡ length (places_of c.in_ok-head.head)
count-of c =
    let bytes : AreBytes c.args.bytes.now = search rules in
    let len : c.len.result ≡ length c.read_records.new.cells.items = search rules in
    ap (λ n. n / c.lags.result) len ∙ ap (λ n. length c.read_records.new.cells.items / n) c.lags.ensures
    ∙ count-is c.args.bytes.now c.in_ok-head.head c.read_records.new.cells.items _ _ bytes (head-of c) (cells-of c)

-- the whole file, by what was read of it
file-of : (c : After-lags) (n : ℕ) (rest : List ℕ) → end_due (c.len.result / c.lags.result) c.read_records.new.rest ≡ Took n rest
    → FileSaid c.args.bytes.now c.in_ok-head.head c.read_records.new.cells.items rest
file-of c n rest third =
    let bytes : AreBytes c.args.bytes.now = search rules in
    file-is c.args.bytes.now c.in_ok-head.head c.read_records.new.cells.items n _ _ rest bytes (head-of c) (cells-of c)
    (subst (λ k. end_due k c.read_records.new.rest ≡ Took n rest) (count-of c) third)

pub returns-in_err-read_end-clause-stops : goal.returns-in_err-read_end-clause-stops
returns-in_err-read_end-clause-stops c =
    let p = (goal.at.returns-in_err-read_end-clause-stops c).After-lags in
    passed-on _ c.from_residual-in_err-read_end.result c.in_err-read_end.field-0.0 c.from_residual-in_err-read_end.ensures.1
    (stops-at_end c.args.bytes.now c.in_ok-head.head c.read_records.new.cells.items _ _ (head-of p) (cells-of p)
    (subst (λ n. StopsBy (end_due n c.read_records.new.rest) c.in_err-read_end.field-0.0) (count-of p) c.in_err-read_end.ensures.stops))

pub new-requires : goal.new-requires
new-requires c =
    subst (IsVis c.in_ok-head.head) (sym c.of.ensures) (file-of (goal.at.new-requires c).After-lags _ _ c.in_ok-read_end.ensures.took).vis

pub returns-clause-took : goal.returns-clause-took
returns-clause-took c =
    (file-of (goal.at.returns-clause-took c).After-lags _ _ c.in_ok-read_end.ensures.took).took
    ∙ ap (λ v. Took v []) (sym (c.new.ensures ∙ ap (λ cells. record { head = c.in_ok-head.head; cells = cells }) c.of.ensures))

pub returns-clause-content : goal.returns-clause-content
returns-clause-content c =
    let f = file-of (goal.at.returns-clause-content c).After-lags _ _ c.in_ok-read_end.ensures.took in
    let made : IsRecordFile c.args.bytes.now (record { head = c.in_ok-head.head; cells = c.read_records.new.cells.items }) = record { vis = f.vis; is = f.is } in
    subst (IsRecordFile c.args.bytes.now) (sym (c.new.ensures ∙ ap (λ cells. record { head = c.in_ok-head.head; cells = cells }) c.of.ensures)) made
