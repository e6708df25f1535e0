use Rattle.std.proofs.Common.{map}
use Rattle.job_text.proofs.DraftLemmas.{taken-rows}
use Rattle.job_text.specs.Faults.{row_fault}
use Rattle.job_text.specs.Growing.{grown}
use Rattle.job_text.proofs.draft.Draft.take_row.Goals as goal

pub returns-in-Auto-clause-taken : goal.returns-in-Auto-clause-taken
unfolding row_fault grown
returns-in-Auto-clause-taken c = rw c.in-Auto.is c.take_auto.ensures

pub returns-in-Lags-clause-taken : goal.returns-in-Lags-clause-taken
returns-in-Lags-clause-taken c = rw (c.in-Lags.is, ← c.self.view_is) ((taken-rows _ (map (λ field. field.now) c.args.fields.now) c.take_once.result).lags c.take_once.new.kept (rw c.lags_in.ensures.value at c.take_once.ensures))

pub returns-in-Integration-clause-taken : goal.returns-in-Integration-clause-taken
returns-in-Integration-clause-taken c = rw (c.in-Integration.is, ← c.self-in-Integration.view_is) ((taken-rows _ (map (λ field. field.now) c.args.fields.now) c.take_once-in-Integration.result).integration c.take_once-in-Integration.new.kept (rw c.integration_in.ensures at c.take_once-in-Integration.ensures))

pub returns-in-Epoch-clause-taken : goal.returns-in-Epoch-clause-taken
returns-in-Epoch-clause-taken c = rw (c.in-Epoch.is, ← c.self-in-Epoch.view_is) ((taken-rows _ (map (λ field. field.now) c.args.fields.now) c.take_once-in-Epoch.result).epoch c.take_once-in-Epoch.new.kept (rw c.epoch_in.ensures at c.take_once-in-Epoch.ensures))

pub returns-in-Knot-clause-taken : goal.returns-in-Knot-clause-taken
returns-in-Knot-clause-taken c = rw (c.in-Knot.is, ← c.self-in-Knot.view_is) ((taken-rows _ (map (λ field. field.now) c.args.fields.now) c.take_once-in-Knot.result).knot c.take_once-in-Knot.new.kept (rw c.knot_in.ensures at c.take_once-in-Knot.ensures))

pub returns-in-Rate-clause-taken : goal.returns-in-Rate-clause-taken
returns-in-Rate-clause-taken c = rw (c.in-Rate.is, ← c.self-in-Rate.view_is) ((taken-rows _ (map (λ field. field.now) c.args.fields.now) c.take_once-in-Rate.result).rate c.take_once-in-Rate.new.kept (rw c.rate_in.ensures at c.take_once-in-Rate.ensures))
