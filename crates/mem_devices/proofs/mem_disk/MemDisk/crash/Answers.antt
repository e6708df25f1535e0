use Rattle.std.proofs.Common.{◌∙◌, ap, sym, subst}
use Rattle.std.proofs.lemmas.Result.{IfOk-weaker}
use Rattle.mem_devices.specs.MemDiskState.{State, IsImage}
use Rattle.mem_devices.specs.MemDiskWords.{state_of}
use Rattle.mem_devices.specs.MemDiskImages.{between_now}
use Rattle.mem_devices.proofs.MemDiskComes.{filled_image}
use Rattle.mem_devices.proofs.mem_disk.MemDisk.crash.Goals as goal

pub returns-clause-image : goal.returns-clause-image
returns-clause-image c =
    let file = c.args.self.file in
    let s = state_of c.args.self in
    IfOk-weaker c.new-2.result _ _ (λ d e. subst (IsImage s) (sym (ap (λ (t : State). t.seen) e ∙ c.in_ok-image.ensures)) (filled_image s c.args.fill c.args.long (between_now file.first.items file.calls.items))) c.new-2.ensures.state
