use Rattle.std.proofs.Common.{◌≡◌, map, take}
use Rattle.job_plan.specs.Output.{product_names}
use Rattle.vis_records.specs.Heads.{product_of}
use Rattle.vis_writer.proofs.head.products_of.Given as goal

abbrev pub invariant-loop-product : goal.invariant-loop-product
invariant-loop-product l = map product_of l.made.items ≡ map (product_names l.channels) (take l.product-index l.products)
