use Rattle.byte_streams.specs.Values.{im_of, re_of, there_of}
use Rattle.lag_kernel.proofs.PartsLemmas.{FillsTo}
use Rattle.lag_kernel.proofs.parts.Parts.of.Given as goal

abbrev pub invariant-loop-k : goal.invariant-loop-k
invariant-loop-k l = record {
  re : FillsTo re_of l.values l.k l.re;
  im : FillsTo im_of l.values l.k l.im;
  there : FillsTo there_of l.values l.k l.there;
}
