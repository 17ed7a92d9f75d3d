use Rattle.std.specs.Str.Iter.{lines_rest}
use Rattle.std.specs.Iterator.Adapters.{enumerate_source, enumerate_count}
use Rattle.design.specs.Designs.{contents}
use Rattle.design.proofs.Adding.{Sofar}
use Rattle.design.proofs.read.read_design.Given as goal

abbrev pub invariant-loop-n : goal.invariant-loop-n
invariant-loop-n l = Sofar l.text (lines_rest (enumerate_source l.n-iterator)) (enumerate_count l.n-iterator) (contents l.design)
