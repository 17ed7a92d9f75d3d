-- the join of the first element and of the others so far
use Rattle.std.proofs.Common.{◌≡◌, take, fold}
use Rattle.reader.proofs.join.join_all.Given as goal

abbrev pub invariant-loop-x : goal.invariant-loop-x
invariant-loop-x g l = l.all ≡ fold g.E.Element.joined l.initial.all (take l.x-index l.others)
