-- the elements of the via places so far are at their destinations
use Rattle.std.proofs.Common.{◌≡◌}
use Rattle.reader.specs.Rules.{puts, destination, made_for, join_of}
use Rattle.reader.proofs.read.follow.Given as goal

abbrev pub invariant-loop-k : goal.invariant-loop-k
invariant-loop-k g l = l.target ≡ puts (destination l.spans.block l.spans.indices) (made_for (join_of g.E.Element.joined) l.spans.block l.spans.indices l.source) l.k l.initial.target
