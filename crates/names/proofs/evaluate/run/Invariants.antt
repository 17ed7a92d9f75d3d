use Rattle.std.proofs.Common.{◌≡◌, true, length, drop}
use Rattle.expression.specs.Nodes.{sound_from}
use Rattle.expression.specs.Values as values
use Rattle.names.specs.Variables.{read_from}
use Rattle.names.proofs.evaluate.run.Given as goal

abbrev pub invariant-loop-i : goal.invariant-loop-i
invariant-loop-i g l =
    let f = values.node_value (g.H.Host.answers l.host) (read_from l.reading) in
    record { sound : sound_from (length l.stack.items) (drop l.i l.nodes) ≡ true; value : values.run f l.i (drop l.i l.nodes) l.stack.items ≡ values.evaluated f l.nodes }
