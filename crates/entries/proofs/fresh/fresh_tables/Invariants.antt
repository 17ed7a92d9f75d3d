use Rattle.std.proofs.Common.{◌≡◌, ◌≤◌, ◌++◌, map, take, drop}
use Rattle.expression.specs.Letterings.{letters_of}
use Rattle.entries.specs.Needed.{needed}
use Rattle.entries.specs.Fresh.{keys_of, fresh}
use Rattle.entries.proofs.fresh.fresh_tables.Given as goal

abbrev pub invariant-loop-node : goal.invariant-loop-node
invariant-loop-node g l =
    let n = l.names in
    let f = needed (g.C.Catalogue.layouts n.scope.now.catalogue.now) n.scope.now.variables.now (letters_of n.block.letters) n.block.source in
    (l.count ≤ l.node-index) × (take l.count l.keys ++ fresh (keys_of l.binaries ++ take l.count l.keys) (map f (drop l.node-index l.nodes)) ≡ fresh (keys_of l.binaries) (map f l.nodes))
