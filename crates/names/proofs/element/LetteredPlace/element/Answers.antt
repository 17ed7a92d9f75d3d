use Rattle.expression.specs.Letterings.{letters_of}
use Rattle.names.proofs.Picking.{below_dense, below_wide}
use Rattle.names.proofs.element.LetteredPlace.element.Goals as goal

pub returns-in-Dense-clause-inside : goal.returns-in-Dense-clause-inside
returns-in-Dense-clause-inside g c = rw c.dense_element.ensures (below_dense c.args.layout.now (letters_of c.args.self.now.letters) c.args.self.now.index (letters_of c.args.name) c.shape.ensures.valid)

pub returns-in-Diagonal-clause-inside : goal.returns-in-Diagonal-clause-inside
returns-in-Diagonal-clause-inside g c = rw c.table_element.ensures (below_wide c.args.layout.now _)
