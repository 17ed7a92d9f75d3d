use Rattle.std.proofs.Common.{rules}
use Rattle.table.proofs.places.is_inside.Goals as goal

pub returns : goal.returns
returns c = search rules
