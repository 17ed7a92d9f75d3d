use Rattle.names.proofs.Owning.{own_number}
use Rattle.names.proofs.laws.own_number_counts.Goals as goal

pub returns : goal.returns
returns c = own_number
