use Rattle.std.proofs.Common.{arith}
use Rattle.overlap.proofs.Merging.{common}
use Rattle.overlap.proofs.merge.first_shared.Goals as goal

pub returns-in-Some-Some : goal.returns-in-Some-Some
returns-in-Some-Some g c = common (g.A.Row.places c.args.a.now) (g.B.Row.places c.args.b.now) _ _ _ _ _ (omega arith) (omega arith) c.in-Some-Some.ensures c.in-Some-Some.ensures' c.first_common.ensures
