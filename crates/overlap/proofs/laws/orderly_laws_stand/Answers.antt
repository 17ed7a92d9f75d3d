use Rattle.overlap.proofs.Orderliness.{made, stays}
use Rattle.overlap.proofs.laws.orderly_laws_stand.Goals as goal

pub returns : goal.returns
returns c = record { made = made; stays = stays }
