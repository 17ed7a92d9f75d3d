-- The first entry of a host's table that matches.
use Rattle.std.proofs.Common.{◌≡◌, ℕ, List, [], ◌∷◌, refl, arith}
use lib.Ieee.{Float}
use Rattle.std.specs.List.{find}
use Rattle.std.specs.Option.{option_map}
use Rattle.expression.specs.declared.table_host.HostEntry.{HostEntry}
use Rattle.expression.specs.Hosts.{matches, table_answer}

pub first_match : (es : List HostEntry) (code : ℕ) (xs : List Float) → option_map (λ e. e.value) (find (λ e. matches e code xs) es) ≡ table_answer es code xs
first_match [] code xs = refl
first_match (e ∷ es) code xs = let h = first_match es code xs in grind arith
