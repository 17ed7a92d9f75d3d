-- What a refused caller reads: each fault with its number, its layer and its place.
use Rattle.std.specs.Prelude.{ℕ}
use Rattle.layout.specs.declared.fault.Layer.TheVariants.{Stage}
use Rattle.layout.specs.declared.fault.Report.{Report}
use Rattle.translation.specs.Faults as translation_faults
use Rattle.expression.specs.Faults as expression_faults
use Rattle.planning.specs.declared.fault.BlockFault.{BlockFault}
use Rattle.planning.specs.declared.fault.BlockFault.TheVariants.{Letters, Translation, Stored, Listed, Expression}
use Rattle.planning.specs.declared.fault.StageFault.{StageFault}
use Rattle.planning.specs.declared.fault.StageFault.TheVariants.{Phase, Unknown, Short, Block}

abbrev by_stage : ℕ → ℕ → Report
by_stage n place = record { number = n; layer = Stage; place = place }

abbrev pub block_reported : BlockFault → Report
block_reported Letters = by_stage 1 0
block_reported (Translation f) = translation_faults.reported f
block_reported (Stored k) = by_stage 22 k
block_reported Listed = by_stage 8 0
block_reported (Expression f) = expression_faults.reported f

abbrev pub reported : StageFault → Report
reported Phase = by_stage 20 0
reported Unknown = by_stage 1 0
reported Short = by_stage 23 0
reported (Block f) = block_reported f
