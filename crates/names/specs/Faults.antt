-- What a refused caller reads: no room is refusal 23 of the stage.
use Rattle.layout.specs.Faults as layout_faults
use Rattle.layout.specs.declared.fault.Layer.TheVariants.{Stage}
use Rattle.layout.specs.declared.fault.Report.{Report}
use Rattle.expression.specs.Faults as expression_faults
use Rattle.names.specs.declared.fault.NamesFault.{NamesFault}
use Rattle.names.specs.declared.fault.NamesFault.TheVariants.{Layout, Expression, NoRoom}

abbrev pub reported : NamesFault → Report
reported (Layout f) = layout_faults.reported f
reported (Expression f) = expression_faults.reported f
reported NoRoom = record { number = 23; layer = Stage; place = 0 }
