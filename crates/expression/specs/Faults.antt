-- What a refused caller reads: each fault with its number, its layer and its place, which is the node.
use Rattle.layout.specs.declared.fault.Layer.TheVariants.{Expression}
use Rattle.layout.specs.declared.fault.Report.{Report}
use Rattle.expression.specs.declared.fault.ExpressionFault.{ExpressionFault}
use Rattle.expression.specs.declared.fault.ExpressionFault.TheVariants.{Malformed, Letters, NotConstant, NoHostValue, NotReady}

abbrev pub reported : ExpressionFault → Report
reported Malformed = record { number = 2; layer = Expression; place = 0 }
reported (Letters n) = record { number = 9; layer = Expression; place = n }
reported (NotConstant n) = record { number = 10; layer = Expression; place = n }
reported (NoHostValue n) = record { number = 11; layer = Expression; place = n }
reported (NotReady n) = record { number = 21; layer = Expression; place = n }
