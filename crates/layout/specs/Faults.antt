-- What a refused caller reads: each fault with its number, its layer and its place.
use Rattle.layout.specs.declared.fault.Layer.TheVariants.{Stage}
use Rattle.layout.specs.declared.fault.Report.{Report}
use Rattle.layout.specs.declared.fault.LayoutFault.{LayoutFault}
use Rattle.layout.specs.declared.fault.LayoutFault.TheVariants.{Unknown, Faulty}

abbrev pub reported : LayoutFault → Report
reported Unknown = record { number = 1; layer = Stage; place = 0 }
reported (Faulty n rule) = record { number = 1; layer = Stage; place = n }
