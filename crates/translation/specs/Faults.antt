-- What a refused caller reads of a translation's fault.
use Rattle.std.specs.Prelude.{ℕ}
use Rattle.layout.specs.declared.fault.Layer.{Layer}
use Rattle.layout.specs.declared.fault.Layer.TheVariants as layer
use Rattle.layout.specs.declared.fault.Report.{Report}
use Rattle.translation.specs.declared.kinds.TranslationFault.{TranslationFault}
use Rattle.translation.specs.declared.kinds.TranslationFault.TheVariants.{Unknown, Start, NoTranslation, Elements, Uncovered, NoDestination, Short}

abbrev told : ℕ → Layer → ℕ → Report
told n l p = record { number = n; layer = l; place = p }

abbrev pub reported : TranslationFault → Report
reported Unknown = told 1 layer.Stage 0
reported Start = told 3 layer.Translation 0
reported NoTranslation = told 4 layer.Translation 0
reported Elements = told 5 layer.Translation 0
reported Uncovered = told 6 layer.Translation 0
reported (NoDestination k) = told 7 layer.Translation k
reported Short = told 23 layer.Stage 0
