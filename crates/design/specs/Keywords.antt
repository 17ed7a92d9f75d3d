-- The words for commands and lookups.
use Rattle.std.specs.Prelude.{◌≡◌, ◌≢◌, ℕ, List, codes, MatchResult, Result}
use Rattle.design.specs.declared.ask.Lookup.{Lookup}
use Rattle.design.specs.declared.ask.Lookup.TheVariants.{Wide, Strict}
use Rattle.design.specs.declared.command.Command.{Command}
use Rattle.design.specs.declared.command.Command.TheVariants as command

abbrev pub command_word : Command → List ℕ
command_word command.Layout = codes "layout"
command_word command.Find = codes "find"
command_word command.Number = codes "number"
command_word command.Place = codes "place"
command_word command.Open = codes "open"
command_word command.Block = codes "block"
command_word command.Close = codes "close"
command_word command.Value = codes "value"
command_word command.From = codes "from"
command_word command.Trans = codes "trans"
command_word command.Binary = codes "binary"
command_word command.Fn = codes "fn"

abbrev pub lookup_word : Lookup → List ℕ
lookup_word Wide = codes "wide"
lookup_word Strict = codes "strict"

-- a word is read as the command that it names, and refused where it names none
abbrev pub CommandRead : {E : Type 0} → List ℕ → Result Command E → Type 0
CommandRead word r = MatchResult r (λ c. command_word c ≡ word) (λ _. (c : Command) → command_word c ≢ word)
