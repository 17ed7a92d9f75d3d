-- What the lines of a design say, one after another.
use Rattle.std.specs.Prelude.{◌≡◌, ℕ, ◌+◌, cond, ◌⊎◌, List, [], ◌∷◌, ◌++◌, length, vec_items, ◌==◌}
use Rattle.std.specs.Str.Lines.{IsFirstLine}
use Rattle.table.specs.declared.record.LayoutRecord.{LayoutRecord}
use Rattle.design.specs.declared.ask.Ask.{Ask}
use Rattle.design.specs.declared.ask.Ask.TheVariants as ask
use Rattle.design.specs.declared.ask.Lookup.TheVariants.{Wide, Strict}
use Rattle.design.specs.declared.ask.Question.{Question}
use Rattle.design.specs.declared.command.Command.{Command}
use Rattle.design.specs.declared.command.Command.TheVariants as command
use Rattle.design.specs.declared.layout_line.LayoutLine.{LayoutLine}
use Rattle.design.specs.declared.read.Design.{Design}
use Rattle.design.specs.Keywords.{command_word}
use Rattle.design.specs.Lines.{LayoutSaid, LookupAsked, PairSaid, TranslationAsked}
use Rattle.design.specs.Texts.{words}

-- a line up to the first `#`
abbrev pub uncommented : List ℕ → List ℕ
uncommented [] = []
uncommented (b ∷ bs) = cond (b == 35) [] (b ∷ uncommented bs)

-- what a design holds
pub record Contents : Type 0 where
  pub layouts : List LayoutLine
  pub pool : List ℕ
  pub questions : List Question

abbrev pub contents : Design → Contents
contents d = record { layouts = vec_items d.layouts; pool = vec_items d.pool; questions = vec_items d.questions }

abbrev pub nothing : Contents
nothing = record { layouts = []; pool = []; questions = [] }

-- the words after a command ask a question; not every command is read yet
abbrev pub Asked : Command → List (List ℕ) → Ask → Type 0
Asked command.Find ws a = LookupAsked Wide ws a
Asked command.Number ws a = LookupAsked Strict ws a
Asked command.Place ws a = (n k : ℕ) × (a ≡ ask.Place n k) × PairSaid ws n k
Asked command.From ws a = (s v : ℕ) × (a ≡ ask.From s v) × PairSaid ws s v
Asked command.Trans ws a = TranslationAsked ws a
Asked command.Layout ws a = ⊥
Asked command.Open ws a = ⊥
Asked command.Block ws a = ⊥
Asked command.Close ws a = ⊥
Asked command.Value ws a = ⊥
Asked command.Binary ws a = ⊥
Asked command.Fn ws a = ⊥

-- the words after `layout` on line n add a layout
pub record LayoutAdded (n : ℕ) (ws : List (List ℕ)) (before after : Contents) : Type 0 where
  pub layout : LayoutRecord
  pub said : LayoutSaid ws layout before.pool after.pool
  pub added : after.layouts ≡ before.layouts ++ (record { line = n; layout = layout } ∷ [])
  pub kept : after.questions ≡ before.questions

-- the words after a question's command on line n add a question
pub record QuestionAdded (n : ℕ) (text : List ℕ) (c : Command) (ws : List (List ℕ)) (before after : Contents) : Type 0 where
  pub question : Question
  pub asked : Asked c ws question.ask
  pub line : question.line ≡ n
  pub text_kept : question.text.now ≡ text
  pub added : after.questions ≡ before.questions ++ (question ∷ [])
  pub layouts_kept : after.layouts ≡ before.layouts
  pub pool_kept : after.pool ≡ before.pool

-- line n with the text `text`: blank, a layout, or a question
abbrev pub LineAdded : ℕ → List ℕ → Contents → Contents → Type 0
LineAdded n text before after =
    ((words text ≡ []) × (after ≡ before))
    ⊎ (((ws : List (List ℕ)) × (words text ≡ command_word command.Layout ∷ ws) × LayoutAdded n ws before after)
    ⊎ ((c : Command) × (ws : List (List ℕ)) × (words text ≡ command_word c ∷ ws) × QuestionAdded n text c ws before after))

-- ls are the lines of a text
abbrev pub Lines : List ℕ → List (List ℕ) → Type 0
Lines text [] = length text ≡ 0
Lines text (l ∷ ls) = (rest : List ℕ) × IsFirstLine text l rest × Lines rest ls

-- lines from number n on, one after another
abbrev pub LinesAdded : ℕ → List (List ℕ) → Contents → Contents → Type 0
LinesAdded n [] before after = after ≡ before
LinesAdded n (l ∷ ls) before after = (between : Contents) × LineAdded n (uncommented l) before between × LinesAdded (n + 1) ls between after

-- the text says the design
abbrev pub DesignSaid : List ℕ → Design → Type 0
DesignSaid text d = (ls : List (List ℕ)) × Lines text ls × LinesAdded 1 ls nothing (contents d)
