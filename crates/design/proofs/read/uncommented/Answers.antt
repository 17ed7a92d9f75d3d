use Rattle.std.proofs.Common.{Some, None, sym, ap, ◌∙◌, lit<}
use Rattle.std.proofs.lemmas.Str.Pattern.{split_parts}
use Rattle.design.specs.Designs.{uncommented}
use Rattle.design.proofs.Hashes.{no_comment, a_comment}
use Rattle.design.proofs.read.uncommented.Goals as goal

pub returns-in-Some : goal.returns-in-Some
returns-in-Some c =
    let p = split_parts 35 c.args.line.now (Some (c.in-Some.text, c.in-Some.field-0-1)) c.in-Some.ensures.cases (lit< tt) in
    a_comment _ _ p.1 ∙ ap uncommented (sym p.0)

pub returns-in-None : goal.returns-in-None
returns-in-None c = no_comment _ (split_parts 35 c.args.line.now None c.in-None.ensures.cases (lit< tt))
