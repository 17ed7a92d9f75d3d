use Rattle.std.proofs.Common.{◌∙◌}
use Rattle.expression.proofs.Lettering.{any_among}
use Rattle.expression.proofs.letters.is_among.Goals as goal

pub returns : goal.returns
returns c = c.contains.ensures.value ∙ any_among c.args.letter c.args.letters.now
