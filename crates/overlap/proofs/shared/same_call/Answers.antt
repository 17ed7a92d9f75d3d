use Rattle.std.proofs.Common.{◌∙◌, rules}
use Rattle.overlap.proofs.Finds.{routes_alike}
use Rattle.overlap.proofs.shared.same_call.Goals as goal

pub returns : goal.returns
returns c = c.eq.ensures ∙ routes_alike _ _ _ c.args.entry.route.start c.args.route.start (search rules) (search rules)
