use Rattle.std.proofs.lemmas.Result.{IfOk-weaker}
use Rattle.report.proofs.run.answer_design.Goals as goal

pub returns : goal.returns
returns c = IfOk-weaker c.answers.result _ _ (λ s told. (c.in_ok-design.design, c.in_ok-design.ensures, told)) c.answers.ensures
