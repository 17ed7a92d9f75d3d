use Rattle.std.proofs.Common.{refl}
use Rattle.std.specs.Fmt.{signed_decimal}
use Rattle.std.proofs.lemmas.Result.{IfOk-weaker}
use Rattle.report.proofs.translations.put_entries.Goals as goal

pub returns : goal.returns
returns c = IfOk-weaker c.put_joined.result _ _ (λ _ h. h signed_decimal (λ x. refl)) c.put_joined.ensures
