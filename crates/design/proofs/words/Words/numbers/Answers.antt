use Rattle.std.proofs.Common.{[], ◌∷◌, Ok, refl, ◌∙◌, subst}
use Rattle.std.proofs.lemmas.Slice.{pushed}
use Rattle.design.proofs.Said.{one_more}
use Rattle.design.proofs.words.Words.numbers.Goals as goal

pub loop-word-preserved : goal.loop-word-preserved
loop-word-preserved g c =
    let took = c.in-Some.ensures in
    let got = c.in_ok-n.ensures in
    let n = c.in_ok-n.n in (
      took.line ∙ c.loop-word.invariant.0,
      one_more (λ w n. g.N.FromStr.from_str_gives w (Ok n)) _ _ _ _ _ c.in-Some.word.now n c.loop-word.invariant.1 took.takes
          (subst (g.N.FromStr.from_str_gives c.in-Some.word.now) got.2 got.1)
          (pushed (n ∷ []) refl c.in_ok-push.was c.push.ensures.items),
    )
