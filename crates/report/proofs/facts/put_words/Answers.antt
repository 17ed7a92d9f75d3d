use Rattle.std.proofs.Common.{[], ◌∷◌, ◌++◌, sym, ap, ◌∙◌, append_assoc}
use Rattle.std.proofs.lemmas.List.{flat_map_more}
use Rattle.report.specs.Facts.{before_blank}
use Rattle.report.proofs.facts.put_words.Goals as goal

pub loop-word-preserved : goal.loop-word-preserved
loop-word-preserved c =
    let old = c.loop-word.invariant in
    let word = c.in-Some.word.now in (
      old.0 ++ (word ∷ []),
      old.1 ∙ ap (λ l. old.0 ++ l) c.in-Some.ensures.takes ∙ sym (append_assoc old.0 (word ∷ []) _),
      c.in_ok-write.ensures.bytes ∙ ap (λ l. l ++ before_blank word) old.2 ∙ flat_map_more before_blank _ old.0 word,
    )
