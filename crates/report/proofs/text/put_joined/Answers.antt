use Rattle.std.proofs.Common.{◌++◌, map, string_bytes, sym, ap, ◌∙◌, append_assoc}
use Rattle.std.specs.List.{flat_map}
use Rattle.std.proofs.lemmas.List.{take_all}
use Rattle.report.specs.Facts.{separated}
use Rattle.report.proofs.Texts.{joined, more_joined, written}
use Rattle.report.proofs.text.put_joined.Goals as goal

pub loop-item-preserved : goal.loop-item-preserved
loop-item-preserved g c show shows =
    let between = c.args.between.now in
    let item = c.item-item.result in
    let out = string_bytes c.loop-item.out in
    let w = written out (string_bytes c.write-in-loop-item.new.self) (between ++ show item) c.in_ok-write-2.ensures.bytes (simp shows) in
    more_joined (λ x. between ++ show x) c.in-Some.rest.now c.loop-item.item-index item _ _ _ c.loop-item-test.true (c.loop-item.invariant show shows) (w ∙ ap (λ x. out ++ (between ++ show x)) c.item-item.is)

pub returns : goal.returns
returns g c show shows =
    let between = c.args.between.now in
    let head = c.in-Some.head.now in
    let rest = c.in-Some.rest.now in
    let out = string_bytes c.args.out.now in
    let first = string_bytes c.write.new.self in
    let w = written out first (show head) c.in_ok-write.ensures.bytes (shows head) in
    c.loop-item.invariant show shows
    ∙ ap (λ l. first ++ flat_map (λ x. between ++ show x) l) (take_all c.loop-item.item-index rest c.loop-item-test.false)
    ∙ ap (λ l. l ++ flat_map (λ x. between ++ show x) rest) w
    ∙ append_assoc out (show head) _
    ∙ ap (λ l. out ++ l) (sym (joined show between head rest))
    ∙ ap (λ l. out ++ separated between (map show l)) (sym c.in-Some.ensures.cases.0)
