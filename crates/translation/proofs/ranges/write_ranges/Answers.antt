use Rattle.std.proofs.Common.{◌≡◌, ◌+◌, ◌-◌, Some, sym, ap, ◌∙◌, arith}
use Rattle.std.proofs.lemmas.List.Edits.{paste_none}
use Rattle.layout.specs.Layouts.{at}
use Rattle.layout.specs.Answers.{index_of}
use Rattle.translation.specs.Cuts.{cut, ranges, ranges_from, range_entries}
use Rattle.translation.proofs.Ranging.{writing_room, writing_cut, writing_on, writing_end, writing_at}
use Rattle.translation.proofs.ranges.write_ranges.Goals as goal
use Rattle.translation.proofs.ranges.write_ranges.Goals.{then-feed, else-feed}

pub loop-i-init : goal.loop-i-init
loop-i-init g c =
    let l = c.args.layout.now in (
      c.feed_first.ensures.axes ∙ c.new-cutting.ensures.0,
      c.feed_first.ensures.last,
      record { below = omega arith; is = paste_none c.args.table.now c.args.at (range_entries (ranges c.args.m l)); left = ap (λ n. range_entries (ranges_from (cut c.args.m l) 0 1 n)) (omega (arith, c.count-count.ensures.is)) },
    )

pub overflow_add-at : goal.overflow_add-at
overflow_add-at g c = let r = writing_room _ _ _ _ _ _ _ _ _ c.loop-i.invariant.2 in omega (arith, c.requires)

pub write_pair-requires : goal.write_pair-requires
write_pair-requires g c =
    let r = writing_room _ _ _ _ _ _ _ _ _ c.loop-i.invariant.2 in
    let b = c.loop-i.invariant.2.below in
    record { room = omega (arith, c.requires); a = omega (arith, c.count-count.ensures.valid.many); b = omega (arith, c.count-count.ensures.valid.many) }

pub overflow_add-written : goal.overflow_add-written
overflow_add-written g c = let r = writing_room _ _ _ _ _ _ _ _ _ c.loop-i.invariant.2 in omega (arith, c.requires)

pub loop-i-preserved : goal.loop-i-preserved
loop-i-preserved g c =
    let l = c.args.layout.now in
    let i = c.loop-i.i in
    let is : c.feed.result ≡ cut c.args.m l i = c.feed.ensures.is ∙ ap (λ a. cut a l i) c.loop-i.invariant.0 in
    let axes = c.feed.ensures.axes ∙ c.loop-i.invariant.0 in
    let z : i ≡ i + 1 - 1 = omega arith in
    let last = c.feed.ensures.last ∙ ap (λ j. Some (index_of (at l j))) z in
    elim c.if-feed.branch [
      | then-feed w ↦ (
          let h = writing_cut _ _ _ _ _ _ _ _ _ c.loop-i.invariant.2 w.write_pair.new.table c.requires c.loop-i-test.true (sym is ∙ w.if-feed.true) w.write_pair.ensures in
          (axes, last, writing_at _ _ _ _ _ _ _ _ _ _ _ _ h w.table-is w.start-is w.written-is))
      | else-feed w ↦ (
          let h = writing_on _ _ _ _ _ _ _ _ _ c.loop-i.invariant.2 c.loop-i-test.true (sym is ∙ w.if-feed.false) in
          (axes, last, writing_at _ _ _ _ _ _ _ _ _ _ _ _ h w.table-is w.start-is w.written-is))
    ]

pub overflow_add-at-2 : goal.overflow_add-at-2
overflow_add-at-2 g c = let r = writing_room _ _ _ _ _ _ _ _ _ c.loop-i.invariant.2 in omega (arith, c.requires)

pub write_pair-requires-2 : goal.write_pair-requires-2
write_pair-requires-2 g c =
    let r = writing_room _ _ _ _ _ _ _ _ _ c.loop-i.invariant.2 in
    let b = c.loop-i.invariant.2.below in
    record { room = omega (arith, c.requires); a = omega (arith, c.count-count.ensures.valid.many); b = omega (arith, c.count-count.ensures.valid.many) }

pub overflow_add-result : goal.overflow_add-result
overflow_add-result g c = let r = writing_room _ _ _ _ _ _ _ _ _ c.loop-i.invariant.2 in omega (arith, c.requires)

pub overflow_add-result-2 : goal.overflow_add-result-2
overflow_add-result-2 g c = let r = writing_room _ _ _ _ _ _ _ _ _ c.loop-i.invariant.2 in omega (arith, c.requires)

pub returns : goal.returns
returns g c =
    let r = writing_end _ _ _ _ _ _ _ _ _ c.loop-i.invariant.2 c.write_pair-2.new.table c.requires (omega (arith, c.count-count.ensures.valid.some)) c.write_pair-2.ensures in
    record { end = omega (arith, r.0); written = r.1 }
