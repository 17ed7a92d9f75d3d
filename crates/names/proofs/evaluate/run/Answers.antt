use Rattle.std.proofs.Common.{◌≡◌, ◌-◌, [], ◌∷◌, ◌++◌, length, take, drop, get_or, Some, ap}
use Rattle.std.specs.Result.{result_ok}
use lib.Ieee.{nan}
use Rattle.expression.specs.declared.node.Node.TheVariants.{Number}
use Rattle.expression.specs.Values.{node_value, evaluated}
use Rattle.names.specs.Variables.{read_from}
use Rattle.names.proofs.Running.{end_of, sound_more, value_more}
use Rattle.names.proofs.evaluate.run.Goals as goal

pub loop-i-preserved : goal.loop-i-preserved
loop-i-preserved g c =
    let s = c.loop-i.stack.items in
    let v = c.in_ok-value.value in
    let f = node_value (g.H.Host.answers c.args.host.now) (read_from c.args.reading.now) in
    let t = c.values_taken.result in
    let is : c.put_from.new.stack.items ≡ take (length s - t) s ++ v ∷ [] = cc in
    let n = get_or c.args.nodes.now c.loop-i.i (Number nan) in
    let a = c.as_slice.result.now in
    let low = c.len.result - t in
    let found : Some v ≡ f n (take (length a - low) (drop low a)) = cc (c.ok_or.ensures.ok_part, ap result_ok c.in_ok-value.was, c.value_of_node.ensures) in
    let end = end_of s (length s - t) in
    let there : take (length a - low) (drop low a) ≡ drop (length s - t) s = cc in
    record {
      sound = sound_more c.args.nodes.now c.loop-i.i t _ c.loop-i-test.true c.values_taken.ensures s c.put_from.new.stack.items v is c.loop-i.invariant.sound;
      value = value_more c.args.nodes.now c.loop-i.i t _ c.loop-i-test.true c.values_taken.ensures s c.put_from.new.stack.items v is f (evaluated f c.args.nodes.now) (take (length a - low) (drop low a)) found there c.loop-i.invariant.value;
    }
