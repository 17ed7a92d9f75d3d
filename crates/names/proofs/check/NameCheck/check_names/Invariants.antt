use Rattle.std.proofs.Common.{◌≡◌, drop}
use Rattle.names.specs.Variables.{environment, ready_but}
use Rattle.names.specs.Checks.{names_check}
use Rattle.names.proofs.check.NameCheck.check_names.Given as goal

abbrev pub invariant-loop-i : goal.invariant-loop-i
invariant-loop-i g l =
    let s = l.self in
    let check = names_check (environment s.layouts s.variables) (ready_but s.opened) s.constant s.block s.rank in
    check l.i (drop l.i l.nodes) ≡ check 0 l.nodes
