use Rattle.std.proofs.Common.{◌≤◌, arith}
use Rattle.closure.proofs.Walk.{walk_begins, walk_begins_nowhere, walk_goes_on}
use Rattle.closure.proofs.reached_from.Goals as goal
use Rattle.closure.proofs.reached_from.Goals.{then-start-n, else-start-n}

pub loop-p-init : goal.loop-p-init
loop-p-init g c =
    let few : c.min-n.result ≤ 128 = omega arith in
    elim c.if-start-n.branch [
      | then-start-n w ↦ walk_begins _ _ _ _ few w.if-start-n.true w.seen-is
      | else-start-n w ↦ walk_begins_nowhere _ _ _ _ few w.if-start-n.false w.seen-is
    ]

pub loop-p-preserved : goal.loop-p-preserved
loop-p-preserved g c = walk_goes_on _ _ _ _ _ _ _ c.loop-p.invariant c.in-Some.ensures.cases.1 c.type_inv.seen c.mark_targets.ensures.marked
