use Rattle.std.proofs.Common.{not, count_by}
use Rattle.closure.proofs.Walk.{Walked}
use Rattle.closure.proofs.reached_from.Given as goal

abbrev pub invariant-loop-p : goal.invariant-loop-p
invariant-loop-p g l = Walked l.n (g.S.Steps.step l.steps) l.start l.seen l.done

-- how many states are not done
abbrev pub decreases-loop-p : goal.decreases-loop-p
decreases-loop-p g l = count_by not l.done
