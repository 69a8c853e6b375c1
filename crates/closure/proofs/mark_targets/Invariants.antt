use Rattle.std.proofs.Common.{◌≡◌, ℕ, ◌<◌, false, ◌&&◌, ◌||◌, ltb, length, get_or}
use Rattle.closure.proofs.mark_targets.Given as goal

-- the targets below q are marked
abbrev pub invariant-loop-q : goal.invariant-loop-q
invariant-loop-q g l =
    (t : ℕ) → t < length l.mark-items → get_or l.mark-items t false ≡ (get_or l.initial.mark-items t false || (ltb t l.q && g.S.Steps.step l.steps l.p t))
