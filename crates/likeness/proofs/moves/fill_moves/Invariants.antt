use Rattle.std.proofs.Common.{◌≡◌, ℕ, ◌/◌, ◌%◌, ◌<◌, get_or}
use Rattle.likeness.proofs.moves.fill_moves.Given as goal

-- the first words are written
abbrev pub invariant-loop-i : goal.invariant-loop-i
invariant-loop-i g l = (k : ℕ) → k < l.i → get_or l.place-items k 0 ≡ (g.C.Chart.meaning l.chart).word (k / l.n) (k % l.n)
