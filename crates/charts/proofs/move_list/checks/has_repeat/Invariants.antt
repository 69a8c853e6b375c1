use Rattle.std.proofs.Common.{◌≡◌, ℕ, ◌<◌, false, get_or}
use Rattle.std.specs.List.{AllWithin}
use Rattle.charts.specs.declared.move_list.Move.{Move}
use Rattle.charts.specs.MoveList.{same_move}
use Rattle.charts.proofs.move_list.checks.has_repeat.Given as goal

-- no move before i is the same as one before it
abbrev pub invariant-loop-i : goal.invariant-loop-i
invariant-loop-i l = (j : ℕ) (d : Move) → j < l.i → AllWithin (λ m. same_move m (get_or l.moves j d) ≡ false) l.moves 0 j
