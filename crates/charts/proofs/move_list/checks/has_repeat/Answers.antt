use Rattle.std.proofs.Common.{◌≡◌, false, get_or, sym, below_more}
use Rattle.std.specs.List.{AllWithin}
use Rattle.charts.specs.MoveList.{same_move}
use Rattle.charts.specs.declared.move_list.Move.{Move}
use Rattle.charts.proofs.Faults.{found_before, none_before}
use Rattle.charts.proofs.move_list.checks.has_repeat.Goals as goal

pub returns-then-is_some : goal.returns-then-is_some
unfolding same_move
returns-then-is_some c = record {
  value = sym (found_before c.args.moves.now c.loop-i.i _ _ c.loop-i-test.true c.first_same.ensures.first (sym c.if-is_some.ensures));
}

pub loop-i-preserved : goal.loop-i-preserved
unfolding same_move
loop-i-preserved c j d h =
    let ms = c.args.moves.now in
    below_more (λ n. (e : Move) → AllWithin (λ m. same_move m (get_or ms n e) ≡ false) ms 0 n) c.loop-i.i
    (λ n l e. c.loop-i.invariant n e l)
    (none_before ms c.loop-i.i _ _ c.loop-i-test.true c.first_same.ensures.first (sym c.if-is_some.ensures))
    j h d
