use Rattle.std.proofs.Common.{◌≡◌, true, false, cond, sym, ◌∙◌, subst}
use Rattle.charts.specs.Meaning.{chart_of}
use Rattle.charts.specs.MoveList.{faulty, listed, MovesAsListed}
use Rattle.std.proofs.lemmas.Bool.{cond-true, cond-false}
use Rattle.std.proofs.lemmas.Bool.Decides.{same_from_decides}
use Rattle.charts.proofs.Faults.{faulty_decides}
use Rattle.charts.proofs.Listed.{list_chart_moves}
use Rattle.charts.proofs.move_list.MoveList.chart.Goals as goal
use Rattle.charts.proofs.move_list.MoveList.chart.Goals.{in-Ok, in-Err}

pub returns-clause-moves_as_listed : goal.returns-clause-moves_as_listed
returns-clause-moves_as_listed c =
    let count = c.args.self.count in
    let moves = c.args.self.moves.now in
    let decides = faulty_decides count moves in
    let counted : c.match-check.count ≡ cond (faulty count moves) 0 count = elim c.match-check.branch [
      | in-Ok w ↦ w.count-is ∙ sym (cond-false (faulty count moves) 0 count
          (sym (same_from_decides false (faulty count moves) w.in-Ok.ensures.refused_exactly_for_a_fault decides)))
      | in-Err w ↦ w.count-is ∙ sym (cond-true (faulty count moves) 0 count
          (sym (same_from_decides true (faulty count moves) w.in-Err.ensures.refused_exactly_for_a_fault decides)))
    ] in
    subst (λ n. MovesAsListed (chart_of n (listed moves)) count moves) (sym counted) (list_chart_moves count moves)
