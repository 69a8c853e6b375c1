use Rattle.std.proofs.Common.{◌++◌, false, sym, ap, ◌∙◌}
use Rattle.std.specs.Prelude.{codes, decimal}
use Rattle.std.proofs.Output.{has_written_of_eq}
use Rattle.std.proofs.lemmas.Bool.Decides.{same_from_decides}
use Rattle.std.proofs.lemmas.Option.{cond_some}
use Rattle.charts.specs.Refusals.{Told, bare, told_by}
use Rattle.charts.specs.MoveList.{faulty}
use Rattle.charts.proofs.Faults.{faulty_decides}
use Rattle.dialogues.specs.Checked.{verdict_text}
use Rattle.dialogues.proofs.checked.VerdictDisplay.fmt.Goals as goal

pub returns-in-Ok-clause-writes : goal.returns-in-Ok-clause-writes
returns-in-Ok-clause-writes g c p k =
    let list = c.args.self.now.0 in
    let sound = same_from_decides false (faulty list.count list.moves.now) c.in-Ok.ensures.refused_exactly_for_a_fault (faulty_decides list.count list.moves.now) in
    has_written_of_eq _ _ _ _ _ (ap verdict_text sound) (c.write.ensures.writes p k)

pub returns-in-Err-clause-writes : goal.returns-in-Err-clause-writes
returns-in-Err-clause-writes g c p k =
    let list = c.args.self.now.0 in
    let refused = cond_some (faulty list.count list.moves.now) (bare 20) (told_by c.in-Err.refusal) (sym c.in-Err.ensures.answer) in
    has_written_of_eq _ _ _ _ _
    (ap (λ (t : Told). codes "  The list is refused, number " ++ (decimal t.number ++ codes ".")) (sym refused.1)
    ∙ ap verdict_text (sym refused.0))
    (c.write-in-Err.ensures.writes p k)
