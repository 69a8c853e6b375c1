use Rattle.std.proofs.Common.{◌≡◌, true, false, refl, arith}
use Rattle.std.proofs.lemmas.Grind.{common_steps}
use Rattle.std.proofs.lemmas.Bool.{both_ways}
use Rattle.charts.specs.MoveList.{faulty}
use Rattle.charts.proofs.Faults.{faulty_decides}
use Rattle.charts.proofs.move_list.MoveList.check.Goals as goal

pub returns-then-self-gt-MOST_STATES-clause-refused_exactly_for_a_fault : goal.returns-then-self-gt-MOST_STATES-clause-refused_exactly_for_a_fault
unfolding faulty
returns-then-self-gt-MOST_STATES-clause-refused_exactly_for_a_fault c =
    let bad : faulty c.args.self.now.count c.args.self.now.moves.now ≡ true = grind (arith, common_steps) in
    (λ _. (faulty_decides c.args.self.now.count c.args.self.now.moves.now).0 bad, λ _. refl)

pub returns-clause-refused_exactly_for_a_fault : goal.returns-clause-refused_exactly_for_a_fault
unfolding faulty
returns-clause-refused_exactly_for_a_fault c =
    let good : faulty c.args.self.now.count c.args.self.now.moves.now ≡ false = grind (arith, common_steps) in
    (λ no. absurd (both_ways false refl no), λ fault. absurd (both_ways _ good ((faulty_decides c.args.self.now.count c.args.self.now.moves.now).1 fault)))
