use Rattle.std.proofs.Common.{◌∙◌, arith, rules}
use Rattle.std.proofs.lemmas.Bool.{both_ways}
use Rattle.likeness.proofs.Nest.{labels_more, label_lacking, all_answered, attack_found}
use Rattle.likeness.proofs.attack.attacks.Goals as goal

pub labels-preserved-then-not-contains : goal.labels-preserved-then-not-contains
labels-preserved-then-not-contains g c =
    label_lacking (g.C.Chart.meaning c.args.chart.now) _ c.args.mover c.args.answerer c.labels.a
    (λ move. both_ways _ c.if-not-contains.true (c.contains.ensures.value ∙ (c.labels_of-offered.ensures.tells c.labels.a c.labels-test.true).1 move))
    c.labels.invariant

pub returns-in-targets-clause-attack : goal.returns-in-targets-clause-attack
returns-in-targets-clause-attack g c = λ _.
    attack_found (g.C.Chart.meaning c.args.chart.now) _ c.args.mover c.args.answerer c.labels.a c.targets.t c.answers.u
    (omega (arith, c.count-n.ensures.answers_the_count)) (search rules) c.answers.invariant

pub labels-preserved : goal.labels-preserved
labels-preserved g c = labels_more (g.C.Chart.meaning c.args.chart.now) _ c.args.mover c.args.answerer
    c.labels.a c.targets.t (omega (arith, c.count-n.ensures.answers_the_count)) c.labels.invariant c.targets.invariant

pub returns-clause-no_attack : goal.returns-clause-no_attack
returns-clause-no_attack g c = λ _. all_answered (g.C.Chart.meaning c.args.chart.now) _ c.args.mover c.args.answerer c.labels.a c.labels-test.false c.labels.invariant
