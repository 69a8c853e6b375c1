use Rattle.std.proofs.Common.{true, false}
use Rattle.likeness.proofs.Nest.{LabelsAnswered, TargetsAnswered, AnswersReach}
use Rattle.likeness.proofs.attack.attacks.Given as goal

abbrev pub invariant-labels : goal.invariant-labels
invariant-labels g l = LabelsAnswered (g.C.Chart.meaning l.chart) (λ t u. goal.L-post g l.lower t u false) l.mover l.answerer l.a

abbrev pub invariant-targets : goal.invariant-targets
invariant-targets g l = TargetsAnswered (g.C.Chart.meaning l.chart) (λ t u. goal.L-post g l.lower t u false) l.mover l.answerer l.a l.t

abbrev pub invariant-answers : goal.invariant-answers
invariant-answers g l = AnswersReach (g.C.Chart.meaning l.chart) (λ t u. goal.L-post g l.lower t u true) l.mover l.answerer l.a l.t l.u
