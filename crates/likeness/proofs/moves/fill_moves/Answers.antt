use Rattle.std.proofs.Common.{◌≡◌, ◌*◌, sym, ap, ◌∙◌, arith}
use Rattle.std.proofs.lemmas.Bool.{cond-true, le-leb}
use Rattle.std.proofs.lemmas.List.{length-take-le}
use Rattle.likeness.specs.Sheet.{by_pairs, laid}
use Rattle.likeness.proofs.Laying.{laid_over}
use Rattle.likeness.proofs.moves.fill_moves.Goals as goal

pub returns-clause-moves_after : goal.returns-clause-moves_after
returns-clause-moves_after g c =
    let m = g.C.Chart.meaning c.args.chart.now in
    let room : c.count-n.result * c.count-n.result ≡ m.count * m.count = ap (λ k. k * k) c.count-n.ensures.answers_the_count in
    let full = length-take-le (c.count-n.result * c.count-n.result) c.args.moves.now (omega arith) in
    laid_over c.count-n.result m.word c.args.moves.now c.loop-i.place-items (c.loop-i.auto.place-items ∙ full) (λ k h. c.loop-i.invariant k (omega arith))
    ∙ ap (λ n. laid (by_pairs n m.word) c.args.moves.now) c.count-n.ensures.answers_the_count
    ∙ sym (cond-true _ _ _ (le-leb (m.count * m.count) _ (omega arith)))
