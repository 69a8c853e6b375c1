use Rattle.std.proofs.Common.{◌∙◌}
use Rattle.charts.proofs.Listed.{word_none, word_then, word_else}
use Rattle.charts.proofs.move_list.charts.labels_between.Goals as goal
use Rattle.charts.proofs.move_list.charts.labels_between.Goals.{then-m-p+then-m-q, else-m-p, else-m-p-via-then-m-p+else-m-q, else-m-p-via-else-m-p}

pub loop-m-init : goal.loop-m-init
loop-m-init c = word_none c.args.p c.args.q

pub loop-m-preserved : goal.loop-m-preserved
loop-m-preserved c =
    let ms = c.args.moves.now in
    elim c.if-m-p.branch [
      | then-m-p+then-m-q w ↦
          w.word-is ∙ w.union-word.ensures.value
          ∙ word_then ms c.loop-m.m-index _ c.loop-m-test.true c.args.p c.args.q w.if-m-p.true w.if-m-q.true
          c.loop-m.word w.singleton.result c.loop-m.invariant w.singleton.ensures.value
      | else-m-p w ↦
          w.word-is ∙ c.loop-m.invariant ∙ word_else ms c.loop-m.m-index _ c.loop-m-test.true c.args.p c.args.q
          (λ hp hq. elim w.else-m-p.branch [
            | else-m-p-via-then-m-p+else-m-q v ↦ v.if-m-q.false hq
            | else-m-p-via-else-m-p v ↦ v.if-m-p.false hp
          ])
    ]
