use Rattle.std.proofs.Common.{◌∙◌}
use Rattle.layers.proofs.Hiding.{hidden_word, told_more, told_same}
use Rattle.layers.proofs.hide.HideChart.word.Goals as goal
use Rattle.layers.proofs.hide.HideChart.word.Goals.{then-intersection-ne0, else-intersection-ne0}

pub returns : goal.returns
returns g c =
    let set = c.args.self.now.set in
    let m = g.C.Chart.meaning c.args.self.now.below in
    let w_is = c.word-word.ensures.answers_the_word in
    let others_is = c.complement.ensures.value in
    let hidden_is = c.intersection-hidden.ensures.value in
    let both_is = c.intersection.ensures.value in
    record {
      answers_the_word = hidden_word set m c.args.p c.args.q _ _ _ _ w_is others_is hidden_is both_is
          c.if-intersection-ne0.told _ _
          (elim c.if-intersection-ne0.branch [
            | then-intersection-ne0 v ↦ told_more set m c.args.p c.args.q _ _ _ _ w_is others_is hidden_is both_is _ (v.told-is ∙ v.union-told.ensures.value) v.if-intersection-ne0.true
            | else-intersection-ne0 v ↦ told_same set m c.args.p c.args.q _ _ _ _ w_is others_is hidden_is both_is _ v.told-is v.if-intersection-ne0.false
          ])
          c.complement-2.ensures.value c.intersection-2.ensures.value c.intersection-2.type_inv;
    }
