use Rattle.std.proofs.Common.{rules}
use Rattle.layers.proofs.Sheets.{joined_more, joined_over}
use Rattle.likeness.proofs.Nest.{labels_told}
use Rattle.likeness.proofs.attack.labels_of.Goals as goal

pub returns : goal.returns
returns g c =
    let m = g.C.Chart.meaning c.args.chart.now in
    record {
      tells = labels_told m c.args.p c.count.result _ c.count.ensures.answers_the_count
          (joined_over (m.word c.args.p) c.count.result _ _ _ (λ ts before t after f' told call. (search (rules, joined_more), search rules)) c.fold.ensures.ran);
    }
