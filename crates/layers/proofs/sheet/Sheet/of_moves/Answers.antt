use Rattle.std.proofs.Common.{◌∙◌, ap, rules}
use Rattle.std.proofs.lemmas.Result.{IfOk-weaker}
use Rattle.layers.specs.Sheet.{sheet, move_or_stay}
use Rattle.layers.proofs.Sheets.{sheet_told}
use Rattle.layers.proofs.sheet.Sheet.of_moves.Goals as goal

pub returns : goal.returns
returns g c =
    let m = g.C.Chart.meaning c.args.chart.now in
    let n_is = c.count.ensures.answers_the_count in
    record {
      made = IfOk-weaker c.told.result _ _
          (λ made is. (
            is.0 ∙ n_is,
            sheet_told _ c.count.result is.0 (move_or_stay m) made.words.items made.words.ok.0 made.full
                (λ i h. search (is.1 i h, rules)) ∙ ap (λ n. sheet n (move_or_stay m)) n_is,
          ))
          c.told.ensures.told;
    }
