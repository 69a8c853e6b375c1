use Rattle.std.proofs.Common.{◌≡◌, ◌/◌, ◌%◌, [], get_or, false, ap, ◌∙◌, rules}
use Rattle.std.proofs.lemmas.Result.{IfOk-weaker}
use Rattle.words.specs.Bits.{word_of}
use Rattle.closure.specs.Closure.{reaches}
use Rattle.layers.specs.Sheet.{reach_in, silent_in}
use Rattle.layers.proofs.Sheets.{sheet_told, mark_read, row_below, column_below}
use Rattle.layers.proofs.sheet.Sheet.silent_reach.Goals as goal

pub returns : goal.returns
unfolding reach_in
returns c =
    let s = c.args.self.now in
    let n = s.count in
    let rows = c.as_slice-rows.result.now in
    record {
      made = IfOk-weaker c.told.result _ _
          (λ made is. (
            is.0,
            sheet_told _ n is.0 (reach_in n s.words.items) made.words.items made.words.ok.0 made.full (λ i h.
                let marked : get_or made.words.items i 0 ≡ word_of (λ _. get_or (get_or rows (i / n) []) (i % n) false) = search (is.1 i h, rules) in
                marked ∙ ap (λ mark. word_of (λ _. mark)) (mark_read n (reaches n (silent_in n s.words.items)) rows (i / n) (i % n) s.few
                (row_below n i h) (column_below n i h) (c.as_slice-rows.ensures.value ∙ c.in_ok-marks.ensures.made))),
          ))
          c.told.ensures.told;
    }
