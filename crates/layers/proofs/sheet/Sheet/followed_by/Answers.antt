use Rattle.std.proofs.Common.{rules}
use Rattle.std.proofs.lemmas.Result.{IfOk-weaker}
use Rattle.layers.specs.Sheet.{product}
use Rattle.layers.proofs.Sheets.{sheet_told}
use Rattle.layers.proofs.sheet.Sheet.followed_by.Goals as goal

pub returns : goal.returns
returns c =
    let s = c.args.self.now in
    record {
      made = IfOk-weaker c.told.result _ _
          (λ made is. (
            is.0,
            sheet_told _ s.count is.0 (product s.count s.words.items c.args.second.now.words.items) made.words.items made.words.ok.0 made.full
                (λ i h. search (is.1 i h, rules)),
          ))
          c.told.ensures.told;
    }
