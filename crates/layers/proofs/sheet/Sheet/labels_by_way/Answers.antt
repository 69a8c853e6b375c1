use Rattle.std.proofs.Common.{refl, ◌∙◌, rules}
use Rattle.layers.proofs.Sheets.{joined_more, joined_over, word_by_way, product_told}
use Rattle.layers.proofs.sheet.Sheet.labels_by_way.Goals as goal

pub returns : goal.returns
returns c =
    let s = c.args.self.now in
    let second = c.args.second.now in
    record {
      value = joined_over (word_by_way s.count second.count s.words.items second.words.items c.args.p c.args.q) s.count _ _ _
          (λ rs before r after f' told call. (joined_more (word_by_way s.count second.count s.words.items second.words.items c.args.p c.args.q) before r _ after rs told refl call.met.1, search rules)) c.fold.ensures.ran
          ∙ product_told s.count second.count s.few c.requires.as_many s.words.items second.words.items c.args.p c.args.q c.requires.p_below c.requires.q_below;
    }
