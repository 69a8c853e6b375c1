use Rattle.std.proofs.Common.{◌&&◌, refl, sym, ap₂, ◌∙◌, arith}
use Rattle.words.proofs.Bits.{packed_same}
use Rattle.layers.proofs.Sheets.{sheet_chart_read}
use Rattle.layers.proofs.sheet.Sheet.labels_through.Goals as goal

pub returns : goal.returns
returns c =
    let s = c.args.self.now in
    let t = c.args.second.now in
    record {
      value = c.intersection.ensures.value ∙ packed_same 32 _ _ (λ a ha. ap₂ ◌&&◌
          (sheet_chart_read s.count s.count refl s.few s.words.items (sym s.words.ok.0 ∙ s.full) c.args.p c.args.r c.index.result.now c.requires.p_below c.requires.r_below c.index.ensures a ha)
          (sheet_chart_read t.count s.count c.requires.as_many t.few t.words.items (sym t.words.ok.0 ∙ t.full) c.args.r c.args.q c.index-2.result.now (omega (arith, c.requires)) (omega (arith, c.requires)) c.index-2.ensures a ha));
    }
