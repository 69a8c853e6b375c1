use Rattle.std.proofs.Common.{◌*◌, ◌+◌, ltb, ◌&&◌, None, sym, ◌∙◌, arith, rules}
use Rattle.std.proofs.lemmas.Bool.{cond-true, and_from, lt-ltb}
use Rattle.std.proofs.lemmas.Option.{slice_get-get_or}
use Rattle.layers.proofs.Sheets.{place_below}
use Rattle.layers.proofs.sheet.LentSheet.at.Goals as goal

-- the place is in the sheet, whichever of the two states is the row
pub offset_bounds-self-place : goal.offset_bounds-self-place
offset_bounds-self-place g c =
    let s = c.args.self.now in
    let p_row = place_below s.count c.args.p c.args.q c.if-p-self.false c.if-q-self.false in
    let q_row = place_below s.count c.args.q c.args.p c.if-q-self.false c.if-p-self.false in
    search (p_row, q_row, s.suffices, rules)

pub returns : goal.returns
returns g c =
    let s = c.args.self.now in
    let p = c.args.p in
    let q = c.args.q in
    let n = s.count in
    let within = place_below n p q c.if-p-self.false c.if-q-self.false in
    record {
      value = sym (cond-true (ltb p n && ltb q n) _ None (and_from _ _ (lt-ltb p n c.if-p-self.false) (lt-ltb q n c.if-q-self.false))
          ∙ slice_get-get_or s.values.now (p * n + q) c.index-self-place.result (omega (arith, within, s.suffices)));
    }
