use Rattle.std.proofs.Common.{ℕ, ◌+◌, ◌/◌, ◌%◌, ◌*◌, ◌<◌, Bool, sym, subst, subst₂, add-one, arith}
use Rattle.std.proofs.lemmas.Bool.{iff_false}
use Rattle.layers.specs.declared.sheet.LentSheet.{LentSheet}
use Rattle.likeness.specs.declared.sheets.Sheets.{Sheets}
use Rattle.likeness.specs.Attack.{Attack}
use Rattle.likeness.specs.Reading.{chart_in, chart_on, level_in, SameSheets}
use Rattle.likeness.proofs.Turning.{Turned, turn_settled, turn_unattacked, turn_attacked}
use Rattle.likeness.proofs.sheets.Sheets.run_round.Goals as goal
use Rattle.likeness.proofs.sheets.Sheets.run_round.Goals.{then-self-i-eq0+then-has_attack, else-self-i-eq0, else-self-i-eq0-via-then-self-i-eq0+else-has_attack, else-self-i-eq0-via-else-self-i-eq0}

pub loop-i-preserved : goal.loop-i-preserved
loop-i-preserved c =
    let start = c.args.self.now in
    let i = c.loop-i.i in
    let n = start.moves.count in
    let turned = c.loop-i.invariant.turned in
    let same = c.loop-i.invariant.same_sheets in
    let next : Sheets → Bool → Type 0 = λ s given. record {
      turned : Turned (chart_on start) n c.args.rounds start.levels.now (i + 1) s.levels.now given;
      same_sheets : SameSheets start s;
    } in
    let within : i < n * n = omega arith in
    let under : LentSheet ℕ → Type 0 =
    λ o. Attack (chart_in o) (level_in o.count c.loop-i.self.levels.now) (c.args.rounds + 1) (i / n) (i % n) in
    elim c.if-self-i-eq0.branch [
      | then-self-i-eq0+then-has_attack w ↦ subst₂ next (sym w.self-is) (sym w.given-is) (record {
        turned = turn_attacked turned within (add-one c.args.rounds) w.if-self-i-eq0.true
            (subst under same.0 (w.has_attack.ensures.tells.0 w.if-has_attack.true));
        same_sheets = same;
      })
      | else-self-i-eq0 w ↦ subst₂ next (sym w.self-is) (sym w.given-is) (record {
        turned = elim w.else-self-i-eq0.branch [
          | else-self-i-eq0-via-then-self-i-eq0+else-has_attack v ↦
              turn_unattacked turned within (add-one c.args.rounds) v.if-self-i-eq0.true
              (λ attack. iff_false v.has_attack.ensures.tells v.if-has_attack.false (subst under (sym same.0) attack))
          | else-self-i-eq0-via-else-self-i-eq0 v ↦ turn_settled turned within v.if-self-i-eq0.false
        ];
        same_sheets = same;
      })
    ]
