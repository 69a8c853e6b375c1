use Rattle.likeness.specs.Reading.{chart_on, SameSheets}
use Rattle.likeness.proofs.Turning.{Turned}
use Rattle.likeness.proofs.sheets.Sheets.run_round.Given as goal

abbrev pub invariant-loop-i : goal.invariant-loop-i
invariant-loop-i l = record {
  turned : Turned (chart_on l.initial.self) l.initial.self.moves.count l.rounds l.initial.self.levels.now l.i l.self.levels.now l.given;
  same_sheets : SameSheets l.initial.self l.self;
}
