use Rattle.likeness.specs.Reading.{chart_on, SameSheets}
use Rattle.likeness.proofs.Running.{Running}
use Rattle.likeness.proofs.sheets.Sheets.run_rounds.Given as goal

abbrev pub invariant-loop-rounds : goal.invariant-loop-rounds
invariant-loop-rounds l = record {
  running : Running (chart_on l.fn.self) l.p l.q l.limit l.fn.self.levels.now l.rounds l.self.levels.now;
  same_sheets : SameSheets l.fn.self l.self;
}
