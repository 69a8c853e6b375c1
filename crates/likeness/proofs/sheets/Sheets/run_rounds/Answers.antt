use Rattle.std.proofs.Common.{refl, ◌∙◌, ap, arith}
use Rattle.likeness.specs.Reading.{chart_in, chart_on}
use Rattle.likeness.specs.Sheet.{by_pairs, laid}
use Rattle.likeness.proofs.Laying.{count_kept}
use Rattle.likeness.proofs.Running.{running_start, running_below, running_levels, run_out, running_on, run_settles}
use Rattle.likeness.proofs.sheets.Sheets.run_rounds.Goals as goal

pub loop-rounds-init : goal.loop-rounds-init
loop-rounds-init c =
    let s = c.args.self.now in
    let states = count_kept s.moves s.moves refl in
    record {
      running = running_start (chart_on s) c.args.p c.args.q c.args.limit s.levels.now c.clear.new.self.levels.now
          (omega (arith, c.requires.p_below)) (omega (arith, c.requires.q_below))
          (c.clear.ensures.levels_after ∙ ap (λ n. laid (by_pairs n (λ _ _. 0)) s.levels.now) states);
      same_sheets = c.clear.ensures.same_sheets;
    }

pub run_round-given-requires-clause-levels_before : goal.run_round-given-requires-clause-levels_before
run_round-given-requires-clause-levels_before c =
    let told = c.loop-rounds.invariant in
    let same = told.same_sheets.0 in
    running_levels told.running _ (ap chart_in same) _ (count_kept _ _ same)

pub returns-then-depth-gt0 : goal.returns-then-depth-gt0
returns-then-depth-gt0 c =
    let told = c.loop-rounds.invariant in
    let round = c.run_round-given.ensures in
    let same = told.same_sheets.0 in
    let found = run_settles told.running (omega arith) (ap chart_in same) round.levels_after round.given
    (count_kept _ _ (round.same_sheets.0 ∙ same)) c.level_of-depth.ensures.value c.then-depth-gt0.either in
    record { answer = found.0; levels_after = found.1; same_sheets = (round.same_sheets.0 ∙ same, round.same_sheets.1 ∙ told.same_sheets.1) }

pub loop-rounds-preserved : goal.loop-rounds-preserved
loop-rounds-preserved c =
    let told = c.loop-rounds.invariant in
    let round = c.run_round-given.ensures in
    let same = told.same_sheets.0 in
    record {
      running = running_on told.running (omega arith) (ap chart_in same) round.levels_after round.given
          (count_kept _ _ (round.same_sheets.0 ∙ same)) c.level_of-depth.ensures.value c.if-depth-gt0.false c.if-not-given.false;
      same_sheets = (round.same_sheets.0 ∙ same, round.same_sheets.1 ∙ told.same_sheets.1);
    }

pub returns : goal.returns
returns c =
    let told = c.loop-rounds.invariant in
    let states = count_kept _ _ c.clear.ensures.same_sheets.0 in
    let below = running_below told.running in
    let found = run_out told.running (omega arith) in
    record { answer = found.0; levels_after = found.1; same_sheets = told.same_sheets }
