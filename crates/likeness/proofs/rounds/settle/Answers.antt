use Rattle.std.proofs.Common.{◌≡◌, min, Some, None, Err, ⊎_elim, inl, inr, sym, ap, ◌∙◌, rules}
use Rattle.charts.specs.Refusals.{bare, answer_told}
use Rattle.likeness.specs.Refusals.{told_by}
use Rattle.layers.specs.Sheet.{sheet_chart}
use Rattle.likeness.specs.Attack.{AttackedLevelsNeverLie, LevelsAreAttacked, LevelsGrowByAttacks}
use Rattle.likeness.specs.Bisimulation.{WeakIsStrongWhenQuiet}
use Rattle.likeness.specs.Formula.{AfterIsTold, UnevenIsDistinguished}
use Rattle.likeness.specs.Levels.{EvenIsTold, EvenIsAnEquivalence, EvenShrinks, ClosedForGood, ClosedIsABisimulation, BisimulationsAreEven, LevelIsTold, ClosingDepthIsTold, LevelsAreBelowTheCount, ClosingDepthIsBelowTheCount, AlikeAtLevel0}
use Rattle.likeness.specs.Sheet.{laid, move_sheet, level_sheet}
use Rattle.likeness.specs.Settle.{rounds_needed, settled_answer, settled_or, filling_refused, RoundsAreAtMostTheCount, VerdictsAreTrue}
use Rattle.likeness.proofs.Attacks.{after_decides, uneven_distinguished, levels_attacked, never_lie}
use Rattle.likeness.proofs.Closing.{alike_decides, level_told, closing_told, level_below, closing_below}
use Rattle.likeness.proofs.Evenness.{even_decides, even_reflexive, even_symmetric, even_transitive, even_shrinks, closed_even, closed_bisimulation, bisimulation_even}
use Rattle.likeness.proofs.Lending.{refused_states, refused_levels, refused_filling, filled_is, call_facts}
use Rattle.likeness.proofs.Laying.{filled_chart}
use Rattle.likeness.proofs.Settling.{levels_grow, rounds_at_most}
use Rattle.likeness.proofs.Verdicts.{verdict_true}
use Rattle.likeness.proofs.Weak.{weak_to_strong, strong_to_weak}
use Rattle.likeness.proofs.rounds.settle.Goals as goal

-- what holds of a call, with the laws of every chart
with_laws : {A B C : Type 0} → A × B × C
    → record {
      answer : A;
      moves_after : B;
      levels_after : C;
      verdicts_are_true : VerdictsAreTrue;
      even_is_told : EvenIsTold;
      even_is_an_equivalence : EvenIsAnEquivalence;
      even_shrinks : EvenShrinks;
      closed_for_good : ClosedForGood;
      closed_is_a_bisimulation : ClosedIsABisimulation;
      bisimulations_are_even : BisimulationsAreEven;
      alike_at_level_0 : AlikeAtLevel0;
      level_is_told : LevelIsTold;
      closing_depth_is_told : ClosingDepthIsTold;
      levels_are_below_the_count : LevelsAreBelowTheCount;
      closing_depth_is_below_the_count : ClosingDepthIsBelowTheCount;
      rounds_are_at_most_the_count : RoundsAreAtMostTheCount;
      after_is_told : AfterIsTold;
      uneven_is_distinguished : UnevenIsDistinguished;
      levels_are_attacked : LevelsAreAttacked;
      levels_grow_by_attacks : LevelsGrowByAttacks;
      attacked_levels_never_lie : AttackedLevelsNeverLie;
      weak_is_strong_when_quiet : WeakIsStrongWhenQuiet;
    }
with_laws told = record {
  answer = told.0;
  moves_after = told.1;
  levels_after = told.2;
  verdicts_are_true = verdict_true;
  even_is_told = even_decides;
  even_is_an_equivalence = λ m k. (even_reflexive m k, even_symmetric m k, even_transitive m k);
  even_shrinks = even_shrinks;
  closed_for_good = λ m k closed j h p q hp hq. (λ e. closed_even m k closed p q hp hq e j, even_shrinks m k j p q h);
  closed_is_a_bisimulation = closed_bisimulation;
  bisimulations_are_even = λ m S b p q h k. bisimulation_even m S b k p q h;
  alike_at_level_0 = alike_decides;
  level_is_told = level_told;
  closing_depth_is_told = closing_told;
  levels_are_below_the_count = level_below;
  closing_depth_is_below_the_count = closing_below;
  rounds_are_at_most_the_count = rounds_at_most;
  after_is_told = after_decides;
  uneven_is_distinguished = uneven_distinguished;
  levels_are_attacked = levels_attacked;
  levels_grow_by_attacks = levels_grow;
  attacked_levels_never_lie = never_lie;
  weak_is_strong_when_quiet = λ m S. (weak_to_strong m S, strong_to_weak m S);
}

pub returns-then-p-n : goal.returns-then-p-n
returns-then-p-n g c =
    let m = g.C.Chart.meaning c.args.chart.now in
    with_laws (call_facts m c.args.p c.args.q c.args.limit c.args.moves.now c.args.levels.now (Some (bare 11))
    (refused_states m c.count-n.result c.count-n.ensures.answers_the_count c.args.p c.args.q c.args.moves.now c.args.levels.now (⊎_elim inl (λ h. inr h.1) c.then-p-n.either)))

pub returns-then-levels-n : goal.returns-then-levels-n
returns-then-levels-n g c =
    let m = g.C.Chart.meaning c.args.chart.now in
    with_laws (call_facts m c.args.p c.args.q c.args.limit c.args.moves.now c.args.levels.now (Some (bare 12))
    (refused_levels m c.count-n.result c.count-n.ensures.answers_the_count c.args.p c.args.q c.args.moves.now c.args.levels.now
    c.if-p-n.false c.if-q-n.false c.if-levels-n.true))

pub returns-in_err-fill_moves : goal.returns-in_err-fill_moves
returns-in_err-fill_moves g c =
    let m = g.C.Chart.meaning c.args.chart.now in
    let moves = c.args.moves.now in
    let levels = c.args.levels.now in
    let p = c.args.p in
    let q = c.args.q in
    let limit = c.args.limit in
    let refused = refused_filling m c.count-n.result c.count-n.ensures.answers_the_count p q moves levels c.if-p-n.false c.if-q-n.false c.if-levels-n.false in
    let e = c.in_err-fill_moves.field-0.0 in
    let is : c.from_residual.result ≡ Err e = search rules in
    let told = call_facts m p q limit moves levels (Some (told_by e)) (refused ∙ sym c.in_err-fill_moves.ensures.answer) in
    with_laws (
      ap (answer_told told_by) is ∙ told.0,
      c.fill_moves.ensures.moves_after ∙ filled_is m p q limit moves levels ∙ (call_facts m p q limit moves levels (filling_refused m moves) refused).1,
      told.2,
    )

pub returns : goal.returns
returns g c =
    let m = g.C.Chart.meaning c.args.chart.now in
    let moves = c.args.moves.now in
    let levels = c.args.levels.now in
    let p = c.args.p in
    let q = c.args.q in
    let limit = c.args.limit in
    let n = c.count-n.result in
    let is = c.count-n.ensures.answers_the_count in
    let accepted = sym c.in_ok-fill_moves.ensures.answer in
    let filled_so : c.fill_moves.new.moves ≡ laid (move_sheet m) moves =
    c.fill_moves.ensures.moves_after ∙ filled_is m p q limit moves levels ∙ ap (λ o. (settled_or o m p q limit moves levels).moves) accepted in
    let chart : sheet_chart n c.fill_moves.new.moves ≡ m = ap (sheet_chart n) filled_so ∙ filled_chart m n is moves in
    let told = call_facts m p q limit moves levels None
    (refused_filling m n is p q moves levels c.if-p-n.false c.if-q-n.false c.if-levels-n.false ∙ accepted) in
    let left = c.run_rounds.ensures.levels_after ∙ ap (λ o. laid (level_sheet o (min limit (rounds_needed o p q))) levels) chart ∙ told.2 in
    with_laws (
      c.run_rounds.ensures.answer ∙ ap (λ o. settled_answer o p q limit) chart ∙ told.0,
      filled_so ∙ told.1,
      search rules,
    )
