-- The rounds that are run to settle a pair. Assumes nothing.
use Rattle.std.proofs.Common.{◌≡◌, ℕ, suc, ◌+◌, ◌<◌, ◌≤◌, min, Bool, true, false, ◌⊎◌, List, Ok, Err, Result, sym, ap, ◌∙◌, subst, ap₂, inl, inr, add-one, arith}
use mathlib.Core.Path.{fun_ext}
use Rattle.std.proofs.lemmas.Bool.{cond-true, cond-false, lt-ltb, le-ltb}
use Rattle.charts.specs.Meaning.{Meaning}
use Rattle.charts.specs.Refusals.{Told, bare}
use Rattle.likeness.specs.Levels.{level, level_to, some_level_after}
use Rattle.likeness.specs.Reading.{level_in}
use Rattle.likeness.specs.Sheet.{by_pairs, laid, level_sheet}
use Rattle.likeness.specs.Settle.{rounds_needed, settled_answer}
use Rattle.likeness.proofs.Laying.{level_laid, laid_pairs_again}
use Rattle.likeness.proofs.Turning.{LevelsTo}
use Rattle.likeness.proofs.Settling.{Unsettled, level_to_0, unsettled_start, unsettled_on, unsettled_below, unsettled_needs_more, settled_by_level, settled_by_closing}

-- The rounds on a chart, whose level sheet was d: after r of them the sheet holds the levels up to r, and the pair is unsettled.
pub record Running (m : Meaning) (p q limit : ℕ) (d : List ℕ) (r : ℕ) (levels : List ℕ) : Type 0 where
  pub p_below : p < m.count
  pub q_below : q < m.count
  pub sheet : levels ≡ laid (level_sheet m r) d
  pub within : r ≤ limit
  pub unsettled : Unsettled m p q r

pub running_start : (m : Meaning) (p q limit : ℕ) (d levels : List ℕ) → p < m.count → q < m.count → levels ≡ laid (by_pairs m.count (λ _ _. 0)) d
    → Running m p q limit d 0 levels
running_start m p q limit d levels hp hq clear = record {
  p_below = hp;
  q_below = hq;
  sheet = clear ∙ sym (ap (λ f. laid (by_pairs m.count f) d) (fun_ext (λ s. fun_ext (λ t. level_to_0 m s t))));
  within = omega arith;
  unsettled = unsettled_start m p q hp hq;
}

module _ {m : Meaning} {p q limit : ℕ} {d : List ℕ} {r : ℕ} {levels : List ℕ} (running : Running m p q limit d r levels) where
  -- one round more can be counted, and the sheet is as it needs it
  pub running_below : r < m.count
  running_below = unsettled_below m p q running.p_below running.q_below r running.unsettled

  pub running_levels : (o : Meaning) → o ≡ m → (n : ℕ) → n ≡ m.count → LevelsTo o n r levels
  running_levels o o_is n n_is s t hs ht =
      ap (λ xs. level_in n xs s t) running.sheet ∙ level_laid n m n_is r d s t hs ht ∙ ap (λ c. level_to c r s t) (sym o_is)

  -- what the rounds are to leave, and what they are to answer
  abbrev Left : List ℕ → Type 0
  Left after = after ≡ laid (level_sheet m (min limit (rounds_needed m p q))) d

  abbrev AnsweredBy : Result (ℕ × ℕ) Told → Type 0
  AnsweredBy answer = answer ≡ settled_answer m p q limit

  -- the limit is reached
  pub run_out : limit ≤ r → AnsweredBy (Err (bare 16)) × Left levels
  run_out over =
      let more = unsettled_needs_more m p q running.p_below running.q_below r running.unsettled in
      let last = running.within in (
        sym (cond-true _ _ _ (lt-ltb limit (rounds_needed m p q) (omega arith))),
        running.sheet ∙ ap (λ k. laid (level_sheet m k) d) (omega arith),
      )

  -- a round more was run, on the same chart
  module _ (below : r < limit) {o : Meaning} (o_is : o ≡ m) {after : List ℕ} (after_is : after ≡ laid (level_sheet o (suc r)) levels)
      {given : Bool} (given_is : given ≡ some_level_after o r) {depth n : ℕ} (n_is : n ≡ m.count) (depth_at : depth ≡ level_in n after p q) where
    next_sheet : after ≡ laid (level_sheet m (suc r)) d
    next_sheet =
        after_is ∙ ap (λ c. laid (level_sheet c (suc r)) levels) o_is ∙ ap (laid (level_sheet m (suc r))) running.sheet
        ∙ laid_pairs_again m.count (level_to m (suc r)) (level_to m r) d

    given_here : given ≡ some_level_after m r
    given_here = given_is ∙ ap (λ c. some_level_after c r) o_is

    depth_is : depth ≡ level_to m (suc r) p q
    depth_is =
        let hp = running.p_below in
        let hq = running.q_below in
        depth_at ∙ ap (λ xs. level_in n xs p q) next_sheet ∙ level_laid n m n_is (suc r) d p q (omega arith) (omega arith)

    pub running_on : depth ≤ 0 → given ≡ true → Running m p q limit d (r + 1) after
    running_on none some = subst (λ k. Running m p q limit d k after) (sym (add-one r)) (record {
      p_below = running.p_below;
      q_below = running.q_below;
      sheet = next_sheet;
      within = below;
      unsettled = unsettled_on m p q running.p_below running.q_below r running.unsettled (sym depth_is ∙ omega arith) (sym given_here ∙ some);
    })

    settled_now : (depth ≡ level m p q) × (suc r ≡ rounds_needed m p q) → AnsweredBy (Ok (depth, r + 1)) × Left after
    settled_now (depth_found, rounds) = (
      ap₂ (λ a b. Ok (a, b)) depth_found (add-one r ∙ rounds) ∙ sym (cond-false _ _ _ (le-ltb limit (rounds_needed m p q) (omega arith))),
      next_sheet ∙ ap (λ k. laid (level_sheet m k) d) (omega arith),
    )

    -- the pair has a level, or no pair was given one
    pub run_settles : (0 < depth) ⊎ ((depth ≤ 0) × (given ≡ false)) → AnsweredBy (Ok (depth, r + 1)) × Left after
    run_settles (inl some) =
        let found = settled_by_level m p q running.p_below running.q_below r running.unsettled (omega (arith, depth_is)) in
        settled_now (depth_is ∙ found.0, found.1)
    run_settles (inr (none, closed)) =
        let found = settled_by_closing m p q running.p_below running.q_below r running.unsettled (sym depth_is ∙ omega arith) (sym given_here ∙ closed) in
        settled_now (let l = found.0 in omega arith, found.1)
