-- What settling answers is true of the two states. Assumes nothing.
use Rattle.std.proofs.Common.{◌≡◌, ℕ, ◌<◌, cond, ◌&&◌, ltb, List, Some, None, Ok, Err, Option, refl, ⊎_elim, arith}
use Rattle.std.proofs.lemmas.Bool.{cases_Bool, and_parts, cond-false, cond_both, ltb-true}
use Rattle.charts.specs.Meaning.{Meaning}
use Rattle.charts.specs.Refusals.{Told, bare}
use Rattle.likeness.specs.Levels.{level}
use Rattle.likeness.specs.Settle.{rounds_needed, suffices, refused_at_once, settled_or, settling, Verdict}
use Rattle.likeness.proofs.Attacks.{uneven_distinguished}
use Rattle.likeness.proofs.Closing.{level_told, alike_decides}

-- a call that is not refused at once names two states
named_states : (m : Meaning) (p q : ℕ) (moves levels : List ℕ) → refused_at_once m p q moves levels ≡ None → (p < m.count) × (q < m.count)
unfolding refused_at_once
named_states m p q moves levels is = ⊎_elim
    (λ both. let parts = and_parts (ltb p m.count) (ltb q m.count) both in (ltb-true p m.count parts.0, ltb-true q m.count parts.1))
    (λ not_both.
    let refused = cond-false (ltb p m.count && ltb q m.count) (cond (suffices m moves && suffices m levels) None (Some (bare 12))) (Some (bare 11)) not_both in
    let clash : ◌≡◌ {A = ℕ} 0 1 = cc (refused, is) in
    absurd (omega arith))
    (cases_Bool (ltb p m.count && ltb q m.count))

-- the level says what the verdict says
level_verdict : (m : Meaning) (p q r : ℕ) → p < m.count → q < m.count → Verdict m p q (Ok (level m p q, r))
level_verdict m p q r hp hq = (
  (alike_decides m p q hp hq).1,
  λ some. ⊎_elim
      (λ is. absurd (let z = is.0 in omega arith))
      (λ is. (
        λ alike. let z = (alike_decides m p q hp hq).0 alike in omega arith,
        (uneven_distinguished m (level m p q) p q hp hq).0 is.0,
        λ k below apart. (uneven_distinguished m k p q hp hq).1 apart (is.1 k below),
      ))
      (level_told m p q hp hq),
)

verdict_or : (m : Meaning) (p q limit : ℕ) (moves levels : List ℕ) (o : Option Told) → refused_at_once m p q moves levels ≡ o
    → Verdict m p q (settled_or o m p q limit moves levels).answer
verdict_or m p q limit moves levels (Some told) is = tt
verdict_or m p q limit moves levels None is =
    let states = named_states m p q moves levels is in
    cond_both (ltb limit (rounds_needed m p q)) (Err (bare 16)) (Ok (level m p q, rounds_needed m p q)) (Verdict m p q)
    (λ _. tt) (λ _. level_verdict m p q (rounds_needed m p q) states.0 states.1)

pub verdict_true : (m : Meaning) (p q limit : ℕ) (moves levels : List ℕ) → Verdict m p q (settling m p q limit moves levels).answer
verdict_true m p q limit moves levels = verdict_or m p q limit moves levels (refused_at_once m p q moves levels) refl
