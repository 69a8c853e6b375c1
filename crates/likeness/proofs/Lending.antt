-- What is refused of what a call is lent. Assumes nothing.
use Rattle.std.proofs.Common.{◌≡◌, ℕ, ◌*◌, ◌<◌, ◌≤◌, Bool, true, false, cond, ◌&&◌, ltb, ◌⊎◌, List, length, Some, None, Option, sym, refl, ap, ◌∙◌, inl, inr, arith}
use Rattle.std.proofs.Math.Bool.{and-true}
use Rattle.std.proofs.lemmas.Bool.{cond-true, cond-false, and_from, and_left, and_right, lt-ltb, le-ltb, le-leb, lt-leb}
use Rattle.charts.specs.Meaning.{Meaning}
use Rattle.charts.specs.Refusals.{Told, bare}
use Rattle.likeness.specs.Settle.{suffices, filling_refused, filled, refused_at_once, settled_or, settling}
use Rattle.likeness.specs.Sheet.{laid, move_sheet}

module _ (m : Meaning) (n : ℕ) (n_is : n ≡ m.count) (p q : ℕ) (moves levels : List ℕ) where
  room : n * n ≡ m.count * m.count
  room = ap (λ k. k * k) n_is

  pub refused_states : (n ≤ p) ⊎ (n ≤ q) → refused_at_once m p q moves levels ≡ Some (bare 11)
  unfolding refused_at_once
  refused_states (inl out) = cond-false _ _ _ (and_left _ _ (le-ltb p m.count (omega arith)))
  refused_states (inr out) = cond-false _ _ _ (and_right _ _ (le-ltb q m.count (omega arith)))

  module _ (hp : p < n) (hq : q < n) where
    both_states : (ltb p m.count && ltb q m.count) ≡ true
    both_states = and_from _ _ (lt-ltb p m.count (omega arith)) (lt-ltb q m.count (omega arith))

    pub refused_levels : length levels < n * n → refused_at_once m p q moves levels ≡ Some (bare 12)
    unfolding refused_at_once
    refused_levels short =
        cond-true (ltb p m.count && ltb q m.count) _ (Some (bare 11)) both_states
        ∙ cond-false (suffices m moves && suffices m levels) None (Some (bare 12))
        (and_right _ _ (lt-leb (m.count * m.count) (length levels) (omega (arith, room))))

    -- with a level sheet that suffices, what is refused is what filling the move sheet refuses
    pub refused_filling : n * n ≤ length levels → refused_at_once m p q moves levels ≡ filling_refused m moves
    unfolding refused_at_once
    refused_filling enough =
        cond-true (ltb p m.count && ltb q m.count) _ (Some (bare 11)) both_states
        ∙ ap (λ b. cond (suffices m moves && b) None (Some (bare 12))) (le-leb (m.count * m.count) (length levels) (omega (arith, room)))
        ∙ ap (λ b. cond b None (Some (bare 12))) (and-true (suffices m moves))

-- what the move sheet holds once it is filled, or filling it is refused
pub filled_is : (m : Meaning) (p q limit : ℕ) (moves levels : List ℕ)
    → filled m moves ≡ (settled_or (filling_refused m moves) m p q limit moves levels).moves
filled_is m p q limit moves levels = by (suffices m moves)
  where
    by : (b : Bool) → cond b (laid (move_sheet m) moves) moves ≡ (settled_or (cond b None (Some (bare 12))) m p q limit moves levels).moves
    by true = refl
    by false = refl

-- what settling then answers, and what it leaves in the two sheets
pub call_facts : (m : Meaning) (p q limit : ℕ) (moves levels : List ℕ) (o : Option Told) → refused_at_once m p q moves levels ≡ o
    → ((settled_or o m p q limit moves levels).answer ≡ (settling m p q limit moves levels).answer)
    × ((settled_or o m p q limit moves levels).moves ≡ (settling m p q limit moves levels).moves)
    × ((settled_or o m p q limit moves levels).levels ≡ (settling m p q limit moves levels).levels)
call_facts m p q limit moves levels o is = (
  ap (λ r. (settled_or r m p q limit moves levels).answer) (sym is),
  ap (λ r. (settled_or r m p q limit moves levels).moves) (sym is),
  ap (λ r. (settled_or r m p q limit moves levels).levels) (sym is),
)
