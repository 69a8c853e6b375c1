-- What a round gives, and when the rounds settle a pair. Assumes nothing.
use Rattle.std.proofs.Common.{◌≡◌, ℕ, suc, ◌<◌, ◌≤◌, true, false, sym, ◌∙◌, subst, ⊎_elim, arith}
use Rattle.std.proofs.lemmas.Bool.{false_from_ne_true, both_ways, cases_lt, cases_order, cond-true, cond-false, lt-ltb, le-ltb}
use Rattle.charts.specs.Meaning.{Meaning}
use Rattle.likeness.specs.Levels.{Even, level, level_to, has_level_after, some_level_after, closing_depth}
use Rattle.likeness.specs.Attack.{Attack}
use Rattle.likeness.specs.Settle.{rounds_needed}
use Rattle.likeness.proofs.Evenness.{even_unless, closed_even}
use Rattle.likeness.proofs.Closing.{level_told, level_below, has_level_after_decides, closed_from, open_below, closing_found}
use Rattle.likeness.proofs.Attacks.{level_of_uneven, uneven_at_level, level_to_low, level_to_high, level_to_tells, attack_uneven, uneven_attack}

-- after r rounds a pair is unsettled: it has no level, and each round gave some pair one
pub record Unsettled (m : Meaning) (p q r : ℕ) : Type 0 where
  pub no_level : level_to m r p q ≡ 0
  pub all_given : (j : ℕ) → j < r → some_level_after m j ≡ true

module _ (m : Meaning) where
  -- before the first round no pair has a level
  pub level_to_0 : (p q : ℕ) → level_to m 0 p q ≡ 0
  level_to_0 p q = ⊎_elim
      (level_to_high m 0 p q)
      (λ none. level_to_low m 0 p q none ∙ omega arith)
      (cases_lt 0 (level m p q))

  -- what round r + 1 gives a pair of states
  module _ (r p q : ℕ) (hp : p < m.count) (hq : q < m.count) where
    none_yet : level_to m r p q ≡ 0 → Even m r p q
    none_yet none = even_unless m r p q
        (λ odd. let l = level_of_uneven m r p q hp hq odd in let a = l.0 in let b = level_to_low m r p q l.1 in omega arith)

    next_level : level_to m r p q ≡ 0 → (Even m (suc r) p q → ⊥) → level m p q ≡ suc r
    next_level none odd =
        let l = level_of_uneven m (suc r) p q hp hq odd in
        let a = l.0 in let b = l.1 in
        ⊎_elim
        (λ high. omega arith)
        (λ low. absurd (let e = level_to_low m r p q low in omega arith))
        (cases_lt r (level m p q))

    not_after : (Even m r p q → Even m (suc r) p q) → has_level_after m r p q ≡ false
    not_after goes = false_from_ne_true (has_level_after m r p q) (λ some. let h = (has_level_after_decides m r p q).0 some in h.1 (goes h.0))

    -- a pair without a level that has an attack gets it
    pub gets_level : level_to m r p q ≡ 0 → (Even m (suc r) p q → ⊥) → (suc r ≡ level_to m (suc r) p q) × (has_level_after m r p q ≡ true)
    gets_level none odd =
        let is = next_level none odd in
        (sym (level_to_low m (suc r) p q (omega arith) ∙ is), (has_level_after_decides m r p q).1 (none_yet none, odd))

    -- one that has none stays without
    pub gets_none : level_to m r p q ≡ 0 → Even m (suc r) p q → (level_to m r p q ≡ level_to m (suc r) p q) × (has_level_after m r p q ≡ false)
    gets_none none e = (
      none ∙ sym (⊎_elim
          (level_to_high m (suc r) p q)
          (λ low. level_to_low m (suc r) p q low ∙ ⊎_elim
          (λ some. absurd (uneven_at_level m (suc r) p q hp hq some low e))
          (λ zero_level. omega arith)
          (cases_lt 0 (level m p q)))
          (cases_lt (suc r) (level m p q))),
      not_after (λ _. e),
    )

    -- and one with a level keeps it
    pub keeps_level : (level_to m r p q ≡ 0 → ⊥) → (level_to m r p q ≡ level_to m (suc r) p q) × (has_level_after m r p q ≡ false)
    keeps_level some = ⊎_elim
        (λ high. absurd (some (level_to_high m r p q high)))
        (λ low.
        let same = level_to_low m r p q low in (
          same ∙ sym (level_to_low m (suc r) p q (omega arith)),
          not_after (λ e. absurd (uneven_at_level m r p q hp hq (⊎_elim (λ h. h) (λ none. absurd (some (same ∙ omega arith))) (cases_lt 0 (level m p q))) low e)),
        ))
        (cases_lt r (level m p q))

    -- round by round, in the words of attacks
    pub levels_grow : (level_to m 0 p q ≡ 0)
        × (0 < level_to m r p q → level_to m (suc r) p q ≡ level_to m r p q)
        × (level_to m r p q ≡ 0 → Attack m (level_to m r) (suc r) p q → level_to m (suc r) p q ≡ suc r)
        × (level_to m r p q ≡ 0 → (Attack m (level_to m r) (suc r) p q → ⊥) → level_to m (suc r) p q ≡ 0)
    levels_grow =
        let tells = level_to_tells m r r (omega arith) in (
          level_to_0 p q,
          λ some. sym (keeps_level (λ none. omega arith)).0,
          λ none attack. sym (gets_level none (attack_uneven m r (level_to m r) tells p q attack)).0,
          λ none off. sym (gets_none none (even_unless m (suc r) p q (λ odd. off (uneven_attack m r (level_to m r) tells p q odd)))).0 ∙ none,
        )

  -- when a pair of states is settled
  module _ (p q : ℕ) (hp : p < m.count) (hq : q < m.count) where
    pub unsettled_start : Unsettled m p q 0
    unsettled_start = record { no_level = level_to_0 p q; all_given = λ j h. absurd (omega arith) }

    pub unsettled_on : (r : ℕ) → Unsettled m p q r → level_to m (suc r) p q ≡ 0 → some_level_after m r ≡ true → Unsettled m p q (suc r)
    unsettled_on r before none given = record {
      no_level = none;
      all_given = λ j h. ⊎_elim (before.all_given j) (λ top. subst (λ k. some_level_after m k ≡ true) (let e : r ≡ j = omega arith in e) given) (cases_lt j r);
    }

    pub unsettled_below : (r : ℕ) → Unsettled m p q r → r < m.count
    unsettled_below r before = open_below m r (omega arith) before.all_given

    by_level : 0 < level m p q → rounds_needed m p q ≡ level m p q
    unfolding rounds_needed
    by_level some = cond-true _ _ _ (lt-ltb 0 (level m p q) some)

    by_closing : level m p q ≤ 0 → rounds_needed m p q ≡ suc (closing_depth m)
    unfolding rounds_needed
    by_closing none = cond-false _ _ _ (le-ltb 0 (level m p q) none)

    pub rounds_at_most : rounds_needed m p q ≤ m.count
    rounds_at_most = ⊎_elim
        (λ some. let e = by_level some in omega (arith, level_below m p q (level m p q) hp hq (level_told m p q hp hq)))
        (λ none. let e = by_closing none in let h = (closing_found m (omega arith)).0 in omega arith)
        (cases_lt 0 (level m p q))

    pub unsettled_needs_more : (r : ℕ) → Unsettled m p q r → r < rounds_needed m p q
    unsettled_needs_more r before = ⊎_elim
        (λ some.
        let e = by_level some in
        ⊎_elim (λ high. omega arith) (λ low. absurd (let z = before.no_level in let s = level_to_low m r p q low in omega arith)) (cases_lt r (level m p q)))
        (λ none.
        let e = by_closing none in
        let h = closing_found m (omega arith) in
        ⊎_elim (λ less. absurd (both_ways _ h.1 (before.all_given (closing_depth m) less))) (λ more. omega arith) (cases_lt (closing_depth m) r))
        (cases_lt 0 (level m p q))

    pub settled_by_level : (r : ℕ) → Unsettled m p q r → 0 < level_to m (suc r) p q
        → (level_to m (suc r) p q ≡ level m p q) × (suc r ≡ rounds_needed m p q)
    settled_by_level r before some = ⊎_elim
        (λ high. absurd (let z = level_to_high m (suc r) p q high in omega arith))
        (λ low.
        let same = level_to_low m (suc r) p q low in
        let z = before.no_level in
        let e = by_level (omega arith) in
        (same, ⊎_elim (λ high. omega arith) (λ lower. absurd (let s = level_to_low m r p q lower in omega arith)) (cases_lt r (level m p q))))
        (cases_lt (suc r) (level m p q))

    pub settled_by_closing : (r : ℕ) → Unsettled m p q r → level_to m (suc r) p q ≡ 0 → some_level_after m r ≡ false
        → (0 ≡ level m p q) × (suc r ≡ rounds_needed m p q)
    settled_by_closing r before none closed =
        let alike : level m p q ≤ 0 = ⊎_elim
        (λ some. ⊎_elim
        (λ high. absurd (let z = level_to_high m (suc r) p q high in
        uneven_at_level m (level m p q) p q hp hq some (omega arith) (closed_even m r (closed_from m r closed) p q hp hq (none_yet r p q hp hq before.no_level) (level m p q))))
        (λ low. absurd (let s = level_to_low m (suc r) p q low in omega arith))
        (cases_lt (suc r) (level m p q)))
        (λ h. h)
        (cases_lt 0 (level m p q)) in
        let e = by_closing alike in
        let h = closing_found m (omega arith) in (
          omega arith,
          ⊎_elim
              (λ same. omega arith)
              (⊎_elim
              (λ less. absurd (both_ways _ h.1 (before.all_given (closing_depth m) less)))
              (λ more. absurd (both_ways _ closed (h.2 r more))))
              (cases_order (closing_depth m) r),
        )
