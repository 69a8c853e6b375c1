-- The closing depth and the levels: that they are below the number of states. A state leads its class at depth k when no smaller
-- state is even with it to depth k. Each depth at which some pair gets a level has one more leader than the depth before it.
-- Assumes nothing.
use Rattle.std.proofs.Common.{◌≡◌, ℕ, zero, suc, ◌+◌, ◌*◌, ◌/◌, ◌%◌, ◌<◌, ◌≤◌, Bool, true, false, not, ltb, Decides, sym, refl, ◌∙◌, subst, inl, inr, ⊎_elim, arith}
use Rattle.std.proofs.lemmas.Bool.{false_from_ne_true, true_from_ne_false, both_ways, cases_Bool, cases_lt, cases_order, not-true, not-false, not_from_false, cond-true, cond-false, lt-ltb, le-ltb}
use Rattle.std.proofs.lemmas.Bool.Decides.{Decides-like, Decides-and, Decides-not}
use Rattle.charts.specs.Meaning.{Meaning}
use Rattle.charts.specs.Search.{some_below}
use Rattle.charts.proofs.Places.{some_below_decides}
use Rattle.layers.proofs.Sheets.{place_below, at_place, row_below, column_below}
use Rattle.likeness.specs.Bisimulation.{Alike}
use Rattle.likeness.specs.Levels.{Even, IsLevel, Closed, IsClosingDepth, even, even_states, first_below, level, has_level_after, some_level_after, closing_depth}
use Rattle.likeness.proofs.Evenness.{even_decides, even_unless, even_reflexive, even_symmetric, even_transitive, even_shrinks, bisimulation_even, closed_bisimulation, closed_even, even_states_decides}
use Rattle.likeness.proofs.Counting.{first_below_is, count, count_at_most, count_grows, count_some}

module _ (m : Meaning) where
  -- a pair of level k + 1
  abbrev pub LevelAfter : ℕ → ℕ → ℕ → Type 0
  LevelAfter k p q = Even m k p q × (Even m (suc k) p q → ⊥)

  pub has_level_after_decides : (k p q : ℕ) → Decides (has_level_after m k p q) (LevelAfter k p q)
  unfolding has_level_after
  has_level_after_decides k p q = Decides-and _ _ (even_decides m k p q) (Decides-not _ (even_decides m (suc k) p q))

  -- some pair of states has it
  some_level_decides : (k : ℕ) → Decides (some_level_after m k) ((p : ℕ) × (q : ℕ) × (p < m.count) × (q < m.count) × LevelAfter k p q)
  unfolding some_level_after
  some_level_decides k =
      let n = m.count in
      Decides-like _
      (λ h. (h.0 / n, h.0 % n, row_below n h.0 h.1, column_below n h.0 h.1, (has_level_after_decides k (h.0 / n) (h.0 % n)).0 h.2))
      (λ h. (
        h.0 * n + h.1,
        place_below n h.0 h.1 h.2 h.3,
        at_place (has_level_after m k) n h.0 h.1 h.3 ∙ (has_level_after_decides k h.0 h.1).1 h.4,
      ))
      (some_below_decides (λ i. has_level_after m k (i / n) (i % n)) (n * n))

  pub closed_from : (k : ℕ) → some_level_after m k ≡ false → Closed m k
  closed_from k none p q hp hq = (
    λ e. even_unless m (suc k) p q (λ odd. both_ways _ none ((some_level_decides k).1 (p, q, hp, hq, (e, odd)))),
    λ e. even_shrinks m k (suc k) p q (omega arith) e,
  )

  open_from : (k : ℕ) → (Closed m k → ⊥) → some_level_after m k ≡ true
  open_from k still = true_from_ne_false (some_level_after m k) (λ none. still (closed_from k none))

  not_closed : (k : ℕ) → some_level_after m k ≡ true → Closed m k → ⊥
  not_closed k some closed = let h = (some_level_decides k).0 some in h.4.1 ((closed h.0 h.1 h.2 h.3).0 h.4.0)

  -- p leads its class at depth k
  leads : ℕ → ℕ → Bool
  leads k p = not (some_below p (λ q. even m k q p))

  leads_decides : (k p : ℕ) → Decides (leads k p) (((q : ℕ) × (q < p) × (even m k q p ≡ true)) → ⊥)
  unfolding leads
  leads_decides k p = Decides-not _ (some_below_decides (λ q. even m k q p) p)

  leads_on : (k p : ℕ) → leads k p ≡ true → leads (suc k) p ≡ true
  leads_on k p e =
      (leads_decides (suc k) p).1
      (λ h. (leads_decides k p).0 e (h.0, h.1, (even_decides m k h.0 p).1 (even_shrinks m k (suc k) h.0 p (omega arith) ((even_decides m (suc k) h.0 p).0 h.2))))

  -- every state has a leader, no larger than itself
  leader : (k b p : ℕ) → p < b → (q : ℕ) × (q ≤ p) × Even m k q p × (leads k q ≡ true)
  unfolding leads
  leader k zero p h = absurd (omega arith)
  leader k (suc b) p h = ⊎_elim
      (λ some.
      let smaller = (some_below_decides (λ q. even m k q p) p).0 some in
      let first = leader k b smaller.0 (let l = smaller.1 in omega arith) in (
        first.0,
        let l = smaller.1 in let f = first.1 in omega arith,
        even_transitive m k first.0 smaller.0 p first.2 ((even_decides m k smaller.0 p).0 smaller.2),
        first.3,
      ))
      (λ none. (p, omega arith, even_reflexive m k p, not_from_false _ none))
      (cases_Bool (some_below p (λ q. even m k q p)))

  -- where some pair gets level k + 1, some state leads at k + 1 and not at k
  new_leader : (k p q : ℕ) → p < m.count → q < m.count → LevelAfter k p q
      → (s : ℕ) × (s < m.count) × (leads k s ≡ false) × (leads (suc k) s ≡ true)
  new_leader k p q hp hq parted =
      let f = leader (suc k) (suc p) p (omega arith) in
      let g = leader (suc k) (suc q) q (omega arith) in
      let near : Even m k f.0 g.0 =
      even_transitive m k f.0 p g.0 (even_shrinks m k (suc k) f.0 p (omega arith) f.2)
      (even_transitive m k p q g.0 parted.0 (even_symmetric m k g.0 q (even_shrinks m k (suc k) g.0 q (omega arith) g.2))) in
      ⊎_elim
      (λ same. absurd (parted.1 (even_transitive m (suc k) p f.0 q (even_symmetric m (suc k) f.0 p f.2)
      (subst (λ s. Even m (suc k) s q) (sym same) g.2))))
      (⊎_elim
      (λ less. (g.0, let u = g.1 in omega arith, follows f.0 g.0 less near, g.3))
      (λ more. (f.0, let u = f.1 in omega arith, follows g.0 f.0 more (even_symmetric m k f.0 g.0 near), f.3)))
      (cases_order f.0 g.0)
    where
      follows : (s t : ℕ) → s < t → Even m k s t → leads k t ≡ false
      follows s t less e = false_from_ne_true (leads k t) (λ leading. (leads_decides k t).0 leading (s, less, (even_decides m k s t).1 e))

  -- as long as each depth gives some pair a level, there are more leaders than depths
  leaders : (k : ℕ) → 0 < m.count → ((j : ℕ) → j < k → some_level_after m j ≡ true) → k < count (leads k) m.count
  leaders zero some_state all = count_some (leads 0) m.count 0 some_state ((leads_decides 0 0).1 (λ h. let l = h.1 in omega arith))
  leaders (suc k) some_state all =
      let h = (some_level_decides k).0 (all k (omega arith)) in
      let s = new_leader k h.0 h.1 h.2 h.3 h.4 in
      omega (
        arith,
        leaders k some_state (λ j b. all j (omega arith)),
        count_grows (leads k) (leads (suc k)) m.count (λ p _. leads_on k p) s.0 s.1 s.2 s.3,
      )

  pub open_below : (k : ℕ) → 0 < m.count → ((j : ℕ) → j < k → some_level_after m j ≡ true) → k < m.count
  open_below k some_state all = omega (arith, leaders k some_state all, count_at_most (leads k) m.count)

  -- the closing depth
  pub closing_found : 0 < m.count
      → (closing_depth m < m.count) × (some_level_after m (closing_depth m) ≡ false) × ((j : ℕ) → j < closing_depth m → some_level_after m j ≡ true)
  unfolding closing_depth
  closing_found some_state =
      let first = first_below_is m.count (λ k. not (some_level_after m k)) in
      let before : (j : ℕ) → j < closing_depth m → some_level_after m j ≡ true = λ j h. not-false _ (first.0 j h) in
      ⊎_elim
      (λ found. (found.0, not-true _ found.1, before))
      (λ none. absurd (let l = open_below (closing_depth m) some_state before in let e : closing_depth m ≡ m.count = none in omega arith))
      first.1

  no_state_closed : (k : ℕ) → m.count ≤ 0 → Closed m k
  no_state_closed k none p q hp hq = absurd (omega arith)

  nothing_below : m.count ≤ 0 → closing_depth m ≤ 0
  unfolding closing_depth
  nothing_below none = ⊎_elim
      (λ found. absurd (let b = found.0 in omega arith))
      (λ last. let e : closing_depth m ≡ m.count = last in omega arith)
      (first_below_is m.count (λ k. not (some_level_after m k))).1

  pub closing_told : IsClosingDepth m (closing_depth m)
  closing_told = ⊎_elim
      (λ some_state. let found = closing_found some_state in (closed_from _ found.1, λ k h. not_closed k (found.2 k h)))
      (λ none. (no_state_closed _ none, λ k h. absurd (let b = nothing_below none in omega arith)))
      (cases_lt 0 m.count)

  pub closing_below : (h : ℕ) → 0 < m.count → IsClosingDepth m h → h < m.count
  closing_below h some_state is = open_below h some_state (λ j b. open_from j (is.1 j b))

  -- a pair of states that is even to the closing depth is even to every depth
  pub even_for_good : (p q : ℕ) → p < m.count → q < m.count → Even m (closing_depth m) p q → (k : ℕ) → Even m k p q
  even_for_good p q hp hq e = closed_even m (closing_depth m) closing_told.0 p q hp hq e

  -- the level
  pub level_told : (p q : ℕ) → p < m.count → q < m.count → IsLevel m p q (level m p q)
  unfolding level
  level_told p q hp hq =
      let n = m.count in
      let test : ℕ → Bool = λ k. not (even m k p q) in
      let first = first_below_is n test in
      let before : (k : ℕ) → k < first_below n test → Even m k p q = λ k h. (even_decides m k p q).0 (not-false _ (first.0 k h)) in
      ⊎_elim
      (λ found.
      subst (IsLevel m p q) (sym (cond-true (ltb (first_below n test) n) _ _ (lt-ltb _ _ found.0)))
      (inr (λ e. both_ways _ (not-true _ found.1) ((even_decides m (first_below n test) p q).1 e), before)))
      (λ none.
      let deep = (closing_found (omega arith)).0 in
      subst (IsLevel m p q) (sym (cond-false (ltb (first_below n test) n) _ _ (le-ltb _ _ (omega arith))))
      (inl (refl, even_for_good p q hp hq (before (closing_depth m) (omega arith)))))
      first.1

  pub level_below : (p q l : ℕ) → p < m.count → q < m.count → IsLevel m p q l → l < m.count
  level_below p q l hp hq (inl is) = let e = is.0 in omega arith
  level_below p q l hp hq (inr is) = ⊎_elim
      (λ below. below)
      (λ past.
      let deep = (closing_found (omega arith)).0 in
      absurd (is.0 (even_for_good p q hp hq (is.1 (closing_depth m) (omega arith)) l)))
      (cases_lt l m.count)

  -- alike exactly at level 0
  even_at_0 : (p q : ℕ) → p < m.count → q < m.count → level m p q ≡ 0 → (k : ℕ) → Even m k p q
  even_at_0 p q hp hq e = ⊎_elim
      (λ is. is.1)
      (λ is. absurd (subst (λ l. Even m l p q → ⊥) e is.0 tt))
      (level_told p q hp hq)

  pub alike_decides : (p q : ℕ) → p < m.count → q < m.count → (Alike m p q → level m p q ≡ 0) × (level m p q ≡ 0 → Alike m p q)
  alike_decides p q hp hq = (
    λ alike. ⊎_elim
        (λ is. is.0)
        (λ is. absurd (is.0 (bisimulation_even m alike.0 alike.1 (level m p q) p q alike.2)))
        (level_told p q hp hq),
    λ e. (
      even_states m (closing_depth m),
      closed_bisimulation m (closing_depth m) closing_told.0,
      (even_states_decides m (closing_depth m) p q).1 ((hp, hq), even_at_0 p q hp hq e (closing_depth m)),
    ),
  )
