-- Paths, and that the test by the states in between tells exactly what they reach. Assumes nothing.
use Rattle.std.proofs.Common.{◌≡◌, ℕ, zero, suc, ◌<◌, Bool, true, ◌&&◌, eqb, ltb, ◌⊎◌, Decides, refl, subst, inl, inr, ⊎_elim, arith}
use Rattle.std.proofs.lemmas.Bool.{and_parts, and_from, or_left, or_right, or_cases, ltb-true, lt-ltb, eqb-true, eq-eqb, cases_lt}
use Rattle.closure.specs.Closure.{Reached, stays, goes_on, by_way, reaches}

module _ (n : ℕ) (step : ℕ → ℕ → Bool) where
  -- both ends of a path are below n
  pub start_below : {p q : ℕ} → Reached n step p q → p < n
  start_below (stays h) = h
  start_below (goes_on path _ _) = start_below path

  pub end_below : {p q : ℕ} → Reached n step p q → q < n
  end_below (stays h) = h
  end_below (goes_on _ _ h) = h

  -- two paths make one
  pub joins : {p r q : ℕ} → Reached n step p r → Reached n step r q → Reached n step p q
  joins before (stays _) = before
  joins before (goes_on path s h) = goes_on (joins before path) s h

-- where each step of one relation is a path of another, so is each path
pub reached_by : {n : ℕ} {step : ℕ → ℕ → Bool} (other : ℕ → ℕ → Bool)
    → ((p q : ℕ) → p < n → q < n → step p q ≡ true → Reached n other p q) → {p q : ℕ} → Reached n step p q → Reached n other p q
reached_by other each (stays h) = stays h
reached_by {n} {step} other each (goes_on {r} {q} path s h) =
    joins n other (reached_by other each path) (each r q (end_below n step path) h s)

-- a number below k + 1 is k or below it
pub last_or_below : (r k : ℕ) → r < suc k → (r ≡ k) ⊎ (r < k)
last_or_below r k h = ⊎_elim (λ below. inr below) (λ past. inl (omega arith)) (cases_lt r k)

module _ (n : ℕ) (step : ℕ → ℕ → Bool) where
  -- what the test by way of the states below k finds is a path
  way_is_path : (k p q : ℕ) → by_way n step k p q ≡ true → Reached n step p q
  unfolding by_way
  way_is_path zero p q e =
      let parts = and_parts (ltb p n && ltb q n) _ e in
      let ends = and_parts (ltb p n) (ltb q n) parts.0 in
      let here = ltb-true p n ends.0 in
      ⊎_elim
      (λ same. subst (λ r. Reached n step p r) (eqb-true p q same) (stays here))
      (λ s. goes_on (stays here) s (ltb-true q n ends.1))
      (or_cases (eqb p q) (step p q) parts.1)
  way_is_path (suc k) p q e =
      ⊎_elim
      (way_is_path k p q)
      (λ both. let parts = and_parts (by_way n step k p k) _ both in
      joins n step (way_is_path k p k parts.0) (way_is_path k k q parts.1))
      (or_cases (by_way n step k p q) _ e)

  -- more states may stand in between
  way_more : (k p q : ℕ) → by_way n step k p q ≡ true → by_way n step (suc k) p q ≡ true
  unfolding by_way
  way_more k p q e = or_left (by_way n step k p q) _ e

  way_from_none : (k p q : ℕ) → by_way n step 0 p q ≡ true → by_way n step k p q ≡ true
  way_from_none zero p q e = e
  way_from_none (suc k) p q e = way_more k p q (way_from_none k p q e)

  -- one step more in between: directly, or by way of k
  way_split : (k p q : ℕ) → by_way n step (suc k) p q ≡ true
      → (by_way n step k p q ≡ true) ⊎ ((by_way n step k p k ≡ true) × (by_way n step k k q ≡ true))
  unfolding by_way
  way_split k p q e = ⊎_elim inl (λ both. inr (and_parts (by_way n step k p k) _ both)) (or_cases (by_way n step k p q) _ e)

  way_by : (k p q : ℕ) → by_way n step k p k ≡ true → by_way n step k k q ≡ true → by_way n step (suc k) p q ≡ true
  unfolding by_way
  way_by k p q to from = or_right (by_way n step k p q) _ (and_from (by_way n step k p k) _ to from)

  -- a way to k, and a way from k, need not pass k before
  way_to : (k p : ℕ) → by_way n step (suc k) p k ≡ true → by_way n step k p k ≡ true
  way_to k p e = ⊎_elim (λ w. w) (λ both. both.0) (way_split k p k e)

  way_from : (k q : ℕ) → by_way n step (suc k) k q ≡ true → by_way n step k k q ≡ true
  way_from k q e = ⊎_elim (λ w. w) (λ both. both.1) (way_split k k q e)

  -- two ways that meet at a state below k make one
  way_joins : (k p r q : ℕ) → r < k → by_way n step k p r ≡ true → by_way n step k r q ≡ true → by_way n step k p q ≡ true
  way_joins zero p r q h before after = absurd (omega arith)
  way_joins (suc k) p r q h before after =
      ⊎_elim
      (λ same. way_by k p q
      (way_to k p (subst (λ s. by_way n step (suc k) p s ≡ true) same before))
      (way_from k q (subst (λ s. by_way n step (suc k) s q ≡ true) same after)))
      (λ below. ⊎_elim
      (λ b. ⊎_elim
      (λ a. way_more k p q (way_joins k p r q below b a))
      (λ a. way_by k p q (way_joins k p r k below b a.0) a.1)
      (way_split k r q after))
      (λ b. ⊎_elim
      (λ a. way_by k p q b.0 (way_joins k k r q below b.1 a))
      (λ a. way_by k p q b.0 a.1)
      (way_split k r q after))
      (way_split k p r before))
      (last_or_below r k h)

  -- a path is found
  path_is_way : {p q : ℕ} → Reached n step p q → by_way n step n p q ≡ true
  unfolding by_way
  path_is_way {p} (stays h) =
      way_from_none n p p (and_from _ _ (and_from _ _ (lt-ltb p n h) (lt-ltb p n h)) (or_left (eqb p p) _ (eq-eqb p p refl)))
  path_is_way {p} {q} (goes_on {r} path s h) =
      let here = end_below n step path in
      way_joins n p r q here (path_is_way path)
      (way_from_none n r q (and_from _ _ (and_from _ _ (lt-ltb r n here) (lt-ltb q n h)) (or_right (eqb r q) _ s)))

  pub reaches_decides : (p q : ℕ) → Decides (reaches n step p q) (Reached n step p q)
  reaches_decides p q = (way_is_path n p q, path_is_way)
