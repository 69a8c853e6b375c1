-- The first number below a bound that passes a test, and how many pass. Assumes nothing.
use Rattle.std.proofs.Common.{◌≡◌, ℕ, zero, suc, ◌+◌, ◌<◌, ◌≤◌, Bool, true, false, cond, ◌⊎◌, sym, refl, ap, subst, inl, inr, ⊎_elim, arith}
use Rattle.std.proofs.lemmas.Bool.{cond_both, both_ways, cases_lt}
use Rattle.likeness.specs.Levels.{first_below}

-- r is the first below n that passes, or n where none does
abbrev pub FirstBelow : ℕ → (ℕ → Bool) → ℕ → Type 0
FirstBelow n test r = ((j : ℕ) → j < r → test j ≡ false) × (((r < n) × (test r ≡ true)) ⊎ (r ≡ n))

pub first_below_is : (n : ℕ) (test : ℕ → Bool) → FirstBelow n test (first_below n test)
unfolding first_below
first_below_is zero test = (λ j h. absurd (omega arith), inr refl)
first_below_is (suc n) test =
    let later = first_below_is n (λ k. test (suc k)) in
    cond_both (test 0) 0 (suc (first_below n (λ k. test (suc k)))) (FirstBelow (suc n) test)
    (λ passes. (λ j h. absurd (omega arith), inl (omega arith, passes)))
    (λ fails. (
      λ j h. before (λ k. later.0 k) fails j h,
      ⊎_elim (λ found. inl (let below = found.0 in omega arith, found.1)) (λ none. inr (ap suc none)) later.1,
    ))
  where
    before : {r : ℕ} → ((k : ℕ) → k < r → test (suc k) ≡ false) → test 0 ≡ false → (j : ℕ) → j < suc r → test j ≡ false
    before rest here zero h = here
    before rest here (suc j) h = rest j (omega arith)

-- how many numbers below n pass
pub count : (ℕ → Bool) → ℕ → ℕ
count test zero = 0
count test (suc n) = cond (test n) 1 0 + count test n

one_at_most : (b : Bool) → cond b 1 0 ≤ 1
one_at_most true = omega arith
one_at_most false = omega arith

no_fewer : (b c : Bool) → (b ≡ true → c ≡ true) → cond b 1 0 ≤ cond c 1 0
no_fewer false c h = omega arith
no_fewer true c h = subst (λ d. cond true 1 0 ≤ cond d 1 0) (sym (h refl)) (omega arith)

pub count_at_most : (f : ℕ → Bool) (n : ℕ) → count f n ≤ n
unfolding count
count_at_most f zero = omega arith
count_at_most f (suc n) = omega (arith, one_at_most (f n), count_at_most f n)

module _ (f g : ℕ → Bool) where
  -- what passes one test passes the other
  abbrev Within : ℕ → Type 0
  Within n = (k : ℕ) → k < n → f k ≡ true → g k ≡ true

  count_within : (n : ℕ) → Within n → count f n ≤ count g n
  unfolding count
  count_within zero h = omega arith
  count_within (suc n) h =
      omega (arith, no_fewer (f n) (g n) (h n (omega arith)), count_within n (λ k below. h k (omega arith)))

  -- and some number passes only the other
  pub count_grows : (n : ℕ) → Within n → (k : ℕ) → k < n → f k ≡ false → g k ≡ true → count f n < count g n
  unfolding count
  count_grows zero h k below fails passes = absurd (omega arith)
  count_grows (suc n) h k below fails passes =
      ⊎_elim
      (λ lower. omega (arith, no_fewer (f n) (g n) (h n (omega arith)), count_grows n (λ j b. h j (omega arith)) k lower fails passes))
      (λ top.
      let here : k ≡ n = omega arith in
      let none : ◌≡◌ {A = ℕ} (cond (f n) 1 0) 0 = ap (λ b. cond b 1 0) (subst (λ j. f j ≡ false) here fails) in
      let one : ◌≡◌ {A = ℕ} (cond (g n) 1 0) 1 = ap (λ b. cond b 1 0) (subst (λ j. g j ≡ true) here passes) in
      omega (arith, count_within n (λ j b. h j (omega arith))))
      (cases_lt k n)

pub count_some : (f : ℕ → Bool) (n k : ℕ) → k < n → f k ≡ true → 0 < count f n
count_some f n k below passes =
    let more : count (λ _. false) n < count f n = count_grows (λ _. false) f n (λ j _ e. absurd (both_ways false refl e)) k below refl passes in omega arith
