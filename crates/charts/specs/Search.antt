-- Searches: some number below a bound, and the first element of a list that passes a test or is the same as a given one.
-- Assumes nothing.
use Rattle.std.specs.Prelude.{◌≡◌, ℕ, zero, suc, ◌<◌, Bool, true, false, ◌||◌, List, length, Some, None, Decides, Option, refl}
use Rattle.std.proofs.Common.{sym, ◌∙◌}
use Rattle.std.specs.List.{HoldsAt, AllWithin}

-- what every sameness keeps
pub record Equivalence {X : Type 0} (same : X → X → Bool) : Type 0 where
  pub reflexive : (x : X) → same x x ≡ true
  pub symmetric : (x y : X) → same x y ≡ true → same y x ≡ true
  pub transitive : (x y z : X) → same x y ≡ true → same y z ≡ true → same x z ≡ true

-- a test of equality is one
pub equality : {X : Type 0} (same : X → X → Bool) → ((x y : X) → Decides (same x y) (x ≡ y)) → Equivalence same
equality same decides = record {
  reflexive = λ x. (decides x x).1 refl;
  symmetric = λ x y e. (decides y x).1 (sym ((decides x y).0 e));
  transitive = λ x y z e f. (decides x z).1 ((decides x y).0 e ∙ (decides y z).0 f);
}

-- some number below n passes the test
unfoldable pub some_below : ℕ → (ℕ → Bool) → Bool
some_below zero test = false
some_below (suc n) test = test n || some_below n test

-- the first element that passes the test, by its place: where there is an answer i, the element at i passes and none before it; where
-- there is none, none passes
abbrev pub First : {X : Type 0} → (X → Bool) → List X → Option ℕ → Type 0
First test xs None = AllWithin (λ x. test x ≡ false) xs 0 (length xs)
First test xs (Some i) = (i < length xs) × HoldsAt (λ x. test x ≡ true) xs i × AllWithin (λ x. test x ≡ false) xs 0 i
