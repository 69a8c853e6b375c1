-- The numbers below a bound, and the elements of a list by their places, that pass a test. Assumes nothing.
use Rattle.std.proofs.Common.{◌≡◌, ℕ, zero, suc, ◌<◌, Bool, true, false, ◌||◌, List, length, is_some, Some, None, Decides, Option, sym, refl, ap, ap₂, arith}
use Rattle.std.specs.List.{HoldsAt, AllWithin}
use Rattle.std.proofs.lemmas.Bool.Decides.{Decides-by_or, Decides-below_or, same_from_decides}
use Rattle.std.proofs.lemmas.Bool.{false≢true}
use mathlib.Core.Path.{fun_ext}
use Rattle.std.specs.List.{list_any, position}
use Rattle.charts.specs.Search.{some_below, First, Equivalence}

-- some number passes exactly when there is one
pub some_below_decides : (test : ℕ → Bool) (n : ℕ) → Decides (some_below n test) ((k : ℕ) × (k < n) × (test k ≡ true))
unfolding some_below
some_below_decides test = Decides-below_or test (λ k. test k ≡ true) (λ n. some_below n test) (λ k. (λ e. e, λ e. e)) refl (λ _. refl)

-- tests that agree below the bound
pub some_same : (n : ℕ) (f g : ℕ → Bool) → ((k : ℕ) → k < n → f k ≡ g k) → some_below n f ≡ some_below n g
unfolding some_below
some_same zero f g same = refl
some_same (suc n) f g same = ap₂ ◌||◌ (same n (omega arith)) (some_same n f g (λ k h. same k (omega arith)))

module _ {X : Type 0} (test : X → Bool) where
  -- an answer, and none
  pub first_found : (xs : List X) (r : Option ℕ) → First test xs r → is_some r ≡ true
      → (i : ℕ) × (i < length xs) × HoldsAt (λ x. test x ≡ true) xs i
  first_found xs None h e = absurd (false≢true e)
  first_found xs (Some i) h e = (i, h.0, h.1)

  pub first_missing : (xs : List X) (r : Option ℕ) → First test xs r → is_some r ≡ false → AllWithin (λ x. test x ≡ false) xs 0 (length xs)
  first_missing xs None h e = h
  first_missing xs (Some i) h e = absurd (false≢true (sym e))

  -- some element passes exactly when one at some place does
  pub some_decides : (xs : List X) → Decides (list_any test xs) ((i : ℕ) × (i < length xs) × HoldsAt (λ x. test x ≡ true) xs i)
  some_decides = Decides-by_or test (λ x. test x ≡ true) (list_any test) (λ x. (λ e. e, λ e. e)) refl (λ _ _. refl)

-- a record that is the same as the wanted one is found where the wanted one is
pub by_sameness : {X : Type 0} (same : X → X → Bool) → Equivalence same → (xs : List X) (w y : X) → same y w ≡ true
    → position (λ x. same x w) xs ≡ position (λ x. same x y) xs
by_sameness same laws xs w y e =
    ap (λ test. position test xs) (fun_ext (λ x. same_from_decides (same x w) (same x y)
    (λ h. laws.transitive x w y h (laws.symmetric y w e), λ h. laws.transitive x y w h e) (λ h. h, λ h. h)))
