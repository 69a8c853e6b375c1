-- The closure of a relation on states: what is reached by zero or more steps.
-- Assumes nothing.
use Rattle.std.specs.Prelude.{◌≡◌, ℕ, zero, suc, ◌<◌, Bool, true, ◌&&◌, ◌||◌, List, map, Decides, ◌==◌, nat_lt}
use Rattle.std.specs.List.{range_with_len}

-- A path: p reaches q by zero or more steps, and every state on the way, p and q too, is below n.
pub data Reached (n : ℕ) (step : ℕ → ℕ → Bool) (p : ℕ) : ℕ → Type 0 where
  -- no step
  stays : p < n → Reached n step p p
  -- a path to r, and one step more
  goes_on : {r q : ℕ} → Reached n step p r → step r q ≡ true → q < n → Reached n step p q

-- p reaches q by a path whose states in between are all below k; p and q are below n
unfoldable pub by_way : ℕ → (ℕ → ℕ → Bool) → ℕ → ℕ → ℕ → Bool
by_way n step zero p q = (nat_lt p n && nat_lt q n) && (p == q || step p q)
by_way n step (suc k) p q = by_way n step k p q || (by_way n step k p k && by_way n step k k q)

-- p reaches q
abbrev pub reaches : ℕ → (ℕ → ℕ → Bool) → ℕ → ℕ → Bool
reaches n step p q = by_way n step n p q

-- the test tells exactly what is reached by a path, whatever the step
abbrev pub ReachesBySteps : Type 0
ReachesBySteps = (n : ℕ) (step : ℕ → ℕ → Bool) (p q : ℕ) → Decides (reaches n step p q) (Reached n step p q)

-- a mark for each of 128 states
abbrev pub marks : (ℕ → Bool) → List Bool
marks f = map f (range_with_len 0 128)
