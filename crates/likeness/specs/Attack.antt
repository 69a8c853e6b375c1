-- Attacks: why a pair of states has the level that a sheet of levels gives it.
-- Assumes nothing.
use Rattle.std.specs.Prelude.{◌≡◌, ℕ, suc, ◌<◌, true, ◌⊎◌}
use Rattle.charts.specs.Meaning.{Meaning, has_move}
use Rattle.likeness.specs.Levels.{level_to}
use Rattle.likeness.specs.Formula.{Distinguished}

-- a level from 1 to k - 1
abbrev pub Lower : ℕ → ℕ → Type 0
Lower k l = (0 < l) × (l < k)

-- p moves by some a to some t, and each move of q by a leads to some u with G t u
abbrev pub AttackBy : Meaning → (ℕ → ℕ → Type 0) → ℕ → ℕ → Type 0
AttackBy m G p q = (a : ℕ) × (t : ℕ) × (has_move m p a t ≡ true) × ((u : ℕ) → has_move m q a u ≡ true → G t u)

-- The pair has an attack of level k: p moves by some a to t, and for each move of q by a to u the level of (t, u) is 1 to k - 1; or q
-- moves by some a to u, and for each move of p by a to t the level of (t, u) is 1 to k - 1.
abbrev pub Attack : Meaning → (ℕ → ℕ → ℕ) → ℕ → ℕ → ℕ → Type 0
Attack m levels k p q = AttackBy m (λ t u. Lower k (levels t u)) p q ⊎ AttackBy m (λ u t. Lower k (levels t u)) q p

-- every pair of states that is given a level has an attack of that level
abbrev pub Attacked : Meaning → (ℕ → ℕ → ℕ) → Type 0
Attacked m levels = (p q : ℕ) → p < m.count → q < m.count → 0 < levels p q → Attack m levels (levels p q) p q

-- levels with attacks never lie: a pair that is given level d is told apart by a formula of depth at most d
abbrev pub AttackedLevelsNeverLie : Type 0
AttackedLevelsNeverLie =
    (m : Meaning) (levels : ℕ → ℕ → ℕ) → Attacked m levels
    → (p q : ℕ) → p < m.count → q < m.count → 0 < levels p q → Distinguished m (levels p q) p q

-- the levels of a chart up to any number have attacks
abbrev pub LevelsAreAttacked : Type 0
LevelsAreAttacked = (m : Meaning) (r : ℕ) → Attacked m (level_to m r)

-- How the levels grow round by round: before the first round no pair has one; a pair that has one keeps it; and a pair of states that has
-- none after r rounds is given level r + 1 exactly when it has an attack of that level under the levels so far.
abbrev pub LevelsGrowByAttacks : Type 0
LevelsGrowByAttacks =
    (m : Meaning) (r p q : ℕ) → p < m.count → q < m.count
    → (level_to m 0 p q ≡ 0)
    × (0 < level_to m r p q → level_to m (suc r) p q ≡ level_to m r p q)
    × (level_to m r p q ≡ 0 → Attack m (level_to m r) (suc r) p q → level_to m (suc r) p q ≡ suc r)
    × (level_to m r p q ≡ 0 → (Attack m (level_to m r) (suc r) p q → ⊥) → level_to m (suc r) p q ≡ 0)
