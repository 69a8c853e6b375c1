-- Hennessy-Milner formulas: what can be tried on a state, and when a trial tells two states apart.
-- Assumes nothing.
use Rattle.std.specs.Prelude.{◌≡◌, ℕ, suc, ◌<◌, ◌≤◌, max, Bool, true, not, ◌&&◌, Decides}
use Rattle.charts.specs.Meaning.{Meaning, has_move}
use Rattle.charts.specs.Search.{some_below}
use Rattle.likeness.specs.Levels.{Even}

-- A formula: it holds always; it holds where another does not; it holds where two do; or it holds where some move by a label leads to a
-- state at which another holds.
pub data Formula : Type 0 where
  truth : Formula
  negation : Formula → Formula
  conjunction : Formula → Formula → Formula
  after : ℕ → Formula → Formula

-- how many moves a formula looks ahead
abbrev pub depth : Formula → ℕ
depth truth = 0
depth (negation F) = depth F
depth (conjunction F G) = max (depth F) (depth G)
depth (after a F) = suc (depth F)

-- the formula holds at p
unfoldable pub holds : Meaning → Formula → ℕ → Bool
holds m truth p = true
holds m (negation F) p = not (holds m F p)
holds m (conjunction F G) p = holds m F p && holds m G p
holds m (after a F) p = some_below m.count (λ q. has_move m p a q && holds m F q)

-- the formula holds at exactly one of p and q
abbrev pub Distinguishes : Meaning → Formula → ℕ → ℕ → Type 0
Distinguishes m F p q = holds m F p ≡ not (holds m F q)

-- some formula that looks ahead at most k moves does
abbrev pub Distinguished : Meaning → ℕ → ℕ → ℕ → Type 0
Distinguished m k p q = (F : Formula) × (depth F ≤ k) × Distinguishes m F p q

-- a formula after a label holds exactly where some move by the label leads to a state at which the rest holds
abbrev pub AfterIsTold : Type 0
AfterIsTold =
    (m : Meaning) (a p : ℕ) (F : Formula)
    → Decides (holds m (after a F) p) ((q : ℕ) × (has_move m p a q ≡ true) × (holds m F q ≡ true))

-- a pair of states is not even to depth k exactly when some formula of depth at most k tells it apart
abbrev pub UnevenIsDistinguished : Type 0
UnevenIsDistinguished =
    (m : Meaning) (k p q : ℕ) → p < m.count → q < m.count
    → ((Even m k p q → ⊥) → Distinguished m k p q) × (Distinguished m k p q → Even m k p q → ⊥)
