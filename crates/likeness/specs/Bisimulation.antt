-- Bisimulations: when two states of a chart are alike, strongly and weakly.
-- Assumes nothing.
use Rattle.std.specs.Prelude.{◌≡◌, ℕ, ◌<◌, Bool, true}
use Rattle.charts.specs.Meaning.{Meaning, has_move}
use Rattle.layers.specs.Quiet.{quiet}

-- each move of p in the chart m, by a label a to some t, is answered by a move of q in the chart o, by a to some u with R t u
abbrev pub Answered : Meaning → Meaning → (ℕ → ℕ → Type 0) → ℕ → ℕ → Type 0
Answered m o R p q = (a t : ℕ) → has_move m p a t ≡ true → (u : ℕ) × (has_move o q a u ≡ true) × R t u

-- each move of either is answered by the other; the pair reached is always told with the first state's target first
abbrev pub Matched : Meaning → Meaning → (ℕ → ℕ → Type 0) → ℕ → ℕ → Type 0
Matched m o R p q = Answered m o R p q × Answered m o (λ u t. R t u) q p

-- the pair is in the set
abbrev pub In : (ℕ → ℕ → Bool) → ℕ → ℕ → Type 0
In S p q = S p q ≡ true

-- A bisimulation: a set of pairs of states in which, for each pair, every move of either state is answered by the other, with the
-- same label, reaching a pair of the set.
pub record Bisimulation (m : Meaning) (S : ℕ → ℕ → Bool) : Type 0 where
  pub of_states : (p q : ℕ) → In S p q → (p < m.count) × (q < m.count)
  pub matched : (p q : ℕ) → In S p q → Matched m m (In S) p q

-- A weak bisimulation: the answer is a move of the quiet chart.
pub record WeakBisimulation (m : Meaning) (S : ℕ → ℕ → Bool) : Type 0 where
  pub of_states : (p q : ℕ) → In S p q → (p < m.count) × (q < m.count)
  pub matched : (p q : ℕ) → In S p q → Matched m (quiet m) (In S) p q

-- two states are alike: some bisimulation holds them
abbrev pub Alike : Meaning → ℕ → ℕ → Type 0
Alike m p q = (S : ℕ → ℕ → Bool) × Bisimulation m S × In S p q

-- a set is a weak bisimulation of a chart exactly when it is a bisimulation of its quiet chart
abbrev pub WeakIsStrongWhenQuiet : Type 0
WeakIsStrongWhenQuiet =
    (m : Meaning) (S : ℕ → ℕ → Bool)
    → (WeakBisimulation m S → Bisimulation (quiet m) S) × (Bisimulation (quiet m) S → WeakBisimulation m S)
