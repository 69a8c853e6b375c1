-- Sheets: a value for each pair of n states, the value of (p, q) at place p × n + q. A sheet is lent; it may be longer, and then keeps
-- its tail.
-- Assumes nothing.
use Rattle.std.specs.Prelude.{◌≡◌, ℕ, ◌+◌, ◌*◌, ◌/◌, ◌%◌, ◌<◌, List, ◌++◌, map, length, drop, slice_index}
use Rattle.std.specs.List.{range_with_len}
use Rattle.charts.specs.Meaning.{Meaning}
use Rattle.likeness.specs.Levels.{level_to}

-- the values f p q of the pairs of n states, in the order of their places
abbrev pub by_pairs : {X : Type 0} → ℕ → (ℕ → ℕ → X) → List X
by_pairs n f = map (λ i. f (i / n) (i % n)) (range_with_len 0 (n * n))

-- the value of a pair in a sheet of numbers
abbrev pub at_pair : ℕ → List ℕ → ℕ → ℕ → ℕ
at_pair n sheet p q = slice_index sheet (p * n + q)

-- what a lent sheet holds once values are written from its first place on: these, and then its tail as it was
unfoldable pub laid : {X : Type 0} → List X → List X → List X
laid values sheet = values ++ drop (length values) sheet

-- the move sheet of a chart: its words
abbrev pub move_sheet : Meaning → List ℕ
move_sheet m = by_pairs m.count m.word

-- the level sheet of a chart after r rounds: the levels up to r
abbrev pub level_sheet : Meaning → ℕ → List ℕ
level_sheet m r = by_pairs m.count (level_to m r)

-- the value of each pair stands at its place
abbrev pub PairsStandInPlace : Type 0
PairsStandInPlace = (n : ℕ) (f : ℕ → ℕ → ℕ) (p q : ℕ) → p < n → q < n → at_pair n (by_pairs n f) p q ≡ f p q
