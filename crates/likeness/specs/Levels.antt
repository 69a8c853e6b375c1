-- Evenness to a depth, the level of a pair of states, and the closing depth of a chart.
-- Assumes nothing.
use Rattle.std.specs.Prelude.{◌≡◌, ℕ, zero, suc, ◌*◌, ◌/◌, ◌%◌, ◌<◌, ◌≤◌, Bool, true, cond, not, ◌&&◌, ◌⊎◌, Decides, nat_le, nat_lt}
use Rattle.charts.specs.Meaning.{Meaning, has_move}
use Rattle.charts.specs.Search.{some_below}
use Rattle.likeness.specs.Bisimulation.{Matched, Bisimulation, In, Alike}

-- p and q are even to depth k: always to depth 0, and to depth k + 1 when every move of either is answered by the other, with the same
-- label, reaching a pair that is even to depth k
abbrev pub Even : Meaning → ℕ → ℕ → ℕ → Type 0
Even m zero p q = Unit {0}
Even m (suc k) p q = Matched m m (Even m k) p q

-- l is the level of the pair: 0 where it is even to every depth, else the least depth to which it is not even
abbrev pub IsLevel : Meaning → ℕ → ℕ → ℕ → Type 0
IsLevel m p q l = ((l ≡ 0) × ((k : ℕ) → Even m k p q)) ⊎ ((Even m l p q → ⊥) × ((k : ℕ) → k < l → Even m k p q))

-- the pairs of states that are even to depth k and to depth k + 1 are the same
abbrev pub Closed : Meaning → ℕ → Type 0
Closed m k = (p q : ℕ) → p < m.count → q < m.count → (Even m k p q → Even m (suc k) p q) × (Even m (suc k) p q → Even m k p q)

-- h is the closing depth of the chart: the least depth k at which the pairs even to k and to k + 1 are the same
abbrev pub IsClosingDepth : Meaning → ℕ → Type 0
IsClosingDepth m h = Closed m h × ((k : ℕ) → k < h → Closed m k → ⊥)

-- Tests that compute the same. In each, `let` holds back what need not be computed.

-- some move of p is not answered by a move of q that reaches a pair in the relation
unfoldable pub unanswered : Meaning → (ℕ → ℕ → Bool) → ℕ → ℕ → Bool
unanswered m rel p q =
    some_below 32 (λ a. some_below m.count (λ t.
    let free = not (some_below m.count (λ u. let fits = rel t u in has_move m q a u && fits)) in has_move m p a t && free))

-- p and q are even to depth k
unfoldable pub even : Meaning → ℕ → ℕ → ℕ → Bool
even m zero p q = true
even m (suc k) p q = not (unanswered m (even m k) p q) && not (unanswered m (λ u t. even m k t u) q p)

-- p and q are states, even to depth k
unfoldable pub even_states : Meaning → ℕ → ℕ → ℕ → Bool
even_states m k p q = (nat_lt p m.count && nat_lt q m.count) && even m k p q

-- the least number below n that passes the test, or n where none does
unfoldable pub first_below : ℕ → (ℕ → Bool) → ℕ
first_below zero test = 0
first_below (suc n) test = let later = suc (first_below n (λ k. test (suc k))) in cond (test 0) 0 later

-- the level of a pair of states; that no level passes the states' number is shown
unfoldable pub level : Meaning → ℕ → ℕ → ℕ
level m p q = let l = first_below m.count (λ k. not (even m k p q)) in cond (nat_lt l m.count) l 0

-- the level where it is at most r, else 0
unfoldable pub level_to : Meaning → ℕ → ℕ → ℕ → ℕ
level_to m r p q = cond (nat_le (level m p q) r) (level m p q) 0

-- the pair has level k + 1: it is even to depth k and not to depth k + 1
unfoldable pub has_level_after : Meaning → ℕ → ℕ → ℕ → Bool
has_level_after m k p q = even m k p q && not (even m (suc k) p q)

-- some pair of states, by its place p × count + q, has level k + 1
unfoldable pub some_level_after : Meaning → ℕ → Bool
some_level_after m k = some_below (m.count * m.count) (λ i. has_level_after m k (i / m.count) (i % m.count))

-- the closing depth
unfoldable pub closing_depth : Meaning → ℕ
closing_depth m = first_below m.count (λ k. not (some_level_after m k))

-- What is shown of them.

-- the test tells evenness
abbrev pub EvenIsTold : Type 0
EvenIsTold = (m : Meaning) (k p q : ℕ) → Decides (even m k p q) (Even m k p q)

-- evenness to each depth is an equivalence
abbrev pub EvenIsAnEquivalence : Type 0
EvenIsAnEquivalence =
    (m : Meaning) (k : ℕ)
    → ((p : ℕ) → Even m k p p) × ((p q : ℕ) → Even m k p q → Even m k q p) × ((p q r : ℕ) → Even m k p q → Even m k q r → Even m k p r)

-- what is even to a depth is even to each smaller one
abbrev pub EvenShrinks : Type 0
EvenShrinks = (m : Meaning) (j k p q : ℕ) → j ≤ k → Even m k p q → Even m j p q

-- where the pairs even to k and to k + 1 are the same, so are those even to every later depth
abbrev pub ClosedForGood : Type 0
ClosedForGood =
    (m : Meaning) (k : ℕ) → Closed m k → (j : ℕ) → k ≤ j → (p q : ℕ) → p < m.count → q < m.count
    → (Even m k p q → Even m j p q) × (Even m j p q → Even m k p q)

-- and the pairs of states that are even to k are a bisimulation
abbrev pub ClosedIsABisimulation : Type 0
ClosedIsABisimulation = (m : Meaning) (k : ℕ) → Closed m k → Bisimulation m (even_states m k)

-- every bisimulation lies within every evenness
abbrev pub BisimulationsAreEven : Type 0
BisimulationsAreEven = (m : Meaning) (S : ℕ → ℕ → Bool) → Bisimulation m S → (p q : ℕ) → In S p q → (k : ℕ) → Even m k p q

-- the level and the closing depth are what they are to be
abbrev pub LevelIsTold : Type 0
LevelIsTold = (m : Meaning) (p q : ℕ) → p < m.count → q < m.count → IsLevel m p q (level m p q)

abbrev pub ClosingDepthIsTold : Type 0
ClosingDepthIsTold = (m : Meaning) → IsClosingDepth m (closing_depth m)

-- with n states, at least one, both are at most n - 1
abbrev pub LevelsAreBelowTheCount : Type 0
LevelsAreBelowTheCount = (m : Meaning) (p q l : ℕ) → p < m.count → q < m.count → IsLevel m p q l → l < m.count

abbrev pub ClosingDepthIsBelowTheCount : Type 0
ClosingDepthIsBelowTheCount = (m : Meaning) (h : ℕ) → 0 < m.count → IsClosingDepth m h → h < m.count

-- two states are alike exactly when their level is 0
abbrev pub AlikeAtLevel0 : Type 0
AlikeAtLevel0 =
    (m : Meaning) (p q : ℕ) → p < m.count → q < m.count
    → (Alike m p q → level m p q ≡ 0) × (level m p q ≡ 0 → Alike m p q)
