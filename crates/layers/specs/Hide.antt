-- Hiding: a chart with the labels of a set made silent.
-- Assumes nothing.
use Rattle.std.specs.Prelude.{◌≡◌, ℕ, zero, suc, ◌<◌, Bool, true, false, not, ◌&&◌, ◌||◌, ◌⊎◌, Decides, nat_lt}
use Rattle.words.specs.Bits.{bit}
use Rattle.charts.specs.Meaning.{Meaning, has_move, chart_of}
use Rattle.charts.specs.Search.{some_below}

-- p has a move to q by some visible label of the set; label 0 is silent already, so in the set it means nothing
unfoldable pub hidden_move : ℕ → Meaning → ℕ → ℕ → Bool
hidden_move set m p q = some_below 32 (λ b. (nat_lt 0 b && bit set b) && has_move m p b q)

-- p moves by a to q once the set is hidden: silently where it moved silently or by a visible label of the set, and by a visible
-- label where it did so and the label is not in the set
unfoldable pub move_once_hidden : ℕ → Meaning → ℕ → ℕ → ℕ → Bool
move_once_hidden set m p zero q = has_move m p 0 q || hidden_move set m p q
move_once_hidden set m p (suc a) q = has_move m p (suc a) q && not (bit set (suc a))

-- the chart with the labels of the set hidden
unfoldable pub hide : ℕ → Meaning → Meaning
hide set m = chart_of m.count (move_once_hidden set m)

-- hiding keeps the states
abbrev pub HideKeepsTheStates : Type 0
HideKeepsTheStates = (set : ℕ) (m : Meaning) → (hide set m).count ≡ m.count

-- label 0 once the set is hidden: label 0 below, or a visible label of the set below
abbrev pub SilentOnceHidden : Type 0
SilentOnceHidden =
    (set : ℕ) (m : Meaning) (p q : ℕ)
    → Decides (has_move (hide set m) p 0 q)
    ((has_move m p 0 q ≡ true) ⊎ ((b : ℕ) × (0 < b) × (bit set b ≡ true) × (has_move m p b q ≡ true)))

-- a visible label once the set is hidden: the label below, where it is not in the set
abbrev pub VisibleOnceHidden : Type 0
VisibleOnceHidden =
    (set : ℕ) (m : Meaning) (p a q : ℕ) → 0 < a
    → Decides (has_move (hide set m) p a q) ((has_move m p a q ≡ true) × (bit set a ≡ false))
