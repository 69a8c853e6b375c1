-- Quiet: a chart with its silent moves taken together.
-- Assumes nothing.
use Rattle.std.specs.Prelude.{◌≡◌, ℕ, zero, suc, ◌<◌, Bool, true, ◌&&◌, Decides}
use Rattle.closure.specs.Closure.{Reached, reaches}
use Rattle.charts.specs.Meaning.{Meaning, has_move, chart_of}
use Rattle.charts.specs.Search.{some_below}

-- p has a silent move to q
abbrev pub silent_move : Meaning → ℕ → ℕ → Bool
silent_move m p q = has_move m p 0 q

-- p reaches q quietly: a path of zero or more silent moves
abbrev pub QuietPath : Meaning → ℕ → ℕ → Type 0
QuietPath m p q = Reached m.count (silent_move m) p q

-- the same as a test
abbrev pub quietly : Meaning → ℕ → ℕ → Bool
quietly m p q = reaches m.count (silent_move m) p q

-- p moves by a to q in the quiet chart: silently where p reaches q quietly, and by a visible label where p quietly reaches some r,
-- r moves by it to some s, and s quietly reaches q
unfoldable pub quiet_move : Meaning → ℕ → ℕ → ℕ → Bool
quiet_move m p zero q = quietly m p q
quiet_move m p (suc a) q =
    some_below m.count (λ r. quietly m p r && some_below m.count (λ s. has_move m r (suc a) s && quietly m s q))

-- the quiet chart of a chart
unfoldable pub quiet : Meaning → Meaning
quiet m = chart_of m.count (quiet_move m)

-- the quiet chart has the same states
abbrev pub QuietKeepsTheStates : Type 0
QuietKeepsTheStates = (m : Meaning) → (quiet m).count ≡ m.count

-- label 0 of the quiet chart: exactly where a path of zero or more silent moves leads
abbrev pub SilentByQuietPaths : Type 0
SilentByQuietPaths = (m : Meaning) (p q : ℕ) → Decides (has_move (quiet m) p 0 q) (QuietPath m p q)

-- a visible label of the quiet chart: exactly where silent moves, a move by the label and silent moves lead
abbrev pub VisibleBetweenQuietPaths : Type 0
VisibleBetweenQuietPaths =
    (m : Meaning) (p a q : ℕ) → 0 < a
    → Decides (has_move (quiet m) p a q)
    ((r : ℕ) × (s : ℕ) × QuietPath m p r × (has_move m r a s ≡ true) × QuietPath m s q)

-- the quiet chart of a quiet chart is that chart
abbrev pub QuietOfQuiet : Type 0
QuietOfQuiet = (m : Meaning) → quiet (quiet m) ≡ quiet m
