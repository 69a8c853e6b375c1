-- Move lists: what a fault is, when a list is refused, and the chart of a list.
-- Assumes nothing.
use Rattle.std.specs.Prelude.{◌≡◌, ℕ, ◌<◌, ◌≤◌, Bool, false, cond, ◌&&◌, ◌||◌, ◌⊎◌, List, [], ◌∷◌, length, Some, None, Decides, Option, ◌==◌, nat_le, nat_lt, slice_index_or}
use Rattle.std.proofs.Common.{ap}
use Rattle.std.proofs.lemmas.Bool.Decides.{Decides-like, Decides-and, Decides-eqb}
use Rattle.std.specs.List.{ContainsAt, list_any}
use Rattle.charts.specs.Meaning.{Meaning, has_move, chart_of}
use Rattle.charts.specs.Refusals.{Told, bare}
use Rattle.charts.specs.declared.move_list.Move.{Move}
use Rattle.charts.specs.declared.move_list.ListChart.{ListChart}

-- the move from p by a to q
abbrev pub move : ℕ → ℕ → ℕ → Move
move p a q = record { from = p; label = a; to = q }

-- all fields equal
unfoldable pub same_move : Move → Move → Bool
same_move x y = x.from == y.from && (x.label == y.label && x.to == y.to)

-- two moves are the same exactly when they are equal
pub same_decides : (x y : Move) → Decides (same_move x y) (x ≡ y)
unfolding same_move
same_decides x y =
    Decides-like (same_move x y)
    (λ p i. record { from = p.0 i; label = p.1.0 i; to = p.1.1 i })
    (λ e. (ap (λ (m : Move). m.from) e, (ap (λ (m : Move). m.label) e, ap (λ (m : Move). m.to) e)))
    (Decides-and _ _ (Decides-eqb x.from y.from) (Decides-and _ _ (Decides-eqb x.label y.label) (Decides-eqb x.to y.to)))

-- a move with a state that is not below the count, or with a label over 31
unfoldable pub bad_move : ℕ → Move → Bool
bad_move count m = (nat_le count m.from || nat_le count m.to) || nat_lt 31 m.label

-- some move of the list stands in it twice
abbrev pub repeats : List Move → Bool
repeats [] = false
repeats (m ∷ ms) = list_any (same_move m) ms || repeats ms

-- the list has over 128 states, a bad move or a repeated one
unfoldable pub faulty : ℕ → List Move → Bool
faulty count moves = nat_lt 128 count || (list_any (bad_move count) moves || repeats moves)

-- two places of the list hold the same move
abbrev pub Repeated : List Move → Type 0
Repeated moves = (i : ℕ) × (j : ℕ) × (i < j) × (j < length moves) × ((d : Move) → slice_index_or moves i d ≡ slice_index_or moves j d)

-- what can be wrong with a list of moves over so many states
pub data Fault (count : ℕ) (moves : List Move) : Type 0 where
  too_many_states : 128 < count → Fault count moves
  state_outside : (m : Move) → ContainsAt moves m → (count ≤ m.from) ⊎ (count ≤ m.to) → Fault count moves
  label_over_31 : (m : Move) → ContainsAt moves m → 31 < m.label → Fault count moves
  repeated_move : Repeated moves → Fault count moves

-- what the check of a list tells, if it refuses the list
abbrev pub list_refusal : ℕ → List Move → Option Told
list_refusal count moves = cond (faulty count moves) (Some (bare 20)) None

-- the move stands in the list
abbrev pub listed : List Move → ℕ → ℕ → ℕ → Bool
listed moves p a q = list_any (same_move (move p a q)) moves

-- the chart of a list: its states and its moves, and no states where the list is refused
abbrev pub list_chart : ℕ → List Move → Meaning
list_chart count moves = chart_of (cond (faulty count moves) 0 count) (listed moves)

-- the chart that a list chart stands for
abbrev pub stands_for : ListChart → Meaning
stands_for c = chart_of c.list.count (listed c.list.moves.now)

-- a chart has exactly the moves of a list that is not refused
abbrev pub MovesAsListed : Meaning → ℕ → List Move → Type 0
MovesAsListed m count moves =
    faulty count moves ≡ false → (p a q : ℕ) → Decides (has_move m p a q) (ContainsAt moves (move p a q))
