-- Chains: dialogues that go from each state to the next.
-- Assumes nothing.
use Rattle.std.specs.Prelude.{◌≡◌, ℕ, suc, ◌-◌, ◌<◌, List, map, Decides}
use Rattle.std.specs.List.{range_with_len}
use Rattle.charts.specs.MoveList.{move, listed}
use Rattle.charts.specs.declared.move_list.Move.{Move}

-- the moves of a chain of n states: by the label from the state before each state but 0 to that state
abbrev pub chain_of : ℕ → ℕ → List Move
chain_of n label = map (λ i. move (i - 1) label i) (range_with_len 1 (n - 1))

-- a chain moves by its label from each state to the next, up to the last state, and has no other move
abbrev pub ChainsMoveToTheNext : Type 0
ChainsMoveToTheNext =
    (n label p a q : ℕ) → Decides (listed (chain_of n label) p a q) ((a ≡ label) × (suc p ≡ q) × (q < n))
