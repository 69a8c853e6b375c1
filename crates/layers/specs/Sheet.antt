-- Sheets of words: the moves among n states kept as a list of n × n words, the word from p to q at p × n + q.
-- Assumes nothing.
use Rattle.std.specs.Prelude.{ℕ, ◌+◌, ◌*◌, ◌/◌, ◌%◌, Bool, ◌&&◌, ◌||◌, if◌then◌else◌, List, map, None, Option, ◌==◌, nat_lt, slice_get, slice_index}
use Rattle.std.specs.List.{range_with_len}
use Rattle.words.specs.Bits.{bit, word_of}
use Rattle.closure.specs.Closure.{reaches}
use Rattle.charts.specs.Meaning.{Meaning, has_move, chart_of}
use Rattle.charts.specs.Search.{some_below}

-- the value of the pair in a sheet of n × n values, where both are states
abbrev pub value_at : {X : Type 0} → ℕ → List X → ℕ → ℕ → Option X
value_at n values p q = if nat_lt p n && nat_lt q n then slice_get values (p * n + q) else None

-- the word at place i of the sheet in which p moves by a to q exactly when f p a q
unfoldable pub cell : ℕ → (ℕ → ℕ → ℕ → Bool) → ℕ → ℕ
cell n f i = word_of (λ a. f (i / n) a (i % n))

-- the first k words of that sheet, and all of it
unfoldable pub cells : ℕ → (ℕ → ℕ → ℕ → Bool) → ℕ → List ℕ
cells n f k = map (cell n f) (range_with_len 0 k)

abbrev pub sheet : ℕ → (ℕ → ℕ → ℕ → Bool) → List ℕ
sheet n f = cells n f (n * n)

-- p moves by a to q in the sheet
unfoldable pub moves_in : ℕ → List ℕ → ℕ → ℕ → ℕ → Bool
moves_in n words p a q = bit (slice_index words (p * n + q)) a

-- the chart of a sheet
unfoldable pub sheet_chart : ℕ → List ℕ → Meaning
sheet_chart n words = chart_of n (moves_in n words)

-- the moves of a chart, and a silent move from each state to itself
unfoldable pub move_or_stay : Meaning → ℕ → ℕ → ℕ → Bool
move_or_stay m p a q = has_move m p a q || (a == 0 && p == q)

-- p has a silent move to q in the sheet
unfoldable pub silent_in : ℕ → List ℕ → ℕ → ℕ → Bool
silent_in n words p q = (nat_lt p n && nat_lt q n) && moves_in n words p 0 q

-- p reaches q by zero or more silent moves of the sheet; said at every label, so that a product with such a sheet goes along them
unfoldable pub reach_in : ℕ → List ℕ → ℕ → ℕ → ℕ → Bool
reach_in n words p a q = reaches n (silent_in n words) p q

-- p moves by a in the first sheet to some state, and this moves by a in the second to q
unfoldable pub product : ℕ → List ℕ → List ℕ → ℕ → ℕ → ℕ → Bool
product n first second p a q = some_below n (λ r. moves_in n first p a r && moves_in n second r a q)
