-- Settling a pair of states: how many rounds it takes, what is answered, and what the lent sheets hold afterwards.
-- Assumes nothing.
use Rattle.std.specs.Prelude.{◌≡◌, ℕ, suc, ◌*◌, ◌<◌, ◌≤◌, min, Bool, cond, ◌&&◌, List, length, Some, None, Ok, Err, Option, Result, nat_le, nat_lt}
use Rattle.charts.specs.Meaning.{Meaning}
use Rattle.charts.specs.Refusals.{Told, bare}
use Rattle.likeness.specs.Bisimulation.{Alike}
use Rattle.likeness.specs.Levels.{level, closing_depth}
use Rattle.likeness.specs.Formula.{Distinguished}
use Rattle.likeness.specs.Sheet.{laid, move_sheet, level_sheet}

-- the rounds that settle a pair: its level, or the closing depth plus one where it has none
unfoldable pub rounds_needed : Meaning → ℕ → ℕ → ℕ
rounds_needed m p q = let all = suc (closing_depth m) in cond (nat_lt 0 (level m p q)) (level m p q) all

-- no pair of states takes more rounds than there are states
abbrev pub RoundsAreAtMostTheCount : Type 0
RoundsAreAtMostTheCount = (m : Meaning) (p q : ℕ) → p < m.count → q < m.count → rounds_needed m p q ≤ m.count

-- what is answered with states and sheets that suffice: depth and rounds, or that the limit is too small
abbrev pub settled_answer : Meaning → ℕ → ℕ → ℕ → Result (ℕ × ℕ) Told
settled_answer m p q limit = cond (nat_lt limit (rounds_needed m p q)) (Err (bare 16)) (Ok (level m p q, rounds_needed m p q))

-- a sheet has a place for each pair of states
abbrev pub suffices : Meaning → List ℕ → Bool
suffices m sheet = nat_le (m.count * m.count) (length sheet)

-- filling a move sheet: whether it is refused, and what the sheet holds afterwards
abbrev pub filling_refused : Meaning → List ℕ → Option Told
filling_refused m moves = cond (suffices m moves) None (Some (bare 12))

abbrev pub filled : Meaning → List ℕ → List ℕ
filled m moves = cond (suffices m moves) (laid (move_sheet m) moves) moves

-- what is refused before anything is written: a state that is not below the count, then a sheet that is too short
unfoldable pub refused_at_once : Meaning → ℕ → ℕ → List ℕ → List ℕ → Option Told
refused_at_once m p q moves levels =
    cond (nat_lt p m.count && nat_lt q m.count) (cond (suffices m moves && suffices m levels) None (Some (bare 12))) (Some (bare 11))

-- what a call to settle answers, depth and rounds or a refusal, and what the move sheet and the level sheet hold afterwards
pub record Settled : Type 0 where
  pub answer : Result (ℕ × ℕ) Told
  pub moves : List ℕ
  pub levels : List ℕ

-- with states and sheets that suffice: the rounds run until the pair is settled or the limit is reached
abbrev pub settled_within : Meaning → ℕ → ℕ → ℕ → List ℕ → List ℕ → Settled
settled_within m p q limit moves levels = record {
  answer = settled_answer m p q limit;
  moves = laid (move_sheet m) moves;
  levels = laid (level_sheet m (min limit (rounds_needed m p q))) levels;
}

abbrev pub settled_or : Option Told → Meaning → ℕ → ℕ → ℕ → List ℕ → List ℕ → Settled
settled_or None m p q limit moves levels = settled_within m p q limit moves levels
settled_or (Some told) m p q limit moves levels = record { answer = Err told; moves = moves; levels = levels }

-- settling p and q under a limit of rounds, with the two sheets as they are lent
abbrev pub settling : Meaning → ℕ → ℕ → ℕ → List ℕ → List ℕ → Settled
settling m p q limit moves levels = settled_or (refused_at_once m p q moves levels) m p q limit moves levels

-- What an answer says of the two states, in the words of likeness: at depth 0 some bisimulation holds them; at any other depth no
-- bisimulation does, a formula of at most that depth distinguishes them, and none of less depth does. A refusal says nothing of them.
abbrev pub Verdict : Meaning → ℕ → ℕ → Result (ℕ × ℕ) Told → Type 0
Verdict m p q (Err told) = Unit {0}
Verdict m p q (Ok answer) =
    (answer.0 ≡ 0 → Alike m p q)
    × (0 < answer.0 → (Alike m p q → ⊥) × Distinguished m answer.0 p q × ((k : ℕ) → k < answer.0 → Distinguished m k p q → ⊥))

-- what settling answers is true
abbrev pub VerdictsAreTrue : Type 0
VerdictsAreTrue =
    (m : Meaning) (p q limit : ℕ) (moves levels : List ℕ) → Verdict m p q (settling m p q limit moves levels).answer
