-- What the attack test reads: a move sheet and a level sheet of so many states.
-- Assumes nothing.
use Rattle.std.specs.Prelude.{◌≡◌, ℕ, List, unwrap_or}
use Rattle.charts.specs.Meaning.{Meaning}
use Rattle.layers.specs.Sheet.{sheet_chart, value_at}
use Rattle.layers.specs.declared.sheet.LentSheet.{LentSheet}
use Rattle.likeness.specs.declared.sheets.Sheets.{Sheets}

-- the level of a pair of n states in a sheet, and 0 where either is no state
abbrev pub level_in : ℕ → List ℕ → ℕ → ℕ → ℕ
level_in n levels p q = unwrap_or (value_at n levels p q) 0

-- the chart whose words are in a move sheet
abbrev pub chart_in : LentSheet ℕ → Meaning
chart_in o = sheet_chart o.count o.values.now

-- and the chart of the move sheet beside a level sheet
abbrev pub chart_on : Sheets → Meaning
chart_on s = chart_in s.moves

-- the levels in the level sheet
abbrev pub levels_on : Sheets → ℕ → ℕ → ℕ
levels_on s = level_in s.moves.count s.levels.now

-- after a call the sheets are the same ones, whatever levels the level sheet holds
abbrev pub SameSheets : Sheets → Sheets → Type 0
SameSheets old new = (new.moves ≡ old.moves) × (new.levels.ghost_name ≡ old.levels.ghost_name)
