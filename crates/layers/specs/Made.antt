-- The sheet that is made of given moves.
-- Assumes nothing.
use Rattle.std.specs.Prelude.{◌≡◌, ℕ, Bool}
use Rattle.layers.specs.Sheet.{sheet}
use Rattle.layers.specs.declared.sheet.Sheet.{Sheet}

-- the sheet has n states, and in it p moves by a to q exactly when f p a q
abbrev pub IsSheet : ℕ → (ℕ → ℕ → ℕ → Bool) → Sheet → Type 0
IsSheet n f s = (s.count ≡ n) × (s.words.items ≡ sheet n f)
