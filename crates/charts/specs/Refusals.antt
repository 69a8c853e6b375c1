-- What a refusal tells whoever called: its number, and the values that go with it.
-- Assumes nothing.
use Rattle.std.specs.Prelude.{ℕ, List, [], Some, None, Ok, Err, Option, Result}
use Rattle.charts.specs.declared.refusal.Refusal.{Refusal}
use Rattle.charts.specs.declared.refusal.Refusal.TheVariants.{ImproperList}

-- a number of the table of refusals, and the values told with it
pub record Told : Type 0 where
  pub number : ℕ
  pub values : List ℕ

-- a number that is told with no values
abbrev pub bare : ℕ → Told
bare n = record { number = n; values = [] }

-- what each case of the enum stands for
abbrev pub told_by : Refusal → Told
told_by ImproperList = bare 20

-- what a call told, if it was refused; `tells` says what the cases of its refusals stand for
abbrev pub refusal_told : {X E : Type 0} → (E → Told) → Result X E → Option Told
refusal_told tells (Ok x) = None
refusal_told tells (Err e) = Some (tells e)

-- what a call answered, with its refusal told
abbrev pub answer_told : {X E : Type 0} → (E → Told) → Result X E → Result X Told
answer_told tells (Ok x) = Ok x
answer_told tells (Err e) = Err (tells e)
