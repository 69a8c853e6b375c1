-- Acts: which label stands for each one, and its name.
-- Assumes nothing.
use Rattle.std.specs.Prelude.{◌≡◌, ℕ, ◌<◌, List, Result, MatchResult, codes}
use Rattle.dialogues.specs.declared.act.Act.{Act}
use Rattle.dialogues.specs.declared.act.Act.TheVariants.{Tau, Scan, Chill, Shelf, Check, Key}
use Rattle.dialogues.specs.declared.act.UnknownLabel.{UnknownLabel}

-- the label that stands for an act
abbrev pub label_of : Act → ℕ
label_of Tau = 0
label_of Scan = 1
label_of Chill = 2
label_of Shelf = 3
label_of Check = 4
label_of Key = 5

-- the name of an act, as text
abbrev pub name_of : Act → List ℕ
name_of Tau = codes "tau"
name_of Scan = codes "scan"
name_of Chill = codes "chill"
name_of Shelf = codes "shelf"
name_of Check = codes "check"
name_of Key = codes "key"

-- the result is the act with this label, or an error with a label that no act has
abbrev pub IsActOf : ℕ → Result Act UnknownLabel → Type 0
IsActOf label r = MatchResult r (λ act. label_of act ≡ label) (λ e. (e.0 ≡ label) × (5 < label))
