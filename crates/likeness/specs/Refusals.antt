-- What the refusals of this crate's calls tell.
-- Assumes nothing.
use Rattle.charts.specs.Refusals.{Told, bare}
use Rattle.likeness.specs.declared.refusal.Refusal.{Refusal}
use Rattle.likeness.specs.declared.refusal.Refusal.TheVariants.{NoSuchState, ShortSheet, LimitTooSmall}

-- what each case of the enum stands for
abbrev pub told_by : Refusal → Told
told_by NoSuchState = bare 11
told_by ShortSheet = bare 12
told_by LimitTooSmall = bare 16
