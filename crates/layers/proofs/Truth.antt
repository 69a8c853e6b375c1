-- Tests joined by and and or. Assumes nothing.
use Rattle.std.proofs.Common.{◌≡◌, Bool, true, false, ◌&&◌, ◌||◌, sym, ap, ◌∙◌}
use mathlib.Core.Bool.{and-true, and-false, or-false}

-- what holds takes nothing away
pub and_no_less : (y z : Bool) → z ≡ true → y ≡ (y && z)
and_no_less y z all = sym (ap (λ b. y && b) all ∙ and-true y)

-- what fails adds nothing
pub or_no_more : (x y z : Bool) → z ≡ false → x ≡ (x || (y && z))
or_no_more x y z none = sym (or-false x) ∙ ap (λ b. x || b) (sym (ap (λ b. y && b) none ∙ and-false y))
