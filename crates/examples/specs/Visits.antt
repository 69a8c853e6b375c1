-- A sameness that is coarser than equality.
-- Assumes nothing.
use Rattle.std.specs.Prelude.{Bool, ◌==◌, refl}
use Rattle.std.proofs.Common.{sym, ◌∙◌}
use Rattle.std.proofs.lemmas.Bool.Decides.{Decides-eqb}
use Rattle.charts.specs.Search.{Equivalence}
use Rattle.examples.specs.declared.visits.Visit.{Visit}

-- two visits of one volunteer, whenever they were
abbrev pub same_volunteer : Visit → Visit → Bool
same_volunteer x y = x.volunteer == y.volunteer

pub by_volunteer : Equivalence same_volunteer
by_volunteer = record {
  reflexive = λ x. (Decides-eqb x.volunteer x.volunteer).1 refl;
  symmetric = λ x y e. (Decides-eqb y.volunteer x.volunteer).1 (sym ((Decides-eqb x.volunteer y.volunteer).0 e));
  transitive = λ x y z e f. (Decides-eqb x.volunteer z.volunteer).1 ((Decides-eqb x.volunteer y.volunteer).0 e ∙ (Decides-eqb y.volunteer z.volunteer).0 f);
}
