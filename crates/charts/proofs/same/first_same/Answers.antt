use Rattle.std.proofs.Common.{◌≡◌, ◌∙◌, position, rules}
use Rattle.std.proofs.lemmas.Iterator.{YieldsList-from_slice}
use Rattle.std.proofs.lemmas.Iterator.Search.{position_from_yields_List}
use Rattle.charts.proofs.Places.{by_sameness}
use Rattle.charts.proofs.same.first_same.Goals as goal

pub returns-clause-by_sameness_alone : goal.returns-clause-by_sameness_alone
returns-clause-by_sameness_alone g c = λ y e.
    let xs = c.args.records.now in
    let w = c.args.wanted.now in
    let value : c.position.result ≡ position (λ x. g.T.Same.same x w) xs =
    position_from_yields_List (λ x. g.T.Same.same x w) _ _ _ c.position.ensures.ran (YieldsList-from_slice xs cc) (λ x b q call. (search rules, search rules)) in
    value ∙ by_sameness g.T.Same.same g.T.Same.lawful xs w y e
