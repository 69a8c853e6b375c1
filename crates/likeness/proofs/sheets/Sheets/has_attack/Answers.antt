use Rattle.std.proofs.Common.{inr, ⊎_elim, rules}
use Rattle.std.proofs.lemmas.Bool.{cases_Bool}
use Rattle.likeness.specs.Reading.{chart_on}
use Rattle.likeness.proofs.Attacks.{attack_unanswered}
use Rattle.likeness.proofs.Nest.{attack_so}
use Rattle.likeness.proofs.sheets.Sheets.has_attack.Goals as goal

pub returns-else-attacks : goal.returns-else-attacks
returns-else-attacks c =
    let m = chart_on c.args.self.now in
    record {
      tells = (
        λ e. inr (attack_so m c.args.q c.args.p (λ u t low. search rules) (c.attacks-else-attacks.ensures.attack e)),
        ⊎_elim
            (λ left. absurd (attack_unanswered m _ _ c.args.p c.args.q (λ t u _ _ low off. search rules) left (c.attacks.ensures.no_attack c.if-attacks.false)))
            (λ right. ⊎_elim
            (λ e. e)
            (λ e. absurd (attack_unanswered m _ _ c.args.q c.args.p (λ u t _ _ low off. search rules) right (c.attacks-else-attacks.ensures.no_attack e)))
            (cases_Bool c.attacks-else-attacks.result)),
      );
    }
