use Rattle.std.proofs.Common.{◌≡◌, ◌*◌, length, get_or, replicate, ap, ◌∙◌}
use Rattle.std.proofs.lemmas.List.{length-replicate, get_or-replicate, length-take-le}
use Rattle.likeness.proofs.Laying.{laid_over}
use Rattle.likeness.proofs.sheets.Sheets.clear.Goals as goal

pub returns-clause-levels_after : goal.returns-clause-levels_after
returns-clause-levels_after c =
    let s = c.args.self.now in
    let n = s.moves.count in
    let zeros : c.fill.new.self ≡ replicate (n * n) 0 =
    c.fill.ensures.after (λ y is. is) ∙ ap (λ k. replicate k 0) (length-take-le (n * n) s.levels.now s.levels_suffice) in
    laid_over n (λ _ _. 0) s.levels.now c.fill.new.self
    (ap length zeros ∙ length-replicate (n * n) 0)
    (λ k h. ap (λ xs. get_or xs k 0) zeros ∙ get_or-replicate (n * n) k 0 0 h)
