use Rattle.std.proofs.Common.{◌≡◌, ℕ, List, ◌++◌, length, refl, ap, ◌∙◌}
use Rattle.std.specs.Prelude.{codes, decimal}
use Rattle.std.proofs.Output.{has_written_of_eq, has_written_append}
use Rattle.std.proofs.lemmas.List.{append_assoc}
use Rattle.charts.specs.MoveList.{faulty}
use Rattle.dialogues.specs.Checked.{size_text, size_line, verdict_text}
use Rattle.dialogues.proofs.checked.CheckedDisplay.fmt.Goals as goal

-- six texts in a row, and one behind them
six_and_one : (a b c d e f z : List ℕ) → (a ++ (b ++ (c ++ (d ++ (e ++ f))))) ++ z ≡ a ++ (b ++ (c ++ (d ++ (e ++ (f ++ z)))))
six_and_one a b c d e f z =
    append_assoc a (b ++ (c ++ (d ++ (e ++ f)))) z
    ∙ ap (λ t. a ++ t) (append_assoc b (c ++ (d ++ (e ++ f))) z
    ∙ ap (λ t. b ++ t) (append_assoc c (d ++ (e ++ f)) z
    ∙ ap (λ t. c ++ t) (append_assoc d (e ++ f) z
    ∙ ap (λ t. d ++ t) (append_assoc e f z))))

pub returns-clause-writes : goal.returns-clause-writes
returns-clause-writes g c p k =
    let told = c.args.self.now in
    let size = c.in_ok-writeln.ensures.writes p refl in
    let line : size_line told ++ codes "\n" ≡ size_text told =
    six_and_one told.title.now (codes ": a list of ") (decimal told.list.count) (codes " states and ") (decimal (length told.list.moves.now))
    (codes " moves.") (codes "\n") in
    has_written_of_eq _ _ _ _ _ (ap (λ t. t ++ verdict_text (faulty told.list.count told.list.moves.now)) line)
    (has_written_append _ _ _ _ _ _ size (c.write.ensures.writes size.plain k))
