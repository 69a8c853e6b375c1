-- What is told of a list and its check.
-- Assumes nothing.
use Rattle.std.specs.Prelude.{ℕ, Bool, List, ◌++◌, length, cond, codes, decimal}
use Rattle.charts.specs.MoveList.{faulty}
use Rattle.dialogues.specs.declared.checked.Checked.{Checked}

-- the title, the count of states and how many moves there are
abbrev pub size_text : Checked → List ℕ
size_text c =
    c.title.now ++ (codes ": a list of " ++ (decimal c.list.count ++ (codes " states and " ++ (decimal (length c.list.moves.now) ++ codes " moves.\n"))))

-- the same without the end of the line
abbrev pub size_line : Checked → List ℕ
size_line c =
    c.title.now ++ (codes ": a list of " ++ (decimal c.list.count ++ (codes " states and " ++ (decimal (length c.list.moves.now) ++ codes " moves."))))

-- what becomes of the list
abbrev pub verdict_text : Bool → List ℕ
verdict_text faulty = cond faulty (codes "  The list is refused, number " ++ (decimal 20 ++ codes ".")) (codes "  The list is accepted.")

-- the text of a checked list
abbrev pub text_of : Checked → List ℕ
text_of c = size_text c ++ verdict_text (faulty c.list.count c.list.moves.now)
