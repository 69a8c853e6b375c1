use Rattle.std.proofs.Common.{◌≡◌, take}
use Rattle.words.specs.Bits.{word_of}
use Rattle.charts.specs.MoveList.{listed}
use Rattle.charts.proofs.move_list.charts.labels_between.Given as goal

-- the word of the moves so far
abbrev pub invariant-loop-m : goal.invariant-loop-m
invariant-loop-m l = l.word ≡ word_of (λ a. listed (take l.m-index l.moves) l.p a l.q)
