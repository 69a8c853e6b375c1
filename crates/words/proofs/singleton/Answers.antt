use Rattle.std.proofs.Common.{◌^◌, ◌∙◌, arith}
use Rattle.std.proofs.lemmas.Nat.{one_shl, pow_below}
use Rattle.words.proofs.Bits.{packed_is, bit-pow}
use Rattle.words.proofs.singleton.Goals as goal

pub returns-then-label-lt32-clause-value : goal.returns-then-label-lt32-clause-value
returns-then-label-lt32-clause-value c =
    one_shl c.args.label 32 (omega arith)
    ∙ packed_is 32 (2 ^ c.args.label) _ (pow_below c.args.label 32 (omega arith)) (λ a _. bit-pow c.args.label a)
