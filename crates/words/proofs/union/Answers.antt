use Rattle.std.proofs.Common.{arith}
use Rattle.std.proofs.lemmas.Nat.{or_lt}
use Rattle.words.proofs.Bits.{packed_is, bit-or}
use Rattle.words.proofs.union.Goals as goal

pub returns : goal.returns
returns c = record {
  value = packed_is 32 _ _ (or_lt 32 c.args.v c.args.w (omega arith) (omega arith)) (λ a _. bit-or c.args.v c.args.w a);
}
