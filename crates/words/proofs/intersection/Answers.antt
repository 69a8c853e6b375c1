use Rattle.std.proofs.Common.{rules}
use Rattle.words.proofs.Bits.{packed_is, bit-and}
use Rattle.words.proofs.intersection.Goals as goal

pub returns : goal.returns
returns c = record { value = packed_is 32 _ _ (search rules) (λ a _. bit-and c.args.v c.args.w a) }
