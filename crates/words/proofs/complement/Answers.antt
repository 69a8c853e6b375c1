use Rattle.std.proofs.Common.{arith}
use Rattle.words.proofs.Bits.{packed_is, bit-not}
use Rattle.words.proofs.complement.Goals as goal

pub returns : goal.returns
returns c = record { value = packed_is 32 _ _ (omega arith) (λ a h. bit-not 32 c.args.w a (omega arith) h) }
