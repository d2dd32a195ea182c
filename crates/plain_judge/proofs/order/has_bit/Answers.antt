use Rattle.std.proofs.Common.{ℕ, ◌==◌, ap, sym, ◌∙◌, arith}
use Rattle.std.proofs.lemmas.Bool.{le-ltb}
use Rattle.std.proofs.lemmas.Nat.Bits.{shr_and_one, bit_at_above}
use Rattle.plain_judge.proofs.order.has_bit.Goals as goal

pub returns-then-bit-lt32 : goal.returns-then-bit-lt32
returns-then-bit-lt32 c = ap (λ (b : ℕ). b == 1) (shr_and_one c.args.place c.args.bit)

pub returns-else-bit-lt32 : goal.returns-else-bit-lt32
returns-else-bit-lt32 c = le-ltb c.args.bit 32 c.if-bit-lt32.false ∙ ap (λ (b : ℕ). b == 1) (sym (bit_at_above c.args.place 32 c.args.bit (omega arith) c.if-bit-lt32.false))
