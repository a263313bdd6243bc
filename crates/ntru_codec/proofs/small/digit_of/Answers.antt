use Rattle.std.proofs.Common.{ap, ◌/◌, ◌%◌}
use Rattle.ntru_codec.proofs.Digits.{power-four}
use Rattle.ntru_codec.proofs.small.digit_of.Goals as goal

pub returns : goal.returns
returns c = ap (λ n. c.args.byte / n % 4) (power-four c.args.place c.requires)
