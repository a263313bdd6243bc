use Rattle.std.proofs.Common.{length}
use Rattle.ntru_codec.proofs.encoder.+encode.Given as goal

abbrev pub decreases-encode : goal.decreases-encode
decreases-encode l = length l.limits.now
