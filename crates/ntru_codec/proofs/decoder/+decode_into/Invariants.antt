use Rattle.std.proofs.Common.{length}
use Rattle.ntru_codec.proofs.decoder.+decode_into.Given as goal

abbrev pub decreases-decode_into : goal.decreases-decode_into
decreases-decode_into l = length l.limits.now
