use Rattle.ntru_codec.proofs.Limits.{pair-limit, last-limit}
use Rattle.ntru_codec.proofs.Undo.{decoded-encoded, decoded-below, length-encoded}
use Rattle.ntru_codec.proofs.SmallLaws.{small_decoded-encoded, encoded-good, small_decoded-within, small_encoded-decoded, length-small_encoded, length-small_decoded, bytes-fit}
use Rattle.ntru_codec.proofs.Raised.{rounded-multiples}
use Rattle.ntru_codec.proofs.ElementLaws.{rq_decoded-encoded, rounded_decoded-encoded, length-rq_encoded, length-rounded_encoded, length-rq_decoded, rq_decoded-within, length-rounded_decoded, rounded_decoded-within}
use Rattle.ntru_codec.proofs.theory.laws.Goals as goal

pub returns-clause-undone : goal.returns-clause-undone
returns-clause-undone c = decoded-encoded

pub returns-clause-small_undone : goal.returns-clause-small_undone
returns-clause-small_undone c = small_decoded-encoded

pub returns-clause-rq_undone : goal.returns-clause-rq_undone
returns-clause-rq_undone c = rq_decoded-encoded

pub returns-clause-rounded_undone : goal.returns-clause-rounded_undone
returns-clause-rounded_undone c = rounded_decoded-encoded

pub returns-clause-small_good : goal.returns-clause-small_good
returns-clause-small_good c = encoded-good

pub returns-clause-small_within : goal.returns-clause-small_within
returns-clause-small_within c = small_decoded-within

pub returns-clause-small_again : goal.returns-clause-small_again
returns-clause-small_again c = λ bytes long fits good. small_encoded-decoded bytes long (bytes-fit bytes fits) good

pub returns-clause-size : goal.returns-clause-size
returns-clause-size c = length-encoded

pub returns-clause-small_size : goal.returns-clause-small_size
returns-clause-small_size c = length-small_encoded

pub returns-clause-rq_size : goal.returns-clause-rq_size
returns-clause-rq_size c = length-rq_encoded

pub returns-clause-rounded_size : goal.returns-clause-rounded_size
returns-clause-rounded_size c = length-rounded_encoded

pub returns-clause-below : goal.returns-clause-below
returns-clause-below c = decoded-below

pub returns-clause-rounded : goal.returns-clause-rounded
returns-clause-rounded c = rounded-multiples

pub returns-clause-pairs_end : goal.returns-clause-pairs_end
returns-clause-pairs_end c = pair-limit

pub returns-clause-singles_end : goal.returns-clause-singles_end
returns-clause-singles_end c = λ m h. last-limit m h.positive h.small

pub returns-clause-small_length : goal.returns-clause-small_length
returns-clause-small_length c = length-small_decoded

pub returns-clause-rq_length : goal.returns-clause-rq_length
returns-clause-rq_length c = length-rq_decoded

pub returns-clause-rq_within : goal.returns-clause-rq_within
returns-clause-rq_within c = rq_decoded-within

pub returns-clause-rounded_length : goal.returns-clause-rounded_length
returns-clause-rounded_length c = length-rounded_decoded

pub returns-clause-rounded_within : goal.returns-clause-rounded_within
returns-clause-rounded_within c = rounded_decoded-within
