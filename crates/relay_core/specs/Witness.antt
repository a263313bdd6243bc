-- A guarded box over requests of its owner and a crash: two are answered as served, a third is
-- served too before the crash, and the last one is denied.
use Rattle.std.specs.Prelude.{ℕ, true, List, [], ◌∷◌, replicate, Some}
use Rattle.dr_base.specs.declared.key.Key32.{Key32}
use Rattle.relay_core.specs.Boxes.{Box, empty_box}
use Rattle.relay_core.specs.Counters.{Passage, answers, cuts}
use Rattle.relay_core.specs.declared.spec.BoxSpec.{BoxSpec}
use Rattle.relay_guard.specs.Guards.{token_tag}
use Rattle.relay_wire.specs.Replies.{Replied, denied, empty}
use Rattle.relay_wire.specs.Requests.{Asked, fetches, plain_body}

abbrev pub key_of_all : ℕ → Key32
key_of_all byte = record { bytes = replicate 32 byte }

abbrev pub anna : List ℕ
anna = 97 ∷ []

abbrev pub annas_spec : BoxSpec
annas_spec = record {
  name = anna;
  keys = Some (record { owner = key_of_all 17; poster = key_of_all 34 });
}

abbrev pub annas_box : Box
annas_box = empty_box annas_spec

-- a fetch under a counter, rightly tagged
abbrev pub fetch_under : ℕ → Asked
fetch_under counter = record {
  name = anna;
  ask = fetches;
  token = Some (record {
    counter = counter;
    tag = token_tag (replicate 32 17) counter (plain_body anna fetches);
  });
}

abbrev pub answered : ℕ → Replied → Passage
answered counter reply = answers (record { asked = fetch_under counter; reply = reply })

abbrev pub annas_passages : List Passage
annas_passages =
    answered 1 empty ∷ cuts true (fetch_under 2) ∷ answered 3 empty ∷ answered 3 (denied 3 3) ∷ []

abbrev pub annas_counters : List ℕ
annas_counters = 1 ∷ 3 ∷ []
