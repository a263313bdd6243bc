use Rattle.slot_store.proofs.Places.Wider.{holds_wider, none_wider, stored_wider}
use Rattle.slot_store.proofs.laws.widening.Goals as goal

pub returns : goal.returns
returns c = record {
  record_of = λ area wider c more text is inside. stored_wider area wider is c more inside text;
  content = λ fault_at area wider c more text is inside. holds_wider area wider is c more inside fault_at text;
  none = λ fault_at area wider c more is inside. none_wider area wider is c more inside fault_at;
}
