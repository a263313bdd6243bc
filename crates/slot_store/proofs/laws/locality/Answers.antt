use Rattle.slot_store.specs.Layout.{laid}
use Rattle.slot_store.specs.Store.{Rests}
use Rattle.slot_store.proofs.Places.WithinArea.{reading_same, recovered_same, rests_same}
use Rattle.slot_store.proofs.Named.{laid_entries}
use Rattle.slot_store.proofs.laws.locality.Goals as goal

pub returns : goal.returns
unfolding Rests
returns c = record {
  record_of = recovered_same;
  rests = λ store c d same rests. (
    rests.0,
    record {
      laid_out = rests_same store.area c d same (laid store.mark store.content)
          (laid_entries store.area store.mark store.content rests.0 rests.1.marked) rests.1.laid_out;
      marked = rests.1.marked;
    },
  );
  reads = λ fault_at area c d same. reading_same area c d same fault_at;
}
