use Rattle.std.proofs.Common.{ap₂, sym, subst}
use Rattle.pages.specs.Resting.{IsShotAtRest as AreAtRest}
use Rattle.record_pages.specs.Tables.{record_names}
use Rattle.slot_store.specs.Areas.{layout_of}
use Rattle.slot_store.specs.Layout.{laid}
use Rattle.slot_store.specs.Store.{Rests}
use Rattle.slot_store.proofs.Entries.{entries_within}
use Rattle.slot_store.proofs.Named.{laid_entries}
use Rattle.slot_store.proofs.Places.RestBytes.{rest_bytes}
use Rattle.slot_store.proofs.Standing.{rests_recovered, rests_undamaged}
use Rattle.slot_store.proofs.laws.resting.Goals as goal

pub returns : goal.returns
unfolding Rests
returns c = record {
  at_rest = λ store c rests. rests.1;
  record_of = rests_recovered;
  undamaged = rests_undamaged;
  same_bytes = λ store other c d area marks contents size rests rests'. record {
    size = size;
    bytes = rest_bytes store.area (laid store.mark store.content) c d
        (entries_within store.area _ (laid_entries store.area store.mark store.content rests.0 rests.1.marked)) rests.1.laid_out
        (subst (λ a. AreAtRest record_names (layout_of a) (laid store.mark store.content) d) (sym area)
        (subst (λ s. AreAtRest record_names (layout_of other.area) s d) (sym (ap₂ laid marks contents)) rests'.1.laid_out));
  };
}
