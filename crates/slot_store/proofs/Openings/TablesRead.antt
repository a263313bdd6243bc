-- Tables that were read, while nothing but reads is called.
use Rattle.std.proofs.Common.{◌≡◌, ℕ, Ok, sym, ◌∙◌, subst, arith}
use Rattle.dr_disk.specs.State.{DiskState, IsSettled, OnSeen}
use Rattle.pages.specs.Runs.{ReadsAlone}
use Rattle.pages.proofs.Looking.{looks_settled}
use Rattle.slot_store.specs.declared.pager.Pager.{Pager}
use Rattle.slot_store.specs.declared.scratch.Scratch.{Scratch}
use Rattle.slot_store.specs.Areas.{Area}
use Rattle.slot_store.specs.Scratch.{HasTables}
use Rattle.slot_store.specs.Settling.{HasShot, MaySettle}
use Rattle.slot_store.specs.Store.{HasArea}

module _ (area : Area) (first second : ℕ) (scratch : Scratch) (start now : DiskState)
    (has : HasTables area first second scratch start) where
  -- a read still gives what it gave
  pub tables_later : now.size ≡ start.size → now.seen ≡ start.seen
      → HasTables area first second scratch now
  tables_later size seen = record {
    within = omega (arith, has.within, size);
    room = has.room;
    read = record {
      first_is = λ s told. has.read.first_is s (sym seen ∙ told);
      second_is = λ s told. has.read.second_is s (sym seen ∙ told);
    };
  }

  -- of the area of a pager over them
  pub tables_of : (other : Area) → other ≡ area → now.size ≡ start.size → now.seen ≡ start.seen
      → HasTables other first second scratch now
  tables_of other same size seen =
      subst (λ a. HasTables a first second scratch now) (sym same) (tables_later size seen)

  -- and a crash still leaves it
  pub settling_later : {T : Type 0} {k : ℕ} (pager : Pager) (x : T) → pager.area ≡ area → ReadsAlone k start now (Ok x)
      → IsSettled start → OnSeen (HasShot pager) start → MaySettle pager now
  settling_later pager x same looks settled shown = record {
    ready = record {
      within = subst (λ a. HasArea a now) (sym same) (omega (arith, has.within, looks.during.size));
      settled = looks_settled start now (Ok x) looks settled;
    };
    shown = λ s told. shown s (sym looks.untouched.unwritten.seen ∙ told);
  }
