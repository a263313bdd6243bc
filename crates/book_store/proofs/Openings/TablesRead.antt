-- Tables that were read, while nothing but reads is called.
use Rattle.std.proofs.Common.{◌≡◌, ℕ, Ok, sym, ◌∙◌, arith}
use Rattle.dr_disk.specs.State.{DiskState, IsSettled}
use Rattle.pages.specs.Runs.{ReadsAlone}
use Rattle.pages.proofs.Looking.{looks_settled}
use Rattle.book_store.specs.Scratch.{HasTables}
use Rattle.book_store.specs.Settling.{IsSettledBook}
use Rattle.book_store.specs.declared.scratch.Scratch.{Scratch}

module _ (rows first second : ℕ) (scratch : Scratch) (start now : DiskState)
    (has : HasTables rows first second scratch start) where
  -- a read still gives what it gave
  pub tables_later : now.size ≡ start.size → now.seen ≡ start.seen → HasTables rows first second scratch now
  tables_later size seen = record {
    within = omega (arith, has.within, size);
    room = has.room;
    read = record {
      first_is = λ s told. has.read.first_is s (sym seen ∙ told);
      second_is = λ s told. has.read.second_is s (sym seen ∙ told);
    };
  }

  -- and a crash still leaves it
  pub settled_later : {T : Type 0} {k : ℕ} (x : T) → ReadsAlone k start now (Ok x) → IsSettled start → IsSettledBook rows now
  settled_later x looks settled = record {
    within = omega (arith, has.within, looks.during.size);
    settled = looks_settled start now (Ok x) looks settled;
  }
