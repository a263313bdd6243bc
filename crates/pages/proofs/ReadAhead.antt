-- Pages that were read ahead of the one that is looked at.
use Rattle.std.proofs.Common.{◌≡◌, ℕ, ◌+◌, ◌-◌, ◌<◌, Bool, List, sym, ◌∙◌, ap, arith}
use Rattle.dr_disk.specs.Bytes.{EndsBy}
use Rattle.dr_disk.specs.State.{DiskState, IsLawful, OnSeen}
use Rattle.pages.specs.declared.layout.Layout.{Layout}
use Rattle.pages.specs.declared.rows.Ahead.{Ahead}
use Rattle.pages.specs.Ahead.{IsAhead}
use Rattle.pages.specs.Clearing.{IsPageCleared}
use Rattle.pages.specs.Layouts.{IsSound}
use Rattle.pages.specs.Rows.{row_page}
use Rattle.pages.specs.Snapshots.{page_of}
use Rattle.pages.proofs.RowPages.{past_zeros}

-- none was read yet
pub nothing_ahead : (l : Layout) (ahead : Ahead) (bytes : List ℕ) (start : DiskState)
    → IsLawful start → IsSound l start.size → ahead.count ≡ 0
    → OnSeen (EndsBy ahead.end) start → OnSeen (IsAhead l l.least ahead bytes) start
nothing_ahead l ahead bytes start lawful sound none ends s told = record {
  held = λ m is le held. absurd (omega (arith, held.last, none));
  past = λ m is le past. past_zeros l m ahead.end s (ends s told) past
      (omega (arith, sound.pages_within m is, lawful.sized s (lawful.seen_now s told)));
}

-- a row from this page on was read
pub row_ahead : (l : Layout) (n : ℕ) (was now : Ahead) (old bytes s : List ℕ)
    → IsAhead l n was old s → now.first ≡ n → now.end ≡ was.end
    → ((j : ℕ) → j < now.count → row_page bytes j ≡ page_of l s (n + j))
    → IsAhead l n now bytes s
row_ahead l n was now old bytes s before first end read = record {
  held = λ m is le held. read (m - now.first) held.last
      ∙ ap (λ k. page_of l s k) (let e : n + (m - now.first) ≡ m = omega (arith, held.first, first) in e);
  past = λ m is le past. before.past m is le (omega (arith, past, end));
}

-- the next page is looked at
pub ahead_next : (l : Layout) (n : ℕ) (ahead : Ahead) (bytes s : List ℕ) → IsAhead l n ahead bytes s
    → IsAhead l (n + 1) ahead bytes s
ahead_next l n ahead bytes s now = record {
  held = λ m is le held. now.held m is (omega (arith, le)) held;
  past = λ m is le past. now.past m is (omega (arith, le)) past;
}

-- once this page was cleared
pub ahead_cleared : (l : Layout) (n : ℕ) (marked : Bool) (ahead : Ahead) (bytes : List ℕ)
    (start : DiskState) (s : List ℕ) → OnSeen (IsAhead l n ahead bytes) start
    → IsPageCleared l n marked start s → IsAhead l (n + 1) ahead bytes s
ahead_cleared l n marked ahead bytes start s now cleared =
    let was = now cleared.read cleared.told in
    record {
      held = λ m is le held. was.held m is (omega (arith, le)) held
          ∙ sym (cleared.kept m is (λ same. absurd (omega (arith, same, le))));
      past = λ m is le past. cleared.kept m is (λ same. absurd (omega (arith, same, le)))
          ∙ was.past m is (omega (arith, le)) past;
    }
