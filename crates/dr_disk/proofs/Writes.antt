-- What holds of the images while a range is written and synced, from what holds before.
use Rattle.std.proofs.Common.{ℕ, List, sym, subst}
use Rattle.dr_disk.specs.Bytes.{Torn, overwritten}
use Rattle.dr_disk.specs.State.{Always, DiskState, IsLawful}
use Rattle.dr_disk.specs.Spans.{Frame, Span}
use Rattle.dr_disk.specs.Calls.{IsWrittenOver}
use Rattle.dr_disk.proofs.Steps.{Bytes, widen}

module _ (a b : DiskState) (P : Bytes) (here : Always P a) (at n : ℕ) where
  -- meanwhile: torn, P becomes G
  pub during : (G : Bytes) → ((d c : List ℕ) → P d → Torn at n d c → G c) → Span a b (Frame a at n) → Span a b G
  during G tears = widen a b (Frame a at n) G (λ c frame. tears frame.0 c (here frame.0 frame.1) frame.2)

  -- and then: written, P becomes Q
  pub behind : (Q : Bytes) (bytes : List ℕ) → IsLawful a → ((s : List ℕ) → P s → Q (overwritten s at bytes)) → Always (IsWrittenOver a at bytes) b → Always Q b
  behind Q bytes lawful writes over c left =
      let was = over c left in
      subst Q (sym was.2) (writes was.0 (here was.0 (lawful.seen_now was.0 was.1)))
