-- The area of a client at rest.
use Rattle.std.proofs.Common.{List, ap, subst, sym, ℕ, ◌∙◌, ◌≡◌, Some, length}
use Rattle.dr_disk.specs.State.{DiskState, IsLawful}
use Rattle.session_model.specs.Clients.{Client}
use Rattle.session_record.specs.Record.{record_text}
use Rattle.slot_store.specs.Laws.{IsResting, SameWithin}
use Rattle.slot_store.specs.Store.{SlotStore, mark}
use Rattle.slot_store.specs.Areas.{Area}
use Rattle.client.specs.Clients.{IsReady, client_area}

pub same_area : IsResting → (kept other : Client) (store again : SlotStore) (a b : DiskState) → IsLawful a → IsLawful b
    → IsReady kept store a → IsReady other again b → b.size ≡ a.size → record_text other ≡ record_text kept
    → mark again ≡ mark store → (c d : List ℕ) → a.image c → b.image d → SameWithin client_area c d
same_area resting kept other store again a b sound good ready twin size same marks c d left right =
    let long : length c ≡ length d = sound.sized c left ∙ sym size ∙ sym (good.sized d right) in
    subst (λ (x : Area). SameWithin x c d) ready.area
    (resting.same_bytes store again c d (ready.area ∙ sym twin.area) (sym marks)
    (ready.holds ∙ sym (twin.holds ∙ ap Some same)) long (ready.rests c left) (twin.rests d right))
