-- What a crash leaves is what the disk holds afterwards.
use Rattle.std.proofs.Common.{List, Some, ap, arith, length, sym, ℕ, ◌∙◌, ◌≡◌}
use Rattle.dr_disk.specs.MemoryDisks.{IsLeftBy, state_of}
use Rattle.dr_disk.specs.declared.call.Mode.{Mode}
use Rattle.dr_disk.specs.declared.memory.MemoryDisk.{MemoryDisk}
use Rattle.book_model.specs.Rows.{Rows}
use Rattle.book_store.specs.Layout.{HasBook}
use Rattle.kem_laws.specs.Mechanism.{Mechanism}
use Rattle.session_model.specs.Clients.{Client}
use Rattle.hub.specs.Held.{HoldsRows, LeavesRows}
use Rattle.hub.proofs.Stopped.{lawful_disk}

module _ (mode : Mode) (was now : MemoryDisk) (left : IsLeftBy mode (state_of was) (state_of now)) where
  pub still_within : (rows : ℕ) → HasBook rows (state_of was) → HasBook rows (state_of now)
  still_within rows within =
      let lawful = lawful_disk was in
      let sized : length left.bytes ≡ (state_of was).size =
      lawful.sized left.bytes (lawful.leaves_now mode left.bytes left.left) in
      omega (arith, within, sized, left.fresh.size)

  pub holds_left : (k : Mechanism) (rows : ℕ) (sessions : Rows Client) → LeavesRows k rows sessions mode (state_of was)
      → HoldsRows k rows sessions (state_of now)
  holds_left k rows sessions leaves =
      let same : left.bytes ≡ leaves.bytes =
      let e : Some left.bytes ≡ Some leaves.bytes = sym left.left ∙ leaves.told in cc in
      record {
        bytes = leaves.bytes;
        told = left.fresh.seen ∙ ap (λ (b : List ℕ). Some b) same;
        long = leaves.long;
        lawful = leaves.lawful;
        has = leaves.has;
      }
