-- What is opened where a disk has crashed in a sync.
use Rattle.std.proofs.Common.{List, Ok, Some, [], ap, inl, inr, refl, subst, sym, ℕ, ◌∙◌, ◌≡◌}
use Rattle.std.specs.Prelude.{option_map}
use Rattle.kem_laws.specs.Mechanism.{Mechanism}
use Rattle.relay_wire.specs.Replies.{Replied}
use Rattle.session_model.specs.Clients.{Client}
use Rattle.session_record.specs.Record.{record_read, record_text}
use Rattle.slot_store.proofs.Standing.{rests_recovered}
use Rattle.slot_store.specs.Areas.{Area}
use Rattle.slot_store.specs.Records.{stored_record}
use Rattle.sync_model.specs.Courses.{course_of}
use Rattle.client.specs.Clients.{IsReady, client_area}
use Rattle.client.specs.Syncing.Moments.{Moment}
use Rattle.client.specs.Syncing.Parties.{client_party}
use Rattle.client.specs.Syncing.SoFar.{Passed}
use Rattle.parties.specs.CutSyncs.{IsCutSync}

is_read : (k : Mechanism) (c text : List ℕ) (next : Client) → option_map (record_read k) (stored_record client_area c) ≡ Some (Ok next)
    → stored_record client_area c ≡ Some text → record_read k text ≡ Ok next
is_read k c text next reads holds =
    let both : Some (record_read k text) ≡ Some (Ok next) = sym (ap (option_map (record_read k)) holds) ∙ reads in cc both

module _ (k : Mechanism) (prefix : List ℕ) (a b : Moment) (ready : IsReady a.client.kept a.client.store a.disk) where
  abbrev first : Client
  first = a.client.kept

  pub cut_off : (replies : List Replied) → Passed (client_party k prefix first) replies a b → (c : List ℕ) → b.disk.image c
      → (next : Client) → option_map (record_read k) (stored_record client_area c) ≡ Some (Ok next)
      → IsCutSync k prefix first next
  cut_off replies passed c image next reads = elim (passed.last c image) [
    | inl entry ↦ record {
      replies = replies;
      front = [];
      back = replies;
      split = refl;
      reads = is_read k c (record_text first) next reads
          (subst (λ (area : Area). stored_record area c ≡ a.client.store.content) ready.area
          (rests_recovered a.client.store c (ready.rests c entry)) ∙ ready.holds);
    }
    | inr r ↦ record {
      replies = replies;
      front = r.front;
      back = r.back;
      split = r.split;
      reads = is_read k c (record_text (course_of (client_party k prefix first) first r.front).state) next reads r.holds;
    }
  ]
