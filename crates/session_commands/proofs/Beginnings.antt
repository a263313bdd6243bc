-- A session that was begun, or wasn't.
use Rattle.std.proofs.Common.{List, None, Ok, Some, [], ap, inl, inr, subst, sym, ℕ, ⊎_elim, ◌∙◌, ◌≡◌, ◌⊎◌}
use Rattle.std.specs.Prelude.{option_map}
use Rattle.bodies.specs.declared.format.Format.{Format}
use Rattle.dr_base.specs.declared.position.Side.{Side}
use Rattle.dr_disk.specs.Spans.{Span}
use Rattle.dr_disk.specs.State.{DiskState}
use Rattle.dr_disk.proofs.Steps.{widen}
use Rattle.dr_model.specs.Conversations.Formats.{formats_of}
use Rattle.dr_model.specs.Machines.WorldSides.{kept_in}
use Rattle.dr_model.specs.Machines.Worlds.{World, opening_world}
use Rattle.endings.specs.declared.ending.Ending.TheVariants.{Done}
use Rattle.kem_laws.specs.Mechanism.{Mechanism}
use Rattle.session_model.specs.Clients.{Client}
use Rattle.session_record.specs.Record.{record_read}
use Rattle.slot_store.specs.Laws.{IsRead}
use Rattle.slot_store.specs.Reading.{IsLikeRead}
use Rattle.slot_store.specs.Records.{stored_record}
use Rattle.client.specs.Beginning.{IsClientBegun, IsEntryOrFirst, IsFirst, IsUnbegun}
use Rattle.client.specs.Clients.{ClientNow, client_area}
use Rattle.client.specs.InWorlds.{IsIn}
use Rattle.client.specs.Opening.{ReadsAsSide, client_record_fault}
use Rattle.client.specs.declared.begin.Begin.{Begin}
use Rattle.client.specs.declared.refusals.BeginRefusal.{BeginRefusal}
use Rattle.client.proofs.Openings.{like_stands}
use Rattle.session_commands.specs.Beginning.{Began, Begins, was_begun, wasnt_begun}
use Rattle.session_commands.specs.Disks.{IsClientAtRest, RunsOn, StandsForOne}
use Rattle.command_lines.specs.Lines.{session_line}
use Rattle.session_commands.specs.Opening.{ending_of_begin}

-- what is like what was read stands for it, and is sound
like_stands_for : (k : Mechanism) (side : Side) (before after : World) (start : DiskState) (c : List ℕ) → ReadsAsSide k before side start
    → IsLikeRead client_area start c → StandsForOne k side before after start c
like_stands_for k side before after start c reads like = record {
  either = inl (like_stands k before side start c reads like);
  sound = record { read = like.read; told = like.told; undamaged = like.undamaged; outside = like.outside };
}

-- where a world was read, no first record was put
never_first : (k : Mechanism) → IsRead → (begin : Begin) (w : World) (whose : Side) (start : DiskState)
    (c : List ℕ) → ReadsAsSide k w whose start → IsFirst k begin start c → ⊥
never_first k readings begin w whose start c reads first =
    let none : stored_record client_area reads.bytes ≡ None =
    readings.none (client_record_fault k) client_area reads.bytes (first.none reads.bytes reads.told) in
    let same : None ≡ Some (Ok (kept_in k w whose)) = sym (ap (option_map (record_read k)) none) ∙ reads.stands in cc

module _ {X : Type 0} (state : X → DiskState) (k : Mechanism) (readings : IsRead) (begin : Begin) (start now : X)
    (span : Span (state start) (state now) (IsEntryOrFirst k begin (state start)))
    (seen : (s : List ℕ) → (state now).seen ≡ Some s
    → IsLikeRead client_area (state start) s ⊎ IsFirst k begin (state start) s) where
  worlds_stay : (w : World) (whose : Side) → ReadsAsSide k w whose (state start) → RunsOn k whose w w (state start) (state now)
  worlds_stay w whose reads = record {
    any_moment =
        widen (state start) (state now) (IsEntryOrFirst k begin (state start))
        (λ c. (state start).image c ⊎ StandsForOne k whose w w (state start) c)
        (λ c s.
        ⊎_elim
        (λ left. ⊎_elim (λ was. inl was) (λ like. inr (like_stands_for k whose w w (state start) c reads like)) left)
        (λ first. absurd (never_first k readings begin w whose (state start) c reads first)) s) span;
    reads = λ s told.
        ⊎_elim (λ like. like_stands_for k whose w w (state start) s reads like)
        (λ first. absurd (never_first k readings begin w whose (state start) s reads first)) (seen s told);
  }

  pub unbegun_begins : (refusal : BeginRefusal) → IsUnbegun state k begin start now refusal
      → Begins state k begin start now (ending_of_begin refusal) []
  unbegun_begins refusal why =
      record { began = wasnt_begun refusal why; any_moment = span; reads = seen; in_worlds = worlds_stay }

  pub begun_begins : (client : ClientNow) → IsClientBegun k begin client (state start) (state now)
      → ((other : Format) → IsIn k (opening_world begin.key.bytes (formats_of begin.side begin.format other)) begin.side client)
      → Begins state k begin start now Done (session_line client.kept.state.session)
  begun_begins client begun is = record {
    began =
        subst (λ (kept : Client). Began state k begin start now Done (session_line kept.state.session)) (sym begun.keeps)
        (was_begun begun.read begun.pair
        (λ other. record {
          lawful = (is other).lawful;
          rests = subst (λ (kept : Client). IsClientAtRest kept (state now)) (is other).keeps
              (record { store = client.store; ready = begun.ready });
        })
        begun.quiet);
    any_moment = span;
    reads = seen;
    in_worlds = worlds_stay;
  }
