-- What a session seals of a text is what its side says in the conversation.
use Rattle.std.proofs.Common.{◌≡◌, ℕ, List, [], ◌∷◌, map, Option, Some, None, refl, ap, ap₂}
use Rattle.std.specs.Prelude.{option_map}
use Rattle.bodies.specs.Bodies.{Body}
use Rattle.bodies.specs.Receipts.{Receipt, receipt_up_to}
use Rattle.bodies.specs.declared.format.Format.{Format}
use Rattle.bodies.specs.declared.format.Format.TheVariants.{Padded, Plain, Receipts}
use Rattle.dr_base.specs.Position.{position_at}
use Rattle.dr_base.specs.declared.key.Kept.{Kept}
use Rattle.dr_base.specs.declared.position.Position.{Position}
use Rattle.kem_laws.specs.Mechanism.{Mechanism}
use Rattle.session_model.specs.Contents.{Content}
use Rattle.session_model.specs.Saying.{body_of, read_up_to, receipt_in, receipt_of}
use Rattle.session_model.specs.States.{receiving_epoch}
use Rattle.dr_model.specs.Conversations.Conversation.{Conversation}
use Rattle.dr_model.specs.Conversations.Formats.{side_format}
use Rattle.dr_model.specs.Conversations.Posts.{key_of}
use Rattle.dr_model.specs.Conversations.Receipts.{body_in, sent_receipt, view_receipt}
use Rattle.dr_model.specs.Conversations.ViewStates.{state_of, view_reception}
use Rattle.dr_model.specs.Conversations.Views.{View, missing_of, reach_in}

-- kept keys stand under the positions that are missing
kept_places : (k : Mechanism) (c : Conversation) (ps : List Position)
    → map (λ (kept : Kept). kept.position) (map (key_of k c) ps) ≡ ps
kept_places k c [] = refl
kept_places k c (p ∷ ps) = ap (λ more. p ∷ more) (kept_places k c ps)

-- a stream was read as far as the view says
same_reach : (k : Mechanism) (c : Conversation) (v : View) (latest : Option ℕ)
    → read_up_to latest (option_map (view_reception k c v) latest)
    ≡ option_map (λ t. position_at t (reach_in c v t)) latest
same_reach k c v None = refl
same_reach k c v (Some t) = refl

same_receipt : (k : Mechanism) (c : Conversation) (v : View) → receipt_of (state_of k c v) ≡ view_receipt c v
same_receipt k c v =
    ap₂ (λ missing reached. option_map (receipt_up_to missing) reached) (kept_places k c (missing_of c v))
    (same_reach k c v (receiving_epoch v.side v.epoch))

receipt_by : (k : Mechanism) (c : Conversation) (v : View) (format : Format)
    → receipt_in format (state_of k c v) ≡ sent_receipt format c v
receipt_by k c v Plain = refl
receipt_by k c v Padded = refl
receipt_by k c v Receipts = same_receipt k c v

pub same_body : (k : Mechanism) (c : Conversation) (v : View) (content : Content)
    → body_of (state_of k c v) content ≡ body_in c v content
same_body k c v content =
    ap (λ (receipt : Option Receipt). let body : Body = record { receipt = receipt; kind = content.kind; content = content.bytes } in body)
    (receipt_by k c v (side_format c.formats v.side))
