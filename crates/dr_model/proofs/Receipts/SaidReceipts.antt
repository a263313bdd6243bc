-- What a side says in a lawful view: the other side may open it, and its receipt is true.
use Rattle.std.proofs.Common.{◌≡◌, ◌≢◌, ℕ, Ok, true, None, refl, sym, ◌∙◌, ap, subst}
use Rattle.bodies.specs.Formats.{version_of}
use Rattle.bodies.specs.Lawful.{IsLawfulBody, IsReceiptOrNone}
use Rattle.bodies.specs.declared.format.Format.{Format}
use Rattle.bodies.specs.declared.format.Format.TheVariants.{Padded, Plain, Receipts}
use Rattle.dr_base.specs.Position.{is_own, peer_of}
use Rattle.dr_base.specs.declared.limits.TheConstants.{RECEIPTS}
use Rattle.dr_base.specs.declared.position.Side.{Side}
use Rattle.kem_laws.specs.Mechanism.{Mechanism}
use Rattle.dr_model.specs.Conversations.Conversation.{Conversation}
use Rattle.dr_model.specs.Conversations.Formats.{side_format}
use Rattle.dr_model.specs.Conversations.Receipts.{IsTrue, body_in, sent_receipt}
use Rattle.dr_model.specs.Conversations.Views.{View}
use Rattle.dr_model.specs.Theorems.Sessions.{StandsIn}
use Rattle.dr_model.proofs.Growth.LawfulTalk.{MayBeSaid}
use Rattle.dr_model.proofs.Receipts.Sent.{lawful_sent, true_sent}
use Rattle.dr_model.proofs.Saying.OwnSide.{own_side}
use Rattle.session_model.specs.Contents.{Content, content_check}
use Rattle.session_model.proofs.Checked.{content_kind, content_lawful, content_short}

no_receipt : (c : Conversation) (v : View) → IsTrue c v None
no_receipt c v = record { bounded = tt; opened = λ p said covered. cc }

true_by : (k : Mechanism) (c : Conversation) (side : Side) (v : View) (format : Format) → StandsIn k c side v
    → IsTrue c v (sent_receipt format c v)
true_by k c side v Plain at = no_receipt c v
true_by k c side v Padded at = no_receipt c v
true_by k c side v Receipts at = true_sent k c side v at

lawful_by : (k : Mechanism) (c : Conversation) (side : Side) (v : View) (format : Format) → StandsIn k c side v
    → IsReceiptOrNone (peer_of side) (sent_receipt format c v)
lawful_by k c side v Plain at = tt
lawful_by k c side v Padded at = tt
lawful_by k c side v Receipts at = lawful_sent k c side v at

alone_by : (c : Conversation) (v : View) (format : Format) → version_of format ≢ RECEIPTS → sent_receipt format c v ≡ None
alone_by c v Plain other = refl
alone_by c v Padded other = refl
alone_by c v Receipts other = absurd (other refl)

-- its receipt is true
pub true_said : (k : Mechanism) (c : Conversation) (side : Side) (v : View) (content : Content) → StandsIn k c side v
    → IsTrue c v (body_in c v content).receipt
true_said k c side v content at = true_by k c side v (side_format c.formats v.side) at

-- and the other side may open it, in an epoch of the side's own
pub may_be_said : (k : Mechanism) (c : Conversation) (side : Side) (v : View) (epoch : ℕ) (content : Content) → StandsIn k c side v
    → is_own side epoch ≡ true → content_check (side_format c.formats v.side) content ≡ Ok tt
    → MayBeSaid c epoch (body_in c v content)
may_be_said k c side v epoch content at own checked =
    let format = side_format c.formats v.side in
    record {
      short = content_short format content checked;
      lawful = subst (λ (s : Side). IsLawfulBody (version_of (side_format c.formats s)) (peer_of s) (body_in c v content))
          (sym (own_side v.side epoch (ap (λ (s : Side). is_own s epoch) at.view.side_is ∙ own)))
          (record {
            receipt = subst (λ (s : Side). IsReceiptOrNone (peer_of s) (sent_receipt format c v)) (sym at.view.side_is)
                (lawful_by k c side v format at);
            alone = alone_by c v format;
            kind = content_kind format content checked;
            content = λ padded. content_lawful format content checked;
          });
      bounded = (true_said k c side v content at).bounded;
    }
