-- The grammars of the groups.
use Rattle.std.proofs.Common.{◌≡◌, ℕ, ◌^◌, ◌<◌, true, refl, arith}
use Rattle.std.proofs.lemmas.Bool.{leb-true}
use Rattle.grammar.specs.Grammar.{IsGrammar}
use Rattle.grammar.proofs.Fields.{piece_grammar}
use Rattle.grammar.proofs.Combined.{both_grammar, mapped_grammar}
use Rattle.kem_laws.specs.Mechanism.{Mechanism}
use Rattle.session_record.specs.Fields.{up_to}
use Rattle.session_record.specs.Groups.{boxes_fields, boxes_of, boxes_text, heading_fields, heading_of, heading_text, keys_fields, keys_of, keys_text, of_boxes, of_heading, of_keys}
use Rattle.session_record.specs.Lists.{reach_of}
use Rattle.session_record.specs.Versions.{inbox_most, kept_most, outbox_most}
use Rattle.session_record.specs.declared.groups.Heading.{Heading}
use Rattle.session_record.specs.declared.versions.Version.{Version}
use Rattle.session_record.proofs.Passing.{PassesBoxes, PassesHeading, PassesKeys}
use Rattle.session_record.proofs.FieldGrammars.{epoch_grammar, format_grammar, phase_grammar, previous_grammar, receiving_grammar, side_grammar, version_grammar}
use Rattle.session_record.proofs.ListGrammars.{inbox_list, kept_list, outbox_list}
use Rattle.session_record.proofs.VersionLimits.{inbox-limit, kept-limit, outbox-limit}

pub heading_grammar : IsGrammar heading_text PassesHeading heading_fields
unfolding heading_fields
heading_grammar =
    mapped_grammar _ _ _
    (both_grammar _ _ _ _ _ _ version_grammar (λ version _.
    both_grammar _ _ _ _ _ _ side_grammar (λ _ _.
    both_grammar _ _ _ _ _ _ (format_grammar version) (λ _ _.
    both_grammar _ _ _ _ _ _ (piece_grammar 16) (λ _ _.
    both_grammar _ _ _ _ _ _ (piece_grammar 32) (λ _ _.
    epoch_grammar))))))
    PassesHeading heading_of of_heading
    (λ e l. (record { format = l.1.1.0; session_long = l.1.1.1.0; root_long = l.1.1.1.1.0; epoch_fits = l.1.1.1.1.1 }, refl))
    (λ h l. ((tt, (tt, (l.format, (l.session_long, (l.root_long, l.epoch_fits))))), refl))

-- a count that a version allows stands in its bytes
fits_kept : (version : Version) (n : ℕ) → up_to (kept_most version) n ≡ true → n < 2 ^ 16
fits_kept version n few = omega (arith, leb-true n (kept_most version) few, kept-limit version)

fits_inbox : (version : Version) (n : ℕ) → up_to (inbox_most version) n ≡ true → n < 2 ^ 8
fits_inbox version n few = omega (arith, leb-true n (inbox_most version) few, inbox-limit version)

fits_outbox : (version : Version) (n : ℕ) → up_to (outbox_most version) n ≡ true → n < 2 ^ 8
fits_outbox version n few = omega (arith, leb-true n (outbox_most version) few, outbox-limit version)

pub keys_grammar : (k : Mechanism) (h : Heading) → IsGrammar keys_text (PassesKeys k h) (keys_fields k h)
unfolding keys_fields
keys_grammar k h =
    mapped_grammar _ _ _
    (both_grammar _ _ _ _ _ _ (phase_grammar k h.side h.epoch) (λ _ _.
    both_grammar _ _ _ _ _ _ (previous_grammar h.side h.epoch) (λ _ _.
    both_grammar _ _ _ _ _ _ (receiving_grammar h.side h.epoch) (λ receiving _.
    kept_list h.version h.side h.epoch (reach_of receiving)))))
    (PassesKeys k h) keys_of of_keys
    (λ e l. (record { phase = l.0; previous = l.1.0; receiving = l.1.1.0; few_kept = l.1.1.1.0.1; kept = l.1.1.1.1 }, refl))
    (λ keys l. ((l.phase, (l.previous, (l.receiving, ((fits_kept h.version _ l.few_kept, l.few_kept), l.kept)))), refl))

pub boxes_grammar : (k : Mechanism) (h : Heading) → IsGrammar (boxes_text h.version) (PassesBoxes k h) (boxes_fields k h)
unfolding boxes_fields
boxes_grammar k h =
    mapped_grammar _ _ _
    (both_grammar _ _ _ _ _ _ (inbox_list h.version h.side h.epoch) (λ _ _.
    outbox_list k h.version h.session h.side h.epoch))
    (PassesBoxes k h) boxes_of of_boxes
    (λ e l. (record { few_entries = l.0.0.1; inbox = l.0.1; few_posts = l.1.0.1; outbox = l.1.1 }, refl))
    (λ boxes l. (
      (((fits_inbox h.version _ l.few_entries, l.few_entries), l.inbox), ((fits_outbox h.version _ l.few_posts, l.few_posts), l.outbox)),
      refl,
    ))
