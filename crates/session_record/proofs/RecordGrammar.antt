-- The whole record.
use Rattle.std.proofs.Common.{refl}
use Rattle.kem_laws.specs.Mechanism.{Mechanism}
use Rattle.grammar.specs.Grammar.{IsGrammar, IsWholeGrammar}
use Rattle.grammar.specs.Reader.{mapped}
use Rattle.grammar.proofs.Combined.{both_grammar, mapped_grammar}
use Rattle.grammar.proofs.Whole.{whole_grammar}
use Rattle.session_record.specs.Awaiting.{sent_of}
use Rattle.session_record.specs.Record.{of_saved, record_fields, saved_of, saved_read, saved_text}
use Rattle.session_record.proofs.Passing.{Passes}
use Rattle.session_record.proofs.RelayGrammar.{relay_grammar}
use Rattle.session_record.proofs.Waiting.{awaiting_grammar}
use Rattle.session_record.proofs.GroupGrammars.{boxes_grammar, heading_grammar, keys_grammar}

fields_grammar : (k : Mechanism) → IsGrammar saved_text (Passes k) (mapped saved_of (record_fields k))
unfolding record_fields saved_text
fields_grammar k =
    mapped_grammar _ _ _
    (both_grammar _ _ _ _ _ _ heading_grammar (λ heading _.
    both_grammar _ _ _ _ _ _ (keys_grammar k heading) (λ keys _.
    both_grammar _ _ _ _ _ _ (boxes_grammar k heading) (λ _ _.
    both_grammar _ _ _ _ _ _ (awaiting_grammar heading.version heading.side heading.epoch (sent_of keys.phase)) (λ _ _.
    relay_grammar heading.version)))))
    (Passes k) saved_of of_saved
    (λ g l. (record { heading = l.0; keys = l.1.0; boxes = l.1.1.0; awaiting = l.1.1.1.0; relay = l.1.1.1.1 }, refl))
    (λ s l. ((l.heading, (l.keys, (l.boxes, (l.awaiting, l.relay)))), refl))

pub passing_grammar : (k : Mechanism) → IsWholeGrammar saved_text (Passes k) (saved_read k)
unfolding saved_read
passing_grammar k = whole_grammar _ _ _ (fields_grammar k)
