-- Clients with one record: that of a text that was said has its packet alone, whose position is read from it.
use Rattle.std.proofs.Common.{List, Option, [], refl, ap, ap₂, subst, sym, ℕ, ◌++◌, ◌∙◌, ◌∷◌, ◌≡◌}
use Rattle.std.specs.Int.{to_be_bytes, w8}
use Rattle.std.specs.Prelude.{length}
use Rattle.std.proofs.lemmas.List.{length-append}
use Rattle.boxes.specs.Entries.{Entry, entry_with}
use Rattle.boxes.specs.Posts.{Post, post_under}
use Rattle.dr_base.specs.declared.position.Position.{Position}
use Rattle.grammar.specs.Printer.{HasRoom, print_counted, print_items}
use Rattle.grammar.proofs.Printing.{print_items-push}
use Rattle.kem_laws.specs.Mechanism.{Mechanism}
use Rattle.ratchet.specs.Seen.{Received, Said, received_of, said_of}
use Rattle.session_model.specs.Clients.{Client}
use Rattle.session_model.specs.States.{State}
use Rattle.session_model.specs.declared.relay_keys.RelayKeys.{RelayKeys}
use Rattle.session_record.specs.Changes.{changed}
use Rattle.session_record.specs.Lists.{post_of, post_text}
use Rattle.session_record.specs.Record.{client_of, record_text, saved_text}
use Rattle.session_record.specs.declared.change.Change.{Change}
use Rattle.session_record.specs.declared.limits.TheConstants.{RECORD_LIMIT}
use Rattle.client.specs.Cores.{HasRecordLength, HasRoomToWrite, PutsRecord}
use Rattle.client.specs.Drafting.{IsWrittenFrom, received_client, said_client}

-- the record of a packet in the outbox is that of its bytes
same_posts : (k : Mechanism) (posts : List Post) (position : Position) (packet : List ℕ)
    → print_counted w8 post_text (posts ++ post_of k packet ∷ []) ≡ print_counted w8 post_text (posts ++ post_under position packet ∷ [])
unfolding post_of
same_posts k posts position packet =
    let a = post_of k packet in
    let b = post_under position packet in
    let long : length (posts ++ a ∷ []) ≡ length (posts ++ b ∷ []) =
    length-append posts (a ∷ []) ∙ sym (length-append posts (b ∷ [])) in
    ap (λ n. to_be_bytes w8 n ++ print_items post_text (posts ++ a ∷ [])) long
    ∙ ap (λ bytes. to_be_bytes w8 (length (posts ++ b ∷ [])) ++ bytes)
    (print_items-push post_text posts a ∙ sym (print_items-push post_text posts b))

pub same_record : (k : Mechanism) (c : Client) (posts : List Post) (position : Position) (packet : List ℕ)
    → record_text (record c { outbox = posts ++ post_of k packet ∷ [] })
    ≡ record_text (record c { outbox = posts ++ post_under position packet ∷ [] })
unfolding record_text saved_text
same_record k c posts position packet = rw (same_posts k posts position packet) refl

-- of a text that was said, under the position that its draft has
pub said_record : (k : Mechanism) (state : State) (inbox : List Entry) (outbox : List Post) (relay : Option RelayKeys) (post : Post) (packet : List ℕ)
    → packet ≡ post.packet
    → record_text (client_of state inbox (outbox ++ post_of k packet ∷ []) relay) ≡ record_text (client_of state inbox (outbox ++ post ∷ []) relay)
said_record k state inbox outbox relay post packet is =
    ap (λ bytes. record_text (client_of state inbox (outbox ++ post_of k bytes ∷ []) relay)) is
    ∙ same_record k (client_of state inbox outbox relay) outbox post.position post.packet

pub drafted_record : (k : Mechanism) (kept : Client) (draft : Said) (state : State) (packet : List ℕ)
    → state ≡ (said_of kept.state draft).next → packet ≡ draft.post.packet
    → record_text (client_of state kept.inbox (kept.outbox ++ post_of k packet ∷ []) kept.relay) ≡ record_text (said_client kept draft)
drafted_record k kept draft state packet next is =
    said_record k state kept.inbox kept.outbox kept.relay draft.post packet is
    ∙ ap (λ s. record_text (client_of s kept.inbox (kept.outbox ++ draft.post ∷ []) kept.relay)) next

-- of a packet that was taken
pub received_record : (kept : Client) (draft : Received) (state : State) (p : Position) (kind : ℕ) (text : List ℕ)
    → state ≡ (received_of kept.state draft).next → p ≡ draft.position → kind ≡ draft.kind → text ≡ draft.text
    → record_text (client_of state (kept.inbox ++ entry_with p kind text ∷ []) kept.outbox kept.relay) ≡ record_text (received_client kept draft)
received_record kept draft state p kind text next place alike same =
    let written : Position → ℕ → List ℕ → List ℕ = λ a n t.
    record_text (client_of (received_of kept.state draft).next (kept.inbox ++ entry_with a n t ∷ []) kept.outbox kept.relay) in
    ap (λ s. record_text (client_of s (kept.inbox ++ entry_with p kind text ∷ []) kept.outbox kept.relay)) next
    ∙ ap₂ (λ a n. written a n text) place alike ∙ ap (written draft.position draft.kind) same

-- what is written from a client is written from one that equals it
pub written_alike : (k : Mechanism) (a b next : Client) (state : State) (change : Change) → b ≡ a
    → IsWrittenFrom k a next state change → IsWrittenFrom k b next state change
written_alike k a b next state change same from =
    subst (λ (n : Client). IsWrittenFrom k n next state change) (sym same) from

-- what is written with these keys, where they are those that are kept
pub with_keys : (k : Mechanism) (kept next : Client) (state : State) (change : Change) (relay : Option RelayKeys) → relay ≡ kept.relay
    → IsWrittenFrom k kept next state change
    → record_text (changed k (client_of state kept.inbox kept.outbox relay) change) ≡ record_text next
with_keys k kept next state change relay is from =
    ap (λ keys. record_text (changed k (client_of state kept.inbox kept.outbox keys) change)) is ∙ from.same

-- ---- how long it is, and where it is put

pub long_alike : (a b : Client) (len : ℕ) → record_text a ≡ record_text b → HasRecordLength a len → HasRecordLength b len
long_alike a b len same has = record { long = has.long ∙ ap length same; limit = has.limit }

pub room_alike : (a b : Client) (out : List ℕ) → record_text a ≡ record_text b → HasRoomToWrite a out → HasRoomToWrite b out
room_alike a b out same room = subst (λ text. HasRoom RECORD_LIMIT text (length out)) same room

pub puts_alike : (a b : Client) (old new : List ℕ) (len : ℕ) → record_text a ≡ record_text b → PutsRecord a old new len
    → PutsRecord b old new len
puts_alike a b old new len same puts = record {
  long = puts.long ∙ ap length same;
  written = puts.written ∙ same;
  rest = puts.rest;
  limit = puts.limit;
}
