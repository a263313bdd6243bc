-- The record of a session of the hub's before the fan, and the one after it: a page each, which differ.
use Rattle.std.proofs.Common.{List, [], ap, arith, false, get_or, length, length-append, refl, sym, ℕ, ◌++◌, ◌∙◌, ◌≡◌, ◌≤◌}
use Rattle.std.specs.Int.{to_be_bytes, w16, w32}
use Rattle.std.proofs.lemmas.List.{get_or-append_right, get_or_append_left}
use Rattle.std.specs.Prelude.{replicate, ◌-◌}
use Rattle.std.specs.Str.{bytes_eq}
use Rattle.bodies.specs.Bodies.{Body, sealed_body}
use Rattle.book.proofs.Only.{differ}
use Rattle.client.specs.Beginning.{begun_client}
use Rattle.dr_base.specs.declared.position.Position.{Position}
use Rattle.dr_base.specs.declared.limits.TheConstants.{PAGE, PLAIN}
use Rattle.etm_aead.specs.Undoing.{length-ciphertext_of, length-tag_of}
use Rattle.grammar.specs.Printer.{print_items}
use Rattle.kem_laws.specs.Open.{open_kem}
use Rattle.packet.proofs.Lengths.{length-packet_of}
use Rattle.record_pages.specs.Pages.{filled_page}
use Rattle.session_model.specs.Clients.{Client, SaidText}
use Rattle.session_model.specs.Sealing.{posted, sealing}
use Rattle.session_model.specs.Schedule.{stream_of}
use Rattle.session_record.specs.Lawful.{IsLawfulClient}
use Rattle.session_record.specs.Record.{record_text}
use Rattle.session_record.proofs.Sizes.{heading_bytes, text_pieces}
use Rattle.hub.specs.Peers.{hello, hub_begin, peer_key}
use Rattle.hub.proofs.Counting.Texts.{IsOnePage, IsSmall, one_page}
use Rattle.hub.proofs.FirstSaid.{first_body, turned}

-- ---- the byte of a record's page that tells the low part of the epoch

epoch_byte : (c : Client) → IsLawfulClient open_kem c → IsOnePage (record_text c)
    → get_or (filled_page (record_text c)) 54 9 ≡ get_or (to_be_bytes w32 c.state.epoch) 3 9
epoch_byte c lawful is =
    let s = c.state in
    let ep = to_be_bytes w32 s.epoch in
    let text = record_text c in
    let l = lawful.state in
    let long : length (heading_bytes c) ≡ 55 =
    omega (arith, length-append s.session (s.root ++ ep), length-append s.root ep, l.session_long, l.root_long) in
    get_or_append_left text (replicate (PAGE - length text) 0) 9 54 (omega (arith, is.some))
    ∙ ap (λ (t : List ℕ). get_or t 54 9) (text_pieces c)
    ∙ get_or_append_left (heading_bytes c) _ 9 54 (omega (arith, long))
    ∙ get_or-append_right s.session (s.root ++ ep) 16 51 9 l.session_long (omega arith)
    ∙ get_or-append_right s.root ep 32 35 9 l.root_long (omega arith)

-- ---- how long its packet is

packet_short : (session agreement key : List ℕ) (previous : ℕ) (body : Body) (p : Position) → length session ≡ 16
    → length agreement ≡ 64 → length body.content ≡ 5
    → length (posted PLAIN session p previous agreement key body).packet ≤ 300
unfolding posted sealed_body
packet_short session agreement key previous body p long message text =
    let f = sealing PLAIN session p previous agreement key body in
    let tag : length f.tag ≡ 32 = length-tag_of _ _ _ in
    let sealed : length f.ciphertext ≡ length body.content = length-ciphertext_of _ body.content in
    omega (arith, length-packet_of f long tag, message, sealed, text)

module _ (number : ℕ) (before : IsLawfulClient open_kem (begun_client open_kem (hub_begin number))) where
  abbrev first : Client
  first = begun_client open_kem (hub_begin number)

  small_first : IsSmall first
  unfolding print_items
  small_first = record {
    lawful = before;
    reception = record { chain = stream_of (peer_key number).bytes; reach = 0 };
    receiving_is = refl;
    kept_none = refl;
    inbox_none = refl;
    packets = omega arith;
  }

  pub page_first : IsOnePage (record_text first)
  page_first = one_page first small_first

  module _ (turn : List ℕ × List ℕ × List ℕ)
      (after : IsLawfulClient open_kem (turned first (first_body open_kem number hello) turn).next) where
    abbrev said : SaidText
    said = turned first (first_body open_kem number hello) turn

    packet_long : length said.post.packet ≤ 300
    packet_long = packet_short first.state.session turn.1 _ first.state.previous (first_body open_kem number hello) _
        after.state.session_long after.state.phase.1.agreement_long refl

    small_said : IsSmall said.next
    unfolding print_items
    small_said = record {
      lawful = after;
      reception = record { chain = stream_of (peer_key number).bytes; reach = 0 };
      receiving_is = refl;
      kept_none = refl;
      inbox_none = refl;
      packets = omega (
        arith,
        packet_long,
        length-append (to_be_bytes w16 (length said.post.packet) ++ said.post.packet) [],
      );
    }

    pub page_said : IsOnePage (record_text said.next)
    page_said = one_page said.next small_said

    pub pages_differ : bytes_eq (filled_page (record_text first)) (filled_page (record_text said.next)) ≡ false
    pages_differ = differ (filled_page (record_text first)) (filled_page (record_text said.next)) (λ e.
        let same : 0 ≡ 1 =
        sym (epoch_byte first before page_first)
        ∙ ap (λ (l : List ℕ). get_or l 54 9) e ∙ epoch_byte said.next after page_said in
        omega (arith, same))
