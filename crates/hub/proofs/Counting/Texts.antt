-- A record of the hub's takes one page.
use Rattle.std.proofs.Common.{List, None, Option, Some, [], ap, arith, length, length-append, subst, ℕ, ◌++◌, ◌∙◌, ◌∷◌, ◌≡◌, ◌≤◌}
use Rattle.std.specs.Int.{div_ceil, to_be_bytes, w16, w32, w8}
use Rattle.std.proofs.lemmas.List.{take_all}
use Rattle.boxes.specs.Entries.{Entry}
use Rattle.dr_base.specs.declared.key.Kept.{Kept}
use Rattle.dr_base.specs.declared.limits.TheConstants.{PAGE}
use Rattle.dr_base.specs.declared.position.Side.{Side}
use Rattle.grammar.specs.Printer.{print_counted, print_items, print_maybe}
use Rattle.cka.specs.Agreement.{agreement_size}
use Rattle.packet.specs.Packet.{agreement_len}
use Rattle.kem_laws.specs.Open.{open_kem}
use Rattle.record_pages.specs.Pages.{filled_page, page_count, pages_in, pages_of}
use Rattle.session_model.specs.Clients.{Client}
use Rattle.session_model.specs.LawfulStates.{IsLawfulPhase, IsLawfulReception}
use Rattle.session_model.specs.States.{Phase, Reception, in_own, in_peers, receiving_epoch}
use Rattle.session_record.specs.Fields.{phase_text, reception_text}
use Rattle.session_record.specs.Lawful.{IsLawfulClient}
use Rattle.session_record.specs.Lists.{entry_text, kept_text, post_text}
use Rattle.session_record.specs.Record.{keys_in, record_text}
use Rattle.session_record.specs.Versions.{newest}
use Rattle.session_record.proofs.RelayGrammar.{size-relay}
use Rattle.session_record.proofs.Sizes.{keys_size, size-awaiting, text_size}

-- ---- its length

-- the agreement message of an epoch, over the stand-in
message_short : (epoch : ℕ) → agreement_len (agreement_size open_kem) epoch ≤ 64
message_short epoch = grind arith

phase_short : (side : Side) (epoch : ℕ) (phase : Phase) → IsLawfulPhase open_kem side epoch phase
    → length (phase_text phase) ≤ 200
phase_short side epoch (in_own own) l =
    let sent = to_be_bytes w32 own.sent in
    omega (
      arith,
      length-append own.secret (own.agreement ++ (own.chain ++ sent)),
      length-append own.agreement (own.chain ++ sent),
      length-append own.chain sent,
      l.1.secret_long,
      l.1.agreement_long,
      l.1.chain_long,
      message_short epoch,
    )
phase_short side epoch (in_peers public) l = omega (arith, l.1)

chain_long : (kept : List Kept) (r : Reception) (epoch : Option ℕ) → IsLawfulReception kept (Some r) epoch
    → length r.chain ≡ 32
chain_long kept r None l = absurd l
chain_long kept r (Some epoch) l = l.0

-- a record with one packet at most, of which this is known
pub record IsSmall (c : Client) : Type 0 where
  pub lawful : IsLawfulClient open_kem c
  pub reception : Reception
  pub receiving_is : c.state.receiving ≡ Some reception
  pub kept_none : c.state.kept ≡ []
  pub inbox_none : c.inbox ≡ []
  pub packets : length (print_counted w8 post_text c.outbox) ≤ 400

pub record IsOnePage (text : List ℕ) : Type 0 where
  pub some : 55 ≤ length text
  pub fits : length text ≤ PAGE

pub one_page : (c : Client) → IsSmall c → IsOnePage (record_text c)
unfolding print_items
one_page c is =
    let s = c.state in
    let r = is.reception in
    let l = is.lawful.state in
    let chain = chain_long s.kept r (receiving_epoch s.side s.epoch)
    (subst (λ (o : Option Reception). IsLawfulReception s.kept o (receiving_epoch s.side s.epoch)) is.receiving_is l.receiving) in
    let receiving = ap (λ (o : Option Reception). length (print_maybe reception_text o)) is.receiving_is in
    let stream = length-append r.chain (to_be_bytes w32 r.reach) in
    let kept = ap (λ (l : List Kept). length (print_counted w16 kept_text l)) is.kept_none in
    let inbox = ap (λ (l : List Entry). length (print_counted w8 (entry_text newest) l)) is.inbox_none in
    let heading = length-append s.session (s.root ++ to_be_bytes w32 s.epoch) in
    let root = length-append s.root (to_be_bytes w32 s.epoch) in
    let phase = phase_short s.side s.epoch s.phase l.phase in
    record {
      some = omega (arith, text_size c, keys_size (keys_in s), heading, root, l.session_long, l.root_long);
      fits = omega (
        arith,
        text_size c,
        keys_size (keys_in s),
        heading,
        root,
        l.session_long,
        l.root_long,
        phase,
        receiving,
        stream,
        chain,
        kept,
        inbox,
        is.packets,
        size-awaiting s.awaiting,
        l.waiting.few,
        size-relay c.relay is.lawful.relay,
      );
    }

-- ---- its page

count_one : (n : ℕ) → 1 ≤ n → n ≤ PAGE → div_ceil n PAGE ≡ 1
count_one n some few = omega arith

pub page_is : (text : List ℕ) → IsOnePage text → pages_in text ≡ filled_page text ∷ []
page_is text is =
    ap (λ n. pages_of n text) (count_one (length text) (omega (arith, is.some)) is.fits)
    ∙ ap (λ (l : List ℕ). filled_page l ∷ []) (take_all PAGE text is.fits)

pub count_is : (text : List ℕ) → IsOnePage text → page_count (length text) ≡ 1
count_is text is = count_one (length text) (omega (arith, is.some)) is.fits
