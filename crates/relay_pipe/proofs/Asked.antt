-- How a request ends.
use Rattle.std.proofs.Common.{◌≡◌, ℕ, zero, suc, ◌+◌, ◌<◌, Bool, true, false, List, [], ◌∷◌, ◌++◌, length, drop, get_or, Result, Ok, Err, refl, sym, ◌∙◌, ap, subst, arith, append-nil}
use Rattle.std.specs.Prelude.{if◌then◌else◌}
use Rattle.std.proofs.lemmas.Nat.{be_bytes_2}
use Rattle.dr_ports.specs.Ports.{Rose}
use Rattle.dr_ports.specs.declared.pipe.Part.TheVariants.{Flow}
use Rattle.dr_ports.specs.Wires.{Port, EndsAt, Took}
use Rattle.dr_base.specs.Bytes.{AreBytes}
use Rattle.dr_base.proofs.Bytes.{byte_at, AreBytes-drop}
use Rattle.relay_wire.specs.Frames.{Held, IsFrame, IsPartial, framed, is_body_size, size_of}
use Rattle.relay_wire.specs.Replies.{Replied, IsLawfulReplied, read_reply}
use Rattle.relay_wire.specs.Requests.{Asked}
use Rattle.relay_wire.proofs.Replied.{only_reply}
use Rattle.relay_wire.specs.declared.reply.BadReply.{BadReply}
use Rattle.relay_wire.specs.declared.reply.BadReply.TheVariants.{Frame}
use Rattle.relay_pipe.specs.Asking.{IsBroken, IsFaulty, IsPulled, IsReplied, cut, unread, peer_fault, fault_at}
use Rattle.relay_wire.specs.Framed.{reply_text, request_frame}
use Rattle.relay_pipe.specs.Exchanging.{Exchanges}
use Rattle.relay_pipe.specs.Pulling.{Pulled}
use Rattle.relay_pipe.specs.declared.faults.PeerFault.{PeerFault}
use Rattle.relay_pipe.specs.declared.faults.PeerKind.TheVariants.{Ended}
use Rattle.relay_pipe.proofs.Exchanged.{answered_exchanges, pulled_held}

rose_since : (a b c : ℕ) → b ≡ a → Rose b c → Rose a c
rose_since a b c is rose = omega (arith, is, rose)

-- ---- the frame of a body that was read

no_body : (r : Result Replied BadReply) (reply : Replied) → r ≡ Err Frame → r ≡ Ok reply → ⊥
no_body r reply one two = let e : (Err Frame) ≡ (Ok reply) = sym one ∙ two in cc

unread_empty : read_reply [] ≡ Err Frame
unfolding read_reply
unread_empty = refl

two_bytes : (high low : ℕ) (more : List ℕ) → high < 256 → low < 256 → length more ≡ size_of high low → high ∷ (low ∷ more) ≡ framed more
two_bytes high low more h l is =
    ap (λ (b : List ℕ). b ++ more) (sym (be_bytes_2 (high ∷ (low ∷ [])) (length more) refl (λ i. small i) (is ∙ (omega arith))))
  where
    small : (i : ℕ) → get_or (high ∷ (low ∷ [])) i 0 < 256
    small i = byte_at (high ∷ (low ∷ [])) i (λ j d inside. each j d inside)
      where
        each : (j d : ℕ) → j < 2 → get_or (high ∷ (low ∷ [])) j d < 256
        each zero d inside = h
        each (suc zero) d inside = l
        each (suc (suc j)) d inside = absurd (omega (arith, inside))

pub framed_body : (frame : List ℕ) (reply : Replied) → IsFrame frame → AreBytes frame → read_reply (drop 2 frame) ≡ Ok reply → frame ≡ framed (drop 2 frame)
framed_body [] reply whole are reads = absurd (omega (arith, whole))
framed_body (one ∷ []) reply whole are reads = absurd (omega (arith, whole))
framed_body (high ∷ (low ∷ more)) reply whole are reads = by_size (is_body_size (size_of high low)) whole
  where
    by_size : (is : Bool) → length (high ∷ (low ∷ more)) ≡ (if is then 2 + size_of high low else 2) → high ∷ (low ∷ more) ≡ framed more
    by_size true long = two_bytes high low more (are 0 0 (omega arith)) (are 1 0 (omega arith)) (omega (arith, long))
    by_size false long = by_more more reads (omega (arith, long))
      where
        by_more : (rest : List ℕ) → read_reply rest ≡ Ok reply → length rest ≡ 0 → high ∷ (low ∷ rest) ≡ framed rest
        by_more [] r none = absurd (no_body (read_reply []) reply unread_empty r)
        by_more (x ∷ xs) r none = absurd (omega (arith, none))

pub whole_reply : (frame bytes : List ℕ) (reply : Replied) → bytes ≡ frame → IsFrame frame → AreBytes bytes → read_reply (drop 2 frame) ≡ Ok reply
    → (bytes ≡ reply_text reply) × IsLawfulReplied reply
whole_reply frame bytes reply same whole are reads =
    let own : AreBytes frame = subst AreBytes same are in
    let body = only_reply (drop 2 frame) reply (AreBytes-drop 2 frame own) reads in
    (same ∙ framed_body frame reply whole own reads ∙ ap framed body.0, body.1)

-- ---- the endings

module _ (asked : Asked) (old new : Held) (start mid now : Port) (fresh : old.bytes ≡ []) (took : Took (request_frame asked) start mid)
    (still : mid.faults Flow ≡ start.faults Flow) (pulled : Pulled old new mid now) where
  exchanged : Exchanges new.bytes (request_frame asked) start now
  exchanged = answered_exchanges new.bytes (request_frame asked) start mid now took (pulled_held old new mid now fresh pulled)

  pub broken : IsPartial new.bytes → Rose (mid.faults Flow) (now.faults Flow) → IsBroken (request_frame asked) start now
  broken partial rose = record {
    taken = request_frame asked;
    left = [];
    got = new.bytes;
    split = sym (append-nil (request_frame asked));
    told = exchanged;
    partial = partial;
    rose = rose_since (start.faults Flow) (mid.faults Flow) (now.faults Flow) still rose;
  }

  pub ended : (at : ℕ) → at ≡ length new.bytes → IsPartial new.bytes → EndsAt now → now.faults Flow ≡ mid.faults Flow
      → IsFaulty (request_frame asked) start now (fault_at at Ended)
  ended at is partial end quiet =
      subst (λ (n : ℕ). IsFaulty (request_frame asked) start now (fault_at n Ended)) (sym is) (cut new.bytes exchanged partial end (quiet ∙ still))

  pub came : IsFrame new.bytes → new.place ≡ 0 → now.faults Flow ≡ mid.faults Flow → IsPulled asked new start now
  came whole place quiet = record { told = exchanged; whole = whole; place = place; quiet = quiet ∙ still }

module _ (asked : Asked) (held : Held) (start now : Port) (pulled : IsPulled asked held start now) where
  pub refused : (bad : BadReply) (fault : PeerFault) → fault ≡ peer_fault bad → read_reply (drop 2 held.bytes) ≡ Err bad
      → IsFaulty (request_frame asked) start now fault
  refused bad fault is reads =
      subst (IsFaulty (request_frame asked) start now) (sym is) (unread held.bytes bad pulled.told pulled.whole reads pulled.quiet)

  pub answered : (reply : Replied) → held.bytes ≡ reply_text reply → IsLawfulReplied reply → IsReplied asked reply start now
  answered reply is lawful = record {
    told = subst (λ (b : List ℕ). Exchanges b (request_frame asked) start now) is pulled.told;
    lawful = lawful;
    quiet = pulled.quiet;
  }
