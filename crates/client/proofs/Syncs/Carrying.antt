-- What came over a link that carries a relay's replies, by what was sent.
use Rattle.std.proofs.Common.{List, Option, Some, ap, subst, sym, ℕ, ◌++◌, ◌∙◌, ◌≡◌, append_assoc}
use Rattle.std.specs.Prelude.{IfSome, option_map}
use Rattle.std.proofs.lemmas.List.{append_cancel_left}
use Rattle.dr_ports.specs.Wires.{EndsAt, IsAhead, IsAtEnd, Port, Told}
use Rattle.relay_core.specs.Boxes.{Box}
use Rattle.relay_core.specs.Streams.{reply_bytes, served}
use Rattle.relay_pipe.specs.Exchanging.{Exchanges, exchanged}
use Rattle.client.specs.Syncing.Transfers.{CarriesReplies}

-- what came, with what is still to come, is what the relay replies
pub record Came (boxes : List Box) (got put : List ℕ) : Type 0 where
  pub more : List ℕ
  pub whole : got ++ more ≡ reply_bytes (served boxes put)

module _ (boxes : List Box) (start now : Port) (carries : CarriesReplies boxes start) (got put : List ℕ) (told : Exchanges got put start now) where
  abbrev then : Told
  then = exchanged got put carries.told

  now_is : now.told ≡ Some then
  now_is = told ∙ ap (option_map (exchanged got put)) carries.tells

  pub came : IfSome now.told (λ (t : Told). IsAhead t.now) → Came boxes got put
  came ahead =
      let at : IsAhead then.now = subst (λ (o : Option Told). IfSome o (λ (t : Told). IsAhead t.now)) now_is ahead in
      record {
        more = at.0;
        whole = append_cancel_left carries.told.now.received (got ++ at.0) (reply_bytes (served boxes put))
            (sym (append_assoc carries.told.now.received got at.0) ∙ sym at.1 ∙ carries.gives put);
      }

  pub came_all : EndsAt now → got ≡ reply_bytes (served boxes put)
  came_all ends =
      let at : IsAtEnd then.now = subst (λ (o : Option Told). IfSome o (λ (t : Told). IsAtEnd t.now)) now_is ends in
      append_cancel_left carries.told.now.received got (reply_bytes (served boxes put)) (at ∙ carries.gives put)
