-- What a reader of a client's record has read.
use Rattle.std.specs.Prelude.{None, Ok, Option, Some, List, [], ℕ, ◌≡◌}
use Rattle.boxes.specs.Entries.{Entry}
use Rattle.boxes.specs.Posts.{Post}
use Rattle.kem_laws.specs.Mechanism.{Mechanism}
use Rattle.session_model.specs.States.{State}
use Rattle.session_model.specs.declared.relay_keys.RelayKeys.{RelayKeys}
use Rattle.session_record.specs.Lawful.{IsLawfulClient}
use Rattle.session_record.specs.Record.{client_of, record_read}

-- nothing was read: there is no session, and the boxes are empty
pub record HasReadNothing (session : Option State) (inbox : List Entry) (outbox : List Post) : Type 0 where
  pub session_is : session ≡ None
  pub inbox_is : inbox ≡ []
  pub outbox_is : outbox ≡ []

-- a text was read as the session with these boxes, and with these keys of its boxes at a relay
pub record HasReadClient (k : Mechanism) (session : Option State) (inbox : List Entry) (outbox : List Post) (relay : Option RelayKeys)
    (text : List ℕ) : Type 0 where
  pub state : State
  pub session_is : session ≡ Some state
  pub read : record_read k text ≡ Ok (client_of state inbox outbox relay)
  pub lawful : IsLawfulClient k (client_of state inbox outbox relay)
