-- A sync of a side whose disk stops in it and then crashes: what its client, opened again, keeps.
use Rattle.std.specs.Prelude.{List, Ok, ◌++◌, ◌≡◌, ℕ}
use Rattle.kem_laws.specs.Mechanism.{Mechanism}
use Rattle.relay_wire.specs.Replies.{Replied}
use Rattle.session_model.specs.Clients.{Client}
use Rattle.session_record.specs.Record.{record_read, record_text}
use Rattle.sync_model.specs.Courses.{course_of}
use Rattle.client.specs.Syncing.Parties.{client_party}

-- what is read in the record of what the course keeps after a beginning of the replies
pub record IsCutSync (k : Mechanism) (prefix : List ℕ) (first next : Client) : Type 0 where
  pub replies : List Replied
  pub front : List Replied
  pub back : List Replied
  pub split : replies ≡ front ++ back
  pub reads : record_read k (record_text (course_of (client_party k prefix first) first front).state) ≡ Ok next
