use Rattle.std.proofs.Common.{Err, Ok, Result, subst, sym}
use Rattle.book.specs.Books.{BookNow}
use Rattle.hub.specs.Beginning.{BeginsOne}
use Rattle.hub.specs.Held.{IsHeld}
use Rattle.hub.specs.declared.playing.FanPlayError.{FanPlayError}
use Rattle.hub.proofs.Lawful.{begins_as, begins_none, begins_one, first_error, still_held}
use Rattle.hub.proofs.hub.Hub.begin_one.Goals.{in-Err, in-Ok}
use Rattle.hub.proofs.hub.Hub.begin_one.Goals as goal

pub begin_error-requires : goal.begin_error-requires
begin_error-requires g c =
    let book = c.args.self.now in
    let held = subst (λ (b : BookNow). IsHeld b.store.rows b c.self.inside.disk) c.self.view_is c.self.invariant in
    let begins = begins_as g.K.Kem.mechanism c.args.number book c.begin.new.self c.self.inside.disk c.begin.new.disk
    c.self.inside.book c.peer_name-name.result.now c.peer_key-key.result (Err c.in-Err.error) c.self.view_is
    c.peer_name-name.ensures.name c.peer_key-key.ensures c.in-Err.ensures.begins in
    first_error g.K.Kem.mechanism c.args.number book c.begin.new.self c.self.inside.disk c.begin.new.disk held
    c.requires.first c.requires.few c.requires.fresh c.requires.room c.in-Err.error begins

pub invariant_of-self : goal.invariant_of-self
invariant_of-self g c =
    let book = c.args.self.now in
    let held = subst (λ (b : BookNow). IsHeld b.store.rows b c.self.inside.disk) c.self.view_is c.self.invariant in
    let begins = begins_as g.K.Kem.mechanism c.args.number book c.begin.new.self c.self.inside.disk c.begin.new.disk
    c.self.inside.book c.peer_name-name.result.now c.peer_key-key.result c.begin.result c.self.view_is
    c.peer_name-name.ensures.name c.peer_key-key.ensures c.begin.ensures.begins in
    still_held g.K.Kem.mechanism c.args.number book c.begin.new.self c.self.inside.disk c.begin.new.disk held
    c.begin.result begins

pub returns : goal.returns
returns g c =
    let k = g.K.Kem.mechanism in
    let number = c.args.number in
    let book = c.args.self.now in
    let disk = c.self.inside.disk in
    let held = subst (λ (b : BookNow). IsHeld b.store.rows b disk) c.self.view_is c.self.invariant in
    elim c.match-begin.branch [
      | in-Ok w ↦
          let begins = begins_as k number book c.begin.new.self disk c.begin.new.disk c.self.inside.book
          c.peer_name-name.result.now c.peer_key-key.result (Ok tt) c.self.view_is c.peer_name-name.ensures.name
          c.peer_key-key.ensures w.in-Ok.ensures.begins in
          subst (λ (r : Result Unit FanPlayError). BeginsOne k number book c.begin.new.self r) (sym w.result-is)
          (begins_one k number book c.begin.new.self disk c.begin.new.disk held c.requires.first c.requires.few
          c.requires.fresh c.requires.room c.peer_name-name.result.now c.peer_name-name.ensures.name begins w.lawful_under.ensures)
      | in-Err w ↦
          let begins = begins_as k number book c.begin.new.self disk c.begin.new.disk c.self.inside.book
          c.peer_name-name.result.now c.peer_key-key.result (Err w.in-Err.error) c.self.view_is c.peer_name-name.ensures.name
          c.peer_key-key.ensures w.in-Err.ensures.begins in
          subst (λ (r : Result Unit FanPlayError). BeginsOne k number book c.begin.new.self r) (sym w.result-is)
          (begins_none k number book c.begin.new.self disk c.begin.new.disk held c.requires.first c.requires.few
          c.requires.fresh c.requires.room w.in-Err.error begins w.begin_error.result w.begin_error.ensures)
    ]
