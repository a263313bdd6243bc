use Rattle.std.proofs.Common.{rules, ◌≡◌, Bool, false, List, [], get_or, length, replicate, refl, ◌∙◌, ap, subst, arith}
use Rattle.dr_disk.proofs.Calling.{none_made}
use Rattle.pages.specs.Runs.{CameNext}
use Rattle.pages.specs.Stops.{retire_call}
use Rattle.book_store.proofs.Books.RetireCall.{alone_here, done_here, failed_here, free_here, gone_long, lawful_now, newest_here, no_calls, passed_here, seen, whole_here}
use Rattle.book_store.specs.Committing.{call_of}
use Rattle.book_store.specs.Held.{drops_seen}
use Rattle.book_store.specs.Rows.{names_by}
use Rattle.book_store.specs.declared.held.HeldRow.{HeldRow}
use Rattle.book_store.proofs.store.BookStore.retire.Goals as goal

pub invariant_of-self-inside : goal.invariant_of-self-inside
invariant_of-self-inside g c =
    let clear : c.fill.new.self.items ≡ replicate (length c.self.inside.staged.items) false = search rules in (
      lawful_now c.args.self.now c.self.inside.desk c.self.inside.rows.items c.self.inside.staged.items c.self.inside.replaced
          c.self.view_is c.self.inside.lawful
          c.fill.new.self.items clear,
      (
        c.self.inside.laid,
        (
          c.self.inside.rooms,
          (omega (arith, c.self.inside.gathered, c.gather.ensures.room), (c.self.inside.zero, tt)),
        ),
      ),
    )

pub returns-then-not-self-clause-next : goal.returns-then-not-self-clause-next
returns-then-not-self-clause-next g c =
    let clear : c.fill.new.self.items ≡ replicate (length c.self.inside.staged.items) false = search rules in
    seen c.args.self.now c.self.inside.desk c.self.inside.rows.items c.self.inside.staged.items c.self.inside.replaced
    c.self.view_is c.self.inside.lawful
    c.fill.new.self.items clear

pub returns-in-Err-clause-next : goal.returns-in-Err-clause-next
returns-in-Err-clause-next g c =
    let clear : c.fill.new.self.items ≡ replicate (length c.self.inside.staged.items) false = search rules in
    seen c.args.self.now c.self.inside.desk c.self.inside.rows.items c.self.inside.staged.items c.self.inside.replaced
    c.self.view_is c.self.inside.lawful
    c.fill.new.self.items clear

pub returns-clause-next : goal.returns-clause-next
returns-clause-next g c =
    let clear : c.fill.new.self.items ≡ replicate (length c.self.inside.staged.items) false = search rules in
    seen c.args.self.now c.self.inside.desk c.self.inside.rows.items c.self.inside.staged.items c.self.inside.replaced
    c.self.view_is c.self.inside.lawful
    c.fill.new.self.items clear

pub returns-then-not-self-clause-at_rest : goal.returns-then-not-self-clause-at_rest
returns-then-not-self-clause-at_rest g c =
    let clear : c.fill.new.self.items ≡ replicate (length c.self.inside.staged.items) false = search rules in
    alone_here c.args.self.now c.self.inside.desk c.self.inside.rows.items c.self.inside.staged.items c.self.inside.replaced
    c.self.view_is c.self.inside.lawful
    c.fill.new.self.items clear (g.D.Disk.state c.args.disk.now) c.requires.awaits c.if-not-self.true

pub returns-then-not-self-clause-calls : goal.returns-then-not-self-clause-calls
returns-then-not-self-clause-calls g c = record {
  passed = no_calls c.args.self.now c.self.inside.desk c.self.inside.rows.items c.self.inside.staged.items c.self.inside.replaced
      c.self.view_is c.self.inside.lawful
      (g.D.Disk.state c.args.disk.now) c.if-not-self.true;
  few = tt;
  went = none_made call_of _ (g.D.Disk.state c.args.disk.now);
}

pub retire-requires-clause-free : goal.retire-requires-clause-free
retire-requires-clause-free g c =
    let gone : c.deref-3.result.now ≡ names_by c.self.inside.desk.rows 0
    (λ r. get_or (drops_seen c.self.inside.staged.items c.self.inside.rows.items) r []) =
    c.deref-3.ensures.value ∙ c.gather.ensures.gathered
    ∙ ap (λ (l : List Bool). names_by c.self.inside.desk.rows 0 (λ r. get_or (drops_seen l c.deref.result.now) r [])) c.deref-2.ensures.value
    ∙ ap (λ (l : List HeldRow). names_by c.self.inside.desk.rows 0 (λ r. get_or (drops_seen c.self.inside.staged.items l) r [])) c.deref.ensures.value in
    free_here c.args.self.now c.self.inside.desk c.self.inside.rows.items c.self.inside.staged.items c.self.inside.replaced
    c.self.view_is c.self.inside.lawful
    (g.D.Disk.state c.args.disk.now) c.requires.awaits c.deref-3.result.now gone
    (omega (arith, c.size-size.ensures, c.size-size.type_inv)) c.requires.within

pub retire-requires-clause-newest : goal.retire-requires-clause-newest
retire-requires-clause-newest g c =
    let gone : c.deref-3.result.now ≡ names_by c.self.inside.desk.rows 0
    (λ r. get_or (drops_seen c.self.inside.staged.items c.self.inside.rows.items) r []) =
    c.deref-3.ensures.value ∙ c.gather.ensures.gathered
    ∙ ap (λ (l : List Bool). names_by c.self.inside.desk.rows 0 (λ r. get_or (drops_seen l c.deref.result.now) r [])) c.deref-2.ensures.value
    ∙ ap (λ (l : List HeldRow). names_by c.self.inside.desk.rows 0 (λ r. get_or (drops_seen c.self.inside.staged.items l) r [])) c.deref.ensures.value in
    newest_here c.args.self.now c.self.inside.desk c.self.inside.rows.items c.self.inside.staged.items c.self.inside.replaced
    c.self.view_is c.self.inside.lawful
    (g.D.Disk.state c.args.disk.now) c.requires.awaits c.deref-3.result.now gone

pub retire-requires-clause-zero : goal.retire-requires-clause-zero
retire-requires-clause-zero g c = c.deref-4.ensures.value ∙ c.self.inside.zero

pub returns-clause-any_moment : goal.returns-clause-any_moment
returns-clause-any_moment g c =
    let gone : c.deref-3.result.now ≡ names_by c.self.inside.desk.rows 0
    (λ r. get_or (drops_seen c.self.inside.staged.items c.self.inside.rows.items) r []) =
    c.deref-3.ensures.value ∙ c.gather.ensures.gathered
    ∙ ap (λ (l : List Bool). names_by c.self.inside.desk.rows 0 (λ r. get_or (drops_seen l c.deref.result.now) r [])) c.deref-2.ensures.value
    ∙ ap (λ (l : List HeldRow). names_by c.self.inside.desk.rows 0 (λ r. get_or (drops_seen c.self.inside.staged.items l) r [])) c.deref.ensures.value in
    whole_here c.args.self.now c.self.inside.desk c.self.inside.rows.items c.self.inside.staged.items c.self.inside.replaced
    c.self.view_is c.self.inside.lawful
    (g.D.Disk.state c.args.disk.now) c.requires.awaits c.deref-3.result.now gone
    (g.D.Disk.state c.retire.new.disk) _ c.in-Ok.ensures.runs c.in-Ok.ensures.retires

pub returns-in-Err-clause-any_moment : goal.returns-in-Err-clause-any_moment
returns-in-Err-clause-any_moment g c =
    let gone : c.deref-3.result.now ≡ names_by c.self.inside.desk.rows 0
    (λ r. get_or (drops_seen c.self.inside.staged.items c.self.inside.rows.items) r []) =
    c.deref-3.ensures.value ∙ c.gather.ensures.gathered
    ∙ ap (λ (l : List Bool). names_by c.self.inside.desk.rows 0 (λ r. get_or (drops_seen l c.deref.result.now) r [])) c.deref-2.ensures.value
    ∙ ap (λ (l : List HeldRow). names_by c.self.inside.desk.rows 0 (λ r. get_or (drops_seen c.self.inside.staged.items l) r [])) c.deref.ensures.value in
    whole_here c.args.self.now c.self.inside.desk c.self.inside.rows.items c.self.inside.staged.items c.self.inside.replaced
    c.self.view_is c.self.inside.lawful
    (g.D.Disk.state c.args.disk.now) c.requires.awaits c.deref-3.result.now gone
    (g.D.Disk.state c.retire.new.disk) _ c.in-Err.ensures.runs c.in-Err.ensures.retires

pub returns-clause-at_rest : goal.returns-clause-at_rest
returns-clause-at_rest g c =
    let clear : c.fill.new.self.items ≡ replicate (length c.self.inside.staged.items) false = search rules in
    let gone : c.deref-3.result.now ≡ names_by c.self.inside.desk.rows 0
    (λ r. get_or (drops_seen c.self.inside.staged.items c.self.inside.rows.items) r []) =
    c.deref-3.ensures.value ∙ c.gather.ensures.gathered
    ∙ ap (λ (l : List Bool). names_by c.self.inside.desk.rows 0 (λ r. get_or (drops_seen l c.deref.result.now) r [])) c.deref-2.ensures.value
    ∙ ap (λ (l : List HeldRow). names_by c.self.inside.desk.rows 0 (λ r. get_or (drops_seen c.self.inside.staged.items l) r [])) c.deref.ensures.value in
    done_here c.args.self.now c.self.inside.desk c.self.inside.rows.items c.self.inside.staged.items c.self.inside.replaced
    c.self.view_is c.self.inside.lawful
    (g.D.Disk.state c.args.disk.now) c.requires.awaits c.deref-3.result.now gone
    (g.D.Disk.state c.retire.new.disk) _ c.fill.new.self.items clear c.in-Ok.ensures.runs c.in-Ok.ensures.retires
    (g.met.D.Disk.lawful c.args.disk.now)

pub returns-clause-calls : goal.returns-clause-calls
returns-clause-calls g c =
    let gone : c.deref-3.result.now ≡ names_by c.self.inside.desk.rows 0
    (λ r. get_or (drops_seen c.self.inside.staged.items c.self.inside.rows.items) r []) =
    c.deref-3.ensures.value ∙ c.gather.ensures.gathered
    ∙ ap (λ (l : List Bool). names_by c.self.inside.desk.rows 0 (λ r. get_or (drops_seen l c.deref.result.now) r [])) c.deref-2.ensures.value
    ∙ ap (λ (l : List HeldRow). names_by c.self.inside.desk.rows 0 (λ r. get_or (drops_seen c.self.inside.staged.items l) r [])) c.deref.ensures.value in
    passed_here c.args.self.now c.self.inside.desk c.self.inside.rows.items c.self.inside.staged.items c.self.inside.replaced
    c.self.view_is c.self.inside.lawful
    (g.D.Disk.state c.args.disk.now) c.requires.awaits c.deref-3.result.now gone
    (g.D.Disk.state c.retire.new.disk) _ _ c.in-Ok.ensures.runs c.if-not-self.false

pub returns-in-Err-clause-calls : goal.returns-in-Err-clause-calls
returns-in-Err-clause-calls g c =
    let gone : c.deref-3.result.now ≡ names_by c.self.inside.desk.rows 0
    (λ r. get_or (drops_seen c.self.inside.staged.items c.self.inside.rows.items) r []) =
    c.deref-3.ensures.value ∙ c.gather.ensures.gathered
    ∙ ap (λ (l : List Bool). names_by c.self.inside.desk.rows 0 (λ r. get_or (drops_seen l c.deref.result.now) r [])) c.deref-2.ensures.value
    ∙ ap (λ (l : List HeldRow). names_by c.self.inside.desk.rows 0 (λ r. get_or (drops_seen c.self.inside.staged.items l) r [])) c.deref.ensures.value in
    failed_here c.args.self.now c.self.inside.desk c.self.inside.rows.items c.self.inside.staged.items c.self.inside.replaced
    c.self.view_is c.self.inside.lawful
    (g.D.Disk.state c.args.disk.now) c.requires.awaits c.deref-3.result.now gone
    {T = Unit} {U = Unit} (g.D.Disk.state c.retire.new.disk) c.in-Err.call _ c.in-Err.ensures.runs refl c.if-not-self.false

pub returns-in-Err-clause-kind : goal.returns-in-Err-clause-kind
returns-in-Err-clause-kind g c =
    let gone : c.deref-3.result.now ≡ names_by c.self.inside.desk.rows 0
    (λ r. get_or (drops_seen c.self.inside.staged.items c.self.inside.rows.items) r []) =
    c.deref-3.ensures.value ∙ c.gather.ensures.gathered
    ∙ ap (λ (l : List Bool). names_by c.self.inside.desk.rows 0 (λ r. get_or (drops_seen l c.deref.result.now) r [])) c.deref-2.ensures.value
    ∙ ap (λ (l : List HeldRow). names_by c.self.inside.desk.rows 0 (λ r. get_or (drops_seen c.self.inside.staged.items l) r [])) c.deref.ensures.value in
    subst (λ n. CameNext (retire_call n) (g.D.Disk.state c.args.disk.now) (g.D.Disk.state c.retire.new.disk) c.in-Err.call)
    (gone_long c.args.self.now c.self.inside.desk c.self.inside.rows.items c.self.inside.staged.items c.self.inside.replaced
    c.self.view_is c.self.inside.lawful
    (g.D.Disk.state c.args.disk.now) c.requires.awaits c.deref-3.result.now gone)
    c.in-Err.ensures.kind
