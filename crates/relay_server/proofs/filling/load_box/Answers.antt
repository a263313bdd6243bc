use Rattle.std.proofs.Common.{ℕ, List, Option, ap, length, refl, subst, sym, ◌∙◌}
use Rattle.std.proofs.lemmas.Bool.{eqb-false, eqb-true}
use Rattle.slot_store.specs.Store.{content}
use Rattle.relay_server.specs.Filling.{LoadsAt}
use Rattle.relay_server.proofs.LoadedBoxes.{none_clean, some_there, unchanged}
use Rattle.relay_server.proofs.filling.load_box.Goals as goal

pub load_record-requires-clause-clean : goal.load_record-requires-clause-clean
load_record-requires-clause-clean c =
    let more = eqb-false (length c.content-text.result.now) 0 (sym c.is_empty.ensures ∙ c.if-is_empty.false) in
    c.requires.clean c.content-text.result.now (some_there (content c.args.store.now) c.content-text.result.now c.content-text.ensures more)

pub returns-then-is_empty : goal.returns-then-is_empty
returns-then-is_empty c =
    let empty = eqb-true (length c.content-text.result.now) 0 (sym c.is_empty.ensures ∙ c.if-is_empty.true) in
    record {
      so = unchanged c.args.relay.now c.args.place (content c.args.store.now) (none_clean (content c.args.store.now) c.requires.clean (ap length (sym c.content-text.ensures) ∙ empty));
      count = refl;
    }

pub returns : goal.returns
returns c =
    let more = eqb-false (length c.content-text.result.now) 0 (sym c.is_empty.ensures ∙ c.if-is_empty.false) in
    let there = some_there (content c.args.store.now) c.content-text.result.now c.content-text.ensures more in
    subst (λ (text : Option (List ℕ)). LoadsAt c.args.place c.args.relay.now c.load_record.new.relay text c.load_record.result) (sym there) c.load_record.ensures
