use Rattle.std.proofs.Common.{◌∙◌, Global, List, Vec, ap, drop, length, take, ℕ}
use Rattle.std.proofs.lemmas.List.{with_items_is}
use Rattle.paged_records.proofs.kept.take_over.Goals as goal

pub returns-clause-long : goal.returns-clause-long
returns-clause-long c =
    let now = with_items_is c.swap.new.x c.blank.new.bytes (c.blank.auto.bytes ∙ c.deref_mut.ensures.len) in
    ap (λ (l : List ℕ). length l) now ∙ c.blank.auto.bytes
    ∙ ap (λ (l : List ℕ). length l) c.deref_mut.ensures.value
    ∙ ap (λ (v : Vec ℕ Global). length v.items) c.swap.ensures.x_after

pub returns-clause-blank : goal.returns-clause-blank
returns-clause-blank c =
    let now = with_items_is c.swap.new.x c.blank.new.bytes (c.blank.auto.bytes ∙ c.deref_mut.ensures.len) in
    ap (λ (l : List ℕ). drop c.args.len (take c.args.end l)) now ∙ c.blank.ensures.blank

pub returns-clause-text : goal.returns-clause-text
returns-clause-text c =
    let now = with_items_is c.swap.new.x c.blank.new.bytes (c.blank.auto.bytes ∙ c.deref_mut.ensures.len) in
    ap (λ (l : List ℕ). take c.args.len l) now ∙ c.blank.ensures.before
    ∙ ap (λ (l : List ℕ). take c.args.len l) c.deref_mut.ensures.value
    ∙ ap (λ (v : Vec ℕ Global). take c.args.len v.items) c.swap.ensures.x_after
