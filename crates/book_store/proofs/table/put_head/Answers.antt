use Rattle.std.proofs.Common.{rules, ℕ, ◌≡◌, ◌+◌, ◌-◌, List, ◌∷◌, ◌++◌, ◌%◌, [], length, replicate, take, ap, ◌∙◌, arith}
use Rattle.std.proofs.lemmas.List.{length-replicate}
use Rattle.std.proofs.lemmas.Slice.{take-put_mid}
use Rattle.relay_wire.specs.declared.limits.TheConstants.{NAME_LIMIT}
use Rattle.book_store.proofs.table.put_head.Goals as goal
use Rattle.book_store.specs.declared.layout.TheConstants.{RECORD_PLACE}

pub returns-clause-head : goal.returns-clause-head
returns-clause-head c =
    let ys = c.fill.new.self in
    let name = c.args.name.now in
    let at = c.put-at.result in
    let k = RECORD_PLACE + 1 - at in
    let next : at ≡ 2 + length name =
    omega (arith, c.put-at.ensures.next_is, c.put_u8-at-2.ensures.next_is, c.put_u8-at.ensures.next_is) in
    let small : length name % 256 ≡ length name = omega (arith, c.requires.named) in
    let same : ys ≡ replicate k 0 = search rules in
    let front : take at c.put-at.new.out ≡ 1 ∷ (length name ∷ name) =
    c.put-at.ensures.front ∙ ap (λ (l : List ℕ). l ++ name)
    (c.put_u8-at-2.ensures.front
    ∙ ap (λ (l : List ℕ). l ++ length name % 256 ∷ []) c.put_u8-at.ensures.front
    ∙ ap (λ n. 1 ∷ (n ∷ [])) small) in
    take-put_mid at k c.put-at.new.out ys (RECORD_PLACE + 1)
    (omega (arith, next, c.requires.named, ap length same, length-replicate {A = ℕ} k 0))
    (omega (arith, next, c.requires, c.put-at.auto.out, c.put_u8-at-2.auto.out, c.put_u8-at.auto.out))
    ∙ ap (λ (l : List ℕ). l ++ ys) front
    ∙ ap (λ (l : List ℕ). 1 ∷ (length name ∷ (name ++ l)))
    (same ∙ ap (λ n. replicate n 0) (let e : k ≡ NAME_LIMIT - length name = omega (arith, next) in e))
