use Rattle.std.proofs.Common.{◌≡◌, ℕ, ◌-◌, ◌++◌, List, append-nil, ap, ap₂, subst, sym, ◌∙◌, arith}
use Rattle.fs_aead.specs.Chain.{chain_of}
use Rattle.fs_aead.specs.Rows.{starts_of}
use Rattle.fs_aead.specs.Stream.{Stream}
use Rattle.fs_aead.specs.Table.{IsAscending, shelved}
use Rattle.fs_aead.proofs.Streams.{chain_of-zero, shelved-ascending}
use Rattle.fs_aead.proofs.receiving.ReceiveStream.advance.Goals as goal

pub returns-then-self-to-clause-stream : goal.returns-then-self-to-clause-stream
returns-then-self-to-clause-stream c =
    let chain = c.args.self.chain in
    let stream : List ℕ → ℕ → Stream = λ bytes count. record { chain = bytes; count = count } in
    let count : c.args.self.count ≡ c.args.to = sym (ap (λ (s : Stream). s.count) c.self.view_is) ∙ c.if-self-to.true in
    let none : c.args.to - c.args.self.count ≡ 0 = omega arith in
    ap₂ stream (sym (chain_of-zero chain) ∙ ap (chain_of chain) (sym none)) count

pub returns-then-self-to-clause-shelved : goal.returns-then-self-to-clause-shelved
unfolding shelved
returns-then-self-to-clause-shelved c =
    let keys = c.args.skipped.now in
    let count : c.args.self.count ≡ c.args.to = sym (ap (λ (s : Stream). s.count) c.self.view_is) ∙ c.if-self-to.true in
    let none : c.args.to - c.args.self.count ≡ 0 = omega arith in
    sym (append-nil keys) ∙ ap (λ (n : ℕ). keys ++ shelved c.args.epoch c.args.self.chain c.args.self.count n) (sym none)

pub invariant_of-skipped : goal.invariant_of-skipped
invariant_of-skipped c =
    let up = shelved-ascending c.args.epoch c.args.self.chain c.args.self.count (c.args.to - c.args.self.count) c.skipped.inside.keys.items c.skipped.invariant.0
    (rw c.skipped.view_is c.requires.below) in
    (subst IsAscending (sym c.advance_into-stream.ensures.shelved) up, c.mark_rows.ensures ∙ ap starts_of c.as_slice.ensures.value)
