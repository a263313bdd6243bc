use Rattle.std.proofs.Common.{ℕ, List, append-nil, ap, ap₂, arith, sym, ◌++◌, ◌-◌, ◌≡◌, ◌∙◌}
use Rattle.fs_aead.specs.Chain.{chain_of}
use Rattle.fs_aead.specs.Stream.{Stream}
use Rattle.fs_aead.specs.Table.{shelved}
use Rattle.fs_aead.proofs.Streams.{chain_of-zero}
use Rattle.ratchet.specs.Seen.{kept_in}
use Rattle.ratchet.proofs.table.KeptRoom.pass.Goals as goal

pub returns-then-reach-to-clause-stream : goal.returns-then-reach-to-clause-stream
returns-then-reach-to-clause-stream c =
    let chain = c.args.chain.bytes in
    let stream : List ℕ → ℕ → Stream = λ bytes count. record { chain = bytes; count = count } in
    let count : c.args.reach ≡ c.args.to = c.if-reach-to.true in
    let none : c.args.to - c.args.reach ≡ 0 = omega arith in
    c.resume-stream.ensures ∙ ap₂ stream (sym (chain_of-zero chain) ∙ ap (chain_of chain) (sym none)) count

pub returns-then-reach-to-clause-shelved : goal.returns-then-reach-to-clause-shelved
unfolding shelved
returns-then-reach-to-clause-shelved c =
    let keys = kept_in c.args.kept.now c.args.self.now in
    let count : c.args.reach ≡ c.args.to = c.if-reach-to.true in
    let none : c.args.to - c.args.reach ≡ 0 = omega arith in
    sym (append-nil keys) ∙ ap (λ (n : ℕ). keys ++ shelved c.args.epoch c.args.chain.bytes c.args.reach n) (sym none)
