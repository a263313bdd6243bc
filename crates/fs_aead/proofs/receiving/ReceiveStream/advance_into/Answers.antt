use Rattle.std.proofs.Common.{◌≡◌, ◌+◌, ◌++◌, ◌∷◌, [], refl, length, length-append, append-nil, append_assoc, sym, ap, ◌∙◌, arith}
use Rattle.fs_aead.specs.Chain.{chain_of, next_chain, chain_message_key}
use Rattle.fs_aead.specs.Stream.{Stream}
use Rattle.fs_aead.specs.Table.{shelved}
use Rattle.dr_base.specs.declared.key.Kept.{Kept}
use Rattle.fs_aead.proofs.Streams.{chain_of-suc, length-shelved, shelved-suc}
use Rattle.fs_aead.proofs.receiving.ReceiveStream.advance_into.Goals as goal

pub keys-init : goal.keys-init
unfolding chain_of shelved
keys-init c =
    let reach = ap (λ (s : Stream). s.count) c.self.view_is in
    record {
      chain = refl;
      count = omega arith;
      kept = sym (append-nil c.args.table.now.items);
    }

pub push-requires : goal.push-requires
push-requires c =
    let keys = shelved c.args.epoch c.args.self.chain c.self.inside.reach c.keys.passed in
    let passed = length-shelved c.args.epoch c.args.self.chain c.self.inside.reach c.keys.passed in
    let reach = ap (λ (s : Stream). s.count) c.self.view_is in
    let len = ap length c.keys.invariant.kept ∙ length-append c.args.table.now.items keys in
    (omega arith, omega arith)

pub keys-preserved : goal.keys-preserved
keys-preserved c =
    let key : c.shelve.result.bytes ≡ chain_message_key (chain_of c.args.self.chain c.keys.passed) =
    c.shelve.ensures ∙ c.next-later.ensures.key ∙ ap chain_message_key c.keys.invariant.chain in
    let passed : Kept = record {
      position = record { epoch = c.args.epoch; index = c.self.inside.reach + c.keys.passed + 1 };
      key = c.shelve.result;
    } in
    let keys = shelved c.args.epoch c.args.self.chain c.self.inside.reach c.keys.passed in
    let last = shelved-suc c.args.epoch c.args.self.chain c.self.inside.reach c.keys.passed passed refl refl key in
    let count = ap (λ (s : Stream). s.count) c.next-later.ensures.stream in
    record {
      chain = ap (λ (s : Stream). s.chain) c.next-later.ensures.stream ∙ ap next_chain c.keys.invariant.chain
          ∙ sym (chain_of-suc c.args.self.chain c.keys.passed);
      count = omega arith;
      kept = c.push.ensures.items ∙ ap (λ t. t ++ passed ∷ []) c.keys.invariant.kept
          ∙ append_assoc c.args.table.now.items keys (passed ∷ []) ∙ ap (λ t. c.args.table.now.items ++ t) last;
    }
