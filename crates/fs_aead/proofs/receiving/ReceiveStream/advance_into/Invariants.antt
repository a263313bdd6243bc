use Rattle.std.proofs.Common.{◌≡◌, ◌+◌, ◌++◌}
use Rattle.fs_aead.specs.Chain.{chain_of}
use Rattle.fs_aead.specs.Table.{shelved}
use Rattle.fs_aead.proofs.receiving.ReceiveStream.advance_into.Given as goal

abbrev pub invariant-keys : goal.invariant-keys
invariant-keys l = record {
  chain : l.stream.chain ≡ chain_of l.fn.self.chain l.passed;
  count : l.stream.count ≡ l.reach + l.passed;
  kept : l.table.items ≡ l.initial.table.items ++ shelved l.epoch l.fn.self.chain l.reach l.passed;
}
