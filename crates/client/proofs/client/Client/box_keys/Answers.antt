use Rattle.std.proofs.Common.{Some, ap, sym, ◌∙◌}
use Rattle.std.specs.Prelude.{option_map}
use Rattle.sync_model.specs.Tokens.{SyncKeys}
use Rattle.dr_base.specs.declared.position.Side.{Side}
use Rattle.client.specs.Syncing.Keys.{side_keys}
use Rattle.client.proofs.client.Client.box_keys.Goals as goal

pub returns-in-Some : goal.returns-in-Some
returns-in-Some g c =
    ap (λ (k : SyncKeys). Some k) c.of.ensures ∙ ap (λ (s : Side). Some (side_keys s c.in-Some.keys)) c.side.ensures
    ∙ ap (option_map (side_keys c.args.self.now.kept.state.side)) (sym c.in-Some.is ∙ c.relay_keys.ensures)

pub returns-in-None : goal.returns-in-None
returns-in-None g c = ap (option_map (side_keys c.args.self.now.kept.state.side)) (sym c.in-None.is ∙ c.relay_keys.ensures)
