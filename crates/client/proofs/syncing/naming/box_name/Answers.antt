use Rattle.std.proofs.Common.{ap, ◌∙◌}
use Rattle.relay_wire.specs.Names.{is_name}
use Rattle.client.proofs.Syncs.Naming.{are_small, name_lawful}
use Rattle.client.proofs.syncing.naming.box_name.Goals as goal

pub unwrap-requires : goal.unwrap-requires
unwrap-requires c =
    c.new.ensures.variant ∙ ap is_name (c.as_bytes.ensures ∙ c.box_bytes.ensures.name)
    ∙ name_lawful c.args.session.now c.told-session (are_small c.args.session.now c.fits-session) c.args.side
