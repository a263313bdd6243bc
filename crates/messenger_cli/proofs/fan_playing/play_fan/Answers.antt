use Rattle.std.proofs.Common.{Err, Option, arith, refl, subst}
use Rattle.dr_disk.specs.declared.call.Mode.{Mode}
use Rattle.endings.proofs.Closing.{ends_behind, ends_cut}
use Rattle.endings.specs.declared.ending.Ending.TheVariants.{Done}
use Rattle.hub.proofs.Placing.{places_long}
use Rattle.hub.specs.Plays.{PlaysFan, fan_told}
use Rattle.hub.specs.declared.playing.FanPlayError.{FanPlayError}
use Rattle.hub.specs.declared.peers.TheConstants.{PEERS_LIMIT}
use Rattle.kem_laws.specs.Open.{open_kem}
use Rattle.messenger_cli.specs.FanPlaying.{PlaysFanBy}
use Rattle.messenger_cli.proofs.fan_playing.play_fan.Goals as goal

pub name_at-name-requires : goal.name_at-name-requires
name_at-name-requires g c =
    let Plays : FanPlayError → Type 0 = λ error.
    PlaysFan open_kem c.args.peers c.args.calls c.in-Some.mode (g.O.Sink.at c.args.out.now) (g.O.Sink.at c.fan_play.new.out)
    (Err error) in
    let refused = subst Plays c.in-Err-Peer.field-0-is c.in-Err-Peer.ensures.plays in
    omega (arith, refused.0.asked.0, c.in-Err-Peer.at-is, places_long c.args.peers, c.in-Some.ensures.few)

pub returns-in-Ok-clause-runs : goal.returns-in-Ok-clause-runs
returns-in-Ok-clause-runs g c =
    let played = c.in-Ok.ensures.plays in
    let lines = fan_told c.args.peers c.args.calls c.in-Some.mode in
    record {
      ending = Done;
      lines = lines;
      came =
          subst (λ (mode : Option Mode). PlaysFanBy c.args.peers c.args.calls mode Done lines) c.in-Some.ensures.value
          (played.0, refl);
      ends = ends_behind Done lines _ _ _ _ played.2 played.3 c.finish-in-Ok.ensures.ends;
    }

pub returns-in-Err-Write-clause-runs : goal.returns-in-Err-Write-clause-runs
returns-in-Err-Write-clause-runs g c =
    let Plays : FanPlayError → Type 0 = λ error.
    PlaysFan open_kem c.args.peers c.args.calls c.in-Some.mode (g.O.Sink.at c.args.out.now) (g.O.Sink.at c.fan_play.new.out)
    (Err error) in
    let played = subst Plays c.in-Err-Write.field-0-is c.in-Err-Write.ensures.plays in
    let lines = fan_told c.args.peers c.args.calls c.in-Some.mode in
    record {
      ending = Done;
      lines = lines;
      came =
          subst (λ (mode : Option Mode). PlaysFanBy c.args.peers c.args.calls mode Done lines) c.in-Some.ensures.value
          (played.0, refl);
      ends = ends_cut lines _ _ played.1 played.2;
    }
