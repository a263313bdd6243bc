use Rattle.duet.proofs.Following.{tallies_follow}
use Rattle.duet.proofs.laws.tallied_is_the_machines.Goals as goal

pub returns : goal.returns
returns c k script law pairs whole fair = tallies_follow k script law pairs whole fair
