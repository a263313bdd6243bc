use Rattle.duet.proofs.Following.{follows}
use Rattle.duet.proofs.laws.played_is_the_trace.Goals as goal

pub returns : goal.returns
returns c k script law pairs whole fair = follows k script law pairs whole fair
