use Rattle.client.specs.Cells.{client_cell}
use Rattle.client.proofs.Ahead.{all_move}
use Rattle.client.proofs.histories.meanwhile.Goals as goal

pub returns : goal.returns
returns c = λ k law. all_move client_cell k law (c.acts_follow.ensures k law)
