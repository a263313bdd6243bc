use Rattle.dr_model.proofs.Acting.ActsFollowing.{act_follows, act_leaves, lawful_act}
use Rattle.dr_model.proofs.laws.acts_follow.Goals as goal

pub returns : goal.returns
returns c k law = record {
  follows = λ w side act lawful fair. act_follows k w side act law lawful fair;
  lawful = λ w side act lawful fair. lawful_act k w side act lawful fair;
  others = λ w side act lawful fair. act_leaves k w side act law lawful fair;
}
