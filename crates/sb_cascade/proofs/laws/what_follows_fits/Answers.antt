use Rattle.sb_cascade.proofs.FittingTerms.{terms-values}
use Rattle.sb_cascade.proofs.Following.{following-fits, waiting-fits, all-following-fits, all-waiting-fits}
use Rattle.sb_cascade.proofs.Staying.{actions-stay, rules-stay}
use Rattle.sb_cascade.proofs.Wishing.{inserts-fit, wishes-fit}
use Rattle.sb_cascade.proofs.laws.what_follows_fits.Goals as goal

pub returns-clause-values : goal.returns-clause-values
returns-clause-values c = terms-values

pub returns-clause-follows : goal.returns-clause-follows
returns-clause-follows c = following-fits

pub returns-clause-waits : goal.returns-clause-waits
returns-clause-waits c = waiting-fits

pub returns-clause-all_follow : goal.returns-clause-all_follow
returns-clause-all_follow c = all-following-fits

pub returns-clause-all_wait : goal.returns-clause-all_wait
returns-clause-all_wait c = all-waiting-fits

pub returns-clause-actions_stay : goal.returns-clause-actions_stay
returns-clause-actions_stay c = actions-stay

pub returns-clause-rules_stay : goal.returns-clause-rules_stay
returns-clause-rules_stay c = rules-stay

pub returns-clause-inserts : goal.returns-clause-inserts
returns-clause-inserts c = inserts-fit

pub returns-clause-wishes : goal.returns-clause-wishes
returns-clause-wishes c = wishes-fit
