use Rattle.sb_deferred.proofs.FrontLemmas.{cut-front, IsFront-action, IsFront-check, IsFront-same, IsFront-then}
use Rattle.sb_deferred.proofs.laws.cutting_back_gives_what_waited.Goals as goal

pub returns : goal.returns
returns c = record { cut = cut-front; action = IsFront-action; check = IsFront-check; stays = IsFront-same; adds_up = IsFront-then }
