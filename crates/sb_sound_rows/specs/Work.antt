-- Work over databases whose rules hold.
use Rattle.sb_fold.specs.Extensions.{Extensions}
use Rattle.sb_fold.specs.Outcome.{Going}
use Rattle.sb_plain.specs.Lawful.{IsSound, IsSoundNow}
use Rattle.sb_lawful_rows.specs.Work.{IsLawfulWork}

-- lawful work over a database whose rules hold, but for those that are deferred
pub record IsSoundWork (ext : Extensions) (g : Going) : Type 0 where
  pub work : IsLawfulWork ext g
  pub sound : IsSoundNow ext g.db

-- and over one whose rules all hold, so that it may be committed
pub record IsReady (ext : Extensions) (g : Going) : Type 0 where
  pub work : IsLawfulWork ext g
  pub sound : IsSound ext g.db
