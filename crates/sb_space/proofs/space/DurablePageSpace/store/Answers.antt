use Rattle.sb_space.proofs.Calling.{UnlessDown-map}
use Rattle.sb_space.proofs.space.DurablePageSpace.store.Goals as goal

pub returns-clause-pages : goal.returns-clause-pages
returns-clause-pages g c = UnlessDown-map c.store_all.result _ _ (λ ends want s has part. let e = ends want s has part in record { slots = e.slots; has = e.has; others = e.others; own = e.is }) c.store_all.ensures.pages
