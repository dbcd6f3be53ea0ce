use Rattle.std.proofs.Common.{ℕ, List, length, inl, refl, ap, arith}
use Rattle.sb_space.specs.Durable.{parts_in}
use Rattle.sb_space.specs.View.{lent}
use Rattle.sb_space.proofs.Owning.{entered-result}
use Rattle.sb_space.proofs.Rewriting.{kept-result}
use Rattle.sb_space.proofs.durable.Durable.set_owner.Goals as goal

pub change-requires-clause-exact : goal.change-requires-clause-exact
change-requires-clause-exact g c = λ want now stands. inl (record {
  of = c.args.n;
  within = c.requires.page;
  table = refl;
  place = refl;
  two = ap (λ (l : List ℕ). length l) c.to_be_bytes-entry.ensures;
})

pub returns-clause-pages : goal.returns-clause-pages
returns-clause-pages g c =
    entered-result (parts_in g.D.Disk.told g.D.Disk.len (lent c.args.self.now)) (parts_in g.D.Disk.told g.D.Disk.len (lent c.change.new.self)) c.args.n c.args.owner c.to_be_bytes-entry.result c.change.result
    (ap (λ x. x.pages) c.change.ensures.calls.leads.works.geometry) c.requires.page (omega (arith, c.ranges.owner)) c.to_be_bytes-entry.ensures c.change.ensures.pages

pub returns-clause-bytes : goal.returns-clause-bytes
returns-clause-bytes g c =
    kept-result (parts_in g.D.Disk.told g.D.Disk.len (lent c.args.self.now)) (parts_in g.D.Disk.told g.D.Disk.len (lent c.change.new.self)) c.args.n c.args.owner c.to_be_bytes-entry.result c.change.result
    (ap (λ x. x.pages) c.change.ensures.calls.leads.works.geometry) c.requires.page (omega (arith, c.ranges.owner)) c.to_be_bytes-entry.ensures c.change.ensures.pages
