use Rattle.std.proofs.Common.{◌≡◌, ℕ, ◌+◌, arith, List, [], ◌++◌, append_assoc, drop, refl, sym, ap, subst, ◌∙◌, append-nil}
use Rattle.sb_relation.specs.Build.{mirror_of}
use Rattle.sb_relation.specs.Db.{Db}
use Rattle.sb_fold.specs.Building.{without_mirror}
use Rattle.sb_fold.specs.Costs.{descriptor_cost}
use Rattle.sb_drive.specs.Spaces.{LeadsWithin}
use Rattle.sb_drive.proofs.SpacesLemmas.{IfErr-passed, LeadsWithin-none}
use Rattle.sb_catalog.specs.declared.descriptor.Attached.{Attached}
use Rattle.sb_engine.specs.Working.{extensions_of}
use Rattle.sb_tables.specs.Keeping.{KeepsWithin}
use Rattle.sb_tables.specs.Removal.{mirror_bounds, mirror_cost, mirrors_bounds_of, mirrors_cost, without_mirrors_of}
use Rattle.sb_tables.proofs.KeepingLemmas.{drop_all, drop_item, more_then}
use Rattle.sb_tables.proofs.SpendingLemmas.{entry_mirrored, within_then}
use Rattle.sb_tables.proofs.WithinLemmas.{within-itself}
use Rattle.sb_tables.proofs.mirrors.detach_mirrors_of.Goals as goal

pub loop-attached-init : goal.loop-attached-init
loop-attached-init g c = record {
  ready = c.requires.ready;
  leads = (0, g.met.S.PageSpace.stays c.args.space.now);
  more = ([], sym (append-nil c.args.gone.now.items));
  rest = λ aside most db holds. record {
    held = aside;
    now = db;
    keeps = holds;
    is = refl;
    all = refl;
    cost = refl;
    done = 0;
    leads = LeadsWithin-none g.S.PageSpace.leads 0 c.args.space.now c.args.space.now (g.met.S.PageSpace.stays c.args.space.now);
    left = omega arith;
  };
}

pub detach_mirror-requires-clause-ready : goal.detach_mirror-requires-clause-ready
detach_mirror-requires-clause-ready g c = c.loop-attached.invariant.ready

pub returns-in_err-detach_mirror-clause-refused : goal.returns-in_err-detach_mirror-clause-refused
returns-in_err-detach_mirror-clause-refused g c =
    IfErr-passed c.from_residual.result c.in_err-detach_mirror.field-0.0 _ c.from_residual.ensures.1
    (λ aside db keeps.
    let rest = c.loop-attached.invariant.rest aside _ db (within-itself g.S.PageSpace.has (g.B.Boxes.meanings c.args.boxes.now) c.args.place.root c.args.gone.now.items aside db c.args.space.now keeps) in
    c.in_err-detach_mirror.ensures.refused rest.held rest.now rest.keeps.keeps)

pub returns-in_err-detach_mirror-clause-licensed : goal.returns-in_err-detach_mirror-clause-licensed
returns-in_err-detach_mirror-clause-licensed g c =
    IfErr-passed c.from_residual.result c.in_err-detach_mirror.field-0.0 _ c.from_residual.ensures.1
    (λ aside most db holds. let rest = c.loop-attached.invariant.rest aside most db holds in c.in_err-detach_mirror.ensures.licensed rest.held most rest.now rest.keeps)

pub returns-in_err-detach_mirror-clause-more : goal.returns-in_err-detach_mirror-clause-more
returns-in_err-detach_mirror-clause-more g c =
    more_then c.args.gone.now.items c.loop-attached.gone.items c.detach_mirror.new.gone.items c.loop-attached.invariant.more c.in_err-detach_mirror.ensures.more

pub returns-in_err-detach_mirror-clause-leads : goal.returns-in_err-detach_mirror-clause-leads
returns-in_err-detach_mirror-clause-leads g c =
    let first = c.loop-attached.invariant.leads in
    let later = c.in_err-detach_mirror.ensures.leads in
    (first.0 + later.0, g.met.S.PageSpace.goes_on first.0 later.0 c.args.space.now c.loop-attached.space c.detach_mirror.new.space first.1 later.1)

pub loop-attached-preserved : goal.loop-attached-preserved
loop-attached-preserved g c =
    let before = c.loop-attached.invariant in
    let done = c.in_ok-detach_mirror.ensures in
    let name = c.args.name.now in
    let one = drop_item c.args.attachments.now c.loop-attached.attached-index c.attached-item.result c.loop-attached-test.true c.attached-item.is in
    record {
      ready = done.ready;
      leads = (
        before.leads.0 + done.leads.0,
        g.met.S.PageSpace.goes_on before.leads.0 done.leads.0 c.args.space.now c.loop-attached.space c.detach_mirror.new.space before.leads.1 done.leads.1,
      );
      more = more_then c.args.gone.now.items c.loop-attached.gone.items c.detach_mirror.new.gone.items before.more done.more;
      rest = λ aside most db holds.
          let rest = before.rest aside most db holds in
          let ext = extensions_of (g.B.Boxes.meanings c.args.boxes.now) in
          let entry : ℕ = descriptor_cost ext db in
          let later = without_mirror name c.attached-item.result.name (mirror_of name c.attached-item.result.rule) rest.now in
          let first = mirror_bounds ext name c.attached-item.result.name (mirror_of name c.attached-item.result.rule) rest.now in
          record {
            held = rest.held ++ first;
            now = without_mirror name c.attached-item.result.name (mirror_of name c.attached-item.result.rule) rest.now;
            keeps = done.detached rest.held most rest.now rest.keeps;
            is = ap (λ (ds : List Attached). without_mirrors_of name ds rest.now) (sym one) ∙ rest.is;
            all = append_assoc rest.held first (mirrors_bounds_of ext name (drop (c.loop-attached.attached-index + 1) c.args.attachments.now) later)
                ∙ ap (λ (ds : List Attached). rest.held ++ mirrors_bounds_of ext name ds rest.now) (sym one) ∙ rest.all;
            cost = entry_mirrored g.S.PageSpace.has (g.B.Boxes.meanings c.args.boxes.now) c.args.place.root c.loop-attached.gone.items rest.held rest.now c.loop-attached.space rest.keeps.keeps name c.attached-item.result.name
                (mirror_of name c.attached-item.result.rule) ∙ rest.cost;
            done = rest.done + mirror_cost entry (mirror_of name c.attached-item.result.rule);
            leads = within_then g.S.PageSpace.leads g.met.S.PageSpace.goes_on rest.done (mirror_cost entry (mirror_of name c.attached-item.result.rule)) _ c.args.space.now c.loop-attached.space c.detach_mirror.new.space
                (omega arith) rest.leads
                (subst (λ (n : ℕ). LeadsWithin g.S.PageSpace.leads (mirror_cost n (mirror_of name c.attached-item.result.rule)) c.loop-attached.space c.detach_mirror.new.space) rest.cost
                (done.costs rest.held rest.now rest.keeps.keeps));
            left = omega (arith, rest.left, ap (λ (ds : List Attached). mirrors_cost entry name ds) one);
          };
    }

pub returns-clause-detached : goal.returns-clause-detached
returns-clause-detached g c = λ aside most db holds.
    let m = g.B.Boxes.meanings c.args.boxes.now in
    let rest = c.loop-attached.invariant.rest aside most db holds in
    let none = drop_all c.args.attachments.now c.loop-attached.attached-index c.loop-attached-test.false in
    let all : rest.held ≡ aside ++ mirrors_bounds_of (extensions_of m) c.args.name.now c.args.attachments.now db =
    sym (append-nil rest.held) ∙ ap (λ (ds : List Attached). rest.held ++ mirrors_bounds_of (extensions_of m) c.args.name.now ds rest.now) (sym none) ∙ rest.all in
    let is = ap (λ (ds : List Attached). without_mirrors_of c.args.name.now ds rest.now) (sym none) ∙ rest.is in
    subst (λ (l : List ℕ). KeepsWithin g.S.PageSpace.has m c.args.place.root c.loop-attached.gone.items l most (without_mirrors_of c.args.name.now c.args.attachments.now db) c.loop-attached.space) all
    (subst (λ (x : Db). KeepsWithin g.S.PageSpace.has m c.args.place.root c.loop-attached.gone.items rest.held most x c.loop-attached.space) is rest.keeps)

pub returns-in_err-detach_mirror-clause-costs : goal.returns-in_err-detach_mirror-clause-costs
returns-in_err-detach_mirror-clause-costs g c = λ aside db keeps.
    let m = g.B.Boxes.meanings c.args.boxes.now in
    let name = c.args.name.now in
    let entry : ℕ = descriptor_cost (extensions_of m) db in
    let rest = c.loop-attached.invariant.rest aside _ db (within-itself g.S.PageSpace.has m c.args.place.root c.args.gone.now.items aside db c.args.space.now keeps) in
    let one = drop_item c.args.attachments.now c.loop-attached.attached-index c.attached-item.result c.loop-attached-test.true c.attached-item.is in
    within_then g.S.PageSpace.leads g.met.S.PageSpace.goes_on rest.done (mirror_cost entry (mirror_of name c.attached-item.result.rule)) _ c.args.space.now c.loop-attached.space c.detach_mirror.new.space
    (omega (arith, rest.left, ap (λ (ds : List Attached). mirrors_cost entry name ds) one)) rest.leads
    (subst (λ (n : ℕ). LeadsWithin g.S.PageSpace.leads (mirror_cost n (mirror_of name c.attached-item.result.rule)) c.loop-attached.space c.detach_mirror.new.space) rest.cost
    (c.in_err-detach_mirror.ensures.costs rest.held rest.now rest.keeps.keeps))

pub returns-clause-costs : goal.returns-clause-costs
returns-clause-costs g c = λ aside db keeps.
    let m = g.B.Boxes.meanings c.args.boxes.now in
    let entry : ℕ = descriptor_cost (extensions_of m) db in
    let rest = c.loop-attached.invariant.rest aside _ db (within-itself g.S.PageSpace.has m c.args.place.root c.args.gone.now.items aside db c.args.space.now keeps) in
    let none = drop_all c.args.attachments.now c.loop-attached.attached-index c.loop-attached-test.false in
    let all : rest.done ≡ mirrors_cost entry c.args.name.now c.args.attachments.now = omega (arith, rest.left, ap (λ (ds : List Attached). mirrors_cost entry c.args.name.now ds) none) in
    subst (λ (n : ℕ). LeadsWithin g.S.PageSpace.leads n c.args.space.now c.loop-attached.space) all rest.leads

pub returns-clause-more : goal.returns-clause-more
returns-clause-more g c = c.loop-attached.invariant.more

pub returns-clause-leads : goal.returns-clause-leads
returns-clause-leads g c = c.loop-attached.invariant.leads

pub returns-clause-ready : goal.returns-clause-ready
returns-clause-ready g c = c.loop-attached.invariant.ready

pub returns-clause-entries : goal.returns-clause-entries
returns-clause-entries g c = λ aside db keeps.
    let m = g.B.Boxes.meanings c.args.boxes.now in
    let rest = c.loop-attached.invariant.rest aside _ db (within-itself g.S.PageSpace.has m c.args.place.root c.args.gone.now.items aside db c.args.space.now keeps) in
    let none = drop_all c.args.attachments.now c.loop-attached.attached-index c.loop-attached-test.false in
    let is = ap (λ (ds : List Attached). without_mirrors_of c.args.name.now ds rest.now) (sym none) ∙ rest.is in
    ap (descriptor_cost (extensions_of m)) (sym is) ∙ rest.cost
