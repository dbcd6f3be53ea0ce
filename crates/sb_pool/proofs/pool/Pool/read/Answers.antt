use Rattle.std.proofs.Common.{◌≡◌, ℕ, ◌<◌, false, Option, Some, None, Result, Ok, Err, IfOk, IsErrOf, refl, sym, ap, subst, ◌∙◌}
use Rattle.std.specs.Result.{IsErrAnd}
use Rattle.sb_disk.specs.Disk.{Story}
use Rattle.sb_images.specs.Layout.{page_at}
use Rattle.sb_images.specs.Store.{IfTold}
use Rattle.sb_log.specs.declared.geometry.Geometry.{Geometry}
use Rattle.sb_journal.specs.State.{State}
use Rattle.sb_pool.specs.Calls.{Moment, moment, IsLoad}
use Rattle.sb_pool.specs.declared.fault.PoolFault.{PoolFault}
use Rattle.sb_pool.specs.declared.fault.PoolFault.TheVariants.{Fault}
use Rattle.sb_pool.specs.Pages.{KeepsPages, bytes_or, pool_page}
use Rattle.sb_pool.specs.State as pool
use Rattle.sb_pool.proofs.pool.Pool.read.Goals as goal

no_value : {T E : Type 0} (r : Result T E) (e : E) (P : T → Type 0) → IsErrAnd r (λ f. f ≡ e) → IfOk r P
no_value (Ok x) e P is = absurd is
no_value (Err f) e P is = tt

same_fault : (T U : Type 0) (e f : PoolFault) → IsErrOf {T = T} (Err e) f → IsErrOf {T = U} (Err e) f
same_fault T U e f is = let same : e ≡ f = cc in ap Err same

module _ (old new : Moment) (page : ℕ) where
  -- the same of a refusal with another value in place
  load_err : {T U : Type 0} (r : Result U PoolFault) (e : PoolFault) → IsErrAnd r (λ f. f ≡ e) → IsLoad {T = T} old new page (Err e) → IsLoad old new page r
  load_err (Ok x) e is load = absurd is
  load_err {T = T} {U = U} (Err f) e is load = subst (λ (g : PoolFault). IsLoad {T = U} old new page (Err g)) (sym is) (record {
    held = tt;
    pages = load.pages;
    dirty = load.dirty;
    images = λ want opened pending ready tied. record { leaves = (load.images want opened pending ready tied).leaves; ready = tt };
    journal = tt;
    keeps = record {
      size = load.keeps.size;
      geometry = load.keeps.geometry;
      position = load.keeps.position;
      later = load.keeps.later;
      fault = load.keeps.fault;
      cause = λ fails. load.keeps.cause (same_fault U T e Fault fails);
      serves = load.keeps.serves;
      agrees = load.keeps.agrees;
      sound = load.keeps.sound;
    };
  })

  load_ok : {T U : Type 0} (x : T) (y : U) → IsLoad {T = T} old new page (Ok x) → IsLoad old new page (Ok y)
  load_ok {T = T} {U = U} x y load = record {
    held = load.held;
    pages = load.pages;
    dirty = load.dirty;
    images = λ want opened pending ready tied. let i = load.images want opened pending ready tied in record { leaves = i.leaves; ready = i.ready };
    journal = load.journal;
    keeps = record {
      size = load.keeps.size;
      geometry = load.keeps.geometry;
      position = tt;
      later = load.keeps.later;
      fault = tt;
      cause = λ fails. absurd (cc);
      serves = load.keeps.serves;
      agrees = load.keeps.agrees;
      sound = load.keeps.sound;
    };
  }

-- a page that is held is as it was last written
page_told : (k : State) (before after : pool.State) (page : ℕ) (a b : Option Story) (h : pool.Held) → KeepsPages k before after a b → page < after.geometry.pages → pool.held after page ≡ Some h → IfTold a (k.failed ≡ false → h.bytes ≡ pool_page a before page)
page_told k before after page None b h pages less is = tt
page_told k before after page (Some s) None h pages less is = absurd pages
page_told k before after page (Some s) (Some t) h pages less is = λ up. sym (ap (bytes_or (page_at after.geometry page t.now.reads)) is) ∙ pages up page less

pub returns-in_err-load : goal.returns-in_err-load
returns-in_err-load g c =
    let old = moment g.D.Disk.told g.D.Disk.len g.D.Disk.faults c.args.disk.now c.args.journal.now c.args.self.now in
    let new = moment g.D.Disk.told g.D.Disk.len g.D.Disk.faults c.load.new.disk c.load.new.journal c.load.new.self in
    let call = c.in_err-load.ensures in (
      (
        refl,
        (λ _. tt),
        load_err old new c.args.page {T = Unit {0}} c.from_residual.result c.in_err-load.field-0.0 c.from_residual.ensures.1
            (record { held = tt; pages = call.pages; dirty = call.dirty; images = call.images; journal = tt; keeps = call.keeps }),
      ),
      record { page = no_value c.from_residual.result c.in_err-load.field-0.0 _ c.from_residual.ensures.1; long = no_value c.from_residual.result c.in_err-load.field-0.0 _ c.from_residual.ensures.1; after = tt },
    )

pub returns : goal.returns
returns g c =
    let old = moment g.D.Disk.told g.D.Disk.len g.D.Disk.faults c.args.disk.now c.args.journal.now c.args.self.now in
    let new = moment g.D.Disk.told g.D.Disk.len g.D.Disk.faults c.load.new.disk c.load.new.journal c.load.new.self in
    let call = c.in_ok-load.ensures in
    let less = subst (λ (h : Geometry). c.args.page < h.pages) (sym call.keeps.geometry) c.requires.page in (
      (
        refl,
        (λ _. tt),
        load_ok old new c.args.page {T = Unit {0}} tt c.page.result (record { held = call.held; pages = call.pages; dirty = call.dirty; images = call.images; journal = call.journal; keeps = call.keeps }),
      ),
      record {
        page = page_told c.load.new.journal c.args.self.now c.load.new.self c.args.page old.told new.told _ call.pages less c.page.ensures.bytes;
        long = c.page.ensures.long;
        after = tt;
      },
    )
