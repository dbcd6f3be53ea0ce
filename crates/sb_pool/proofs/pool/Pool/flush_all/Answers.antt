use Rattle.std.proofs.Common.{rules, ◌≡◌, ℕ, Option, [], ◌++◌, map, refl, sym, ◌∙◌, ap, subst}
use Rattle.std.specs.Vec.{with_items}
use Rattle.std.proofs.lemmas.List.{with_items_is}
use Rattle.sb_disk.specs.Disk.{Story, Fits}
use Rattle.sb_disk.specs.Moments.{Sized}
use Rattle.sb_images.proofs.CallLemmas.{LeavesOnly-force}
use Rattle.sb_journal.proofs.RegionLemmas.{sized}
use Rattle.sb_pool.specs.Calls.{Serves, AreTied}
use Rattle.sb_pool.specs.Frames.{held_of}
use Rattle.sb_pool.specs.Pages.{pool_page, AgreesOn, KeepsPages}
use Rattle.sb_pool.specs.State.{State, NoneMoreDirty, flushed}
use Rattle.sb_pool.proofs.CallLemmas.{on_err}
use Rattle.sb_pool.proofs.FlushLemmas.{dirty_pages, dirty-IsPage, dirty-imaged, dirty-bytes, AreFlushed-ok, AgreesOn-flushed, KeepsPages-flushed, flushed-clean, flushed-dirty, Serves-ok, Serves-err}
use Rattle.sb_pool.proofs.InsideLemmas.{IsPool-inside, RanOk-inside, RanErr-inside, flushed-inside}
use Rattle.sb_pool.proofs.PutImages.{flush_ok, flush_err}
use Rattle.sb_pool.proofs.TieLemmas.{AreTied-clean}
use Rattle.sb_pool.proofs.pool.Pool.flush_all.Goals as goal

sized_as : (told : Option Story) (len clock size : ℕ) → Fits len clock told → len ≡ size → Sized size told
sized_as told len clock size fits is = subst (λ (n : ℕ). Sized n told) is (sized told len clock fits)

-- ---- the force failed
pub returns-in_err-force-clause-images : goal.returns-in_err-force-clause-images
returns-in_err-force-clause-images g c want opened pending ready tied = record {
  leaves = LeavesOnly-force want c.args.journal.now c.args.self.now.geometry opened pending (g.D.Disk.told c.args.disk.now) _ ready c.force.ensures.any_moment;
  ready = search rules;
  tied = search rules;
}

-- ---- a write or the sync failed
pub returns-in_err-put_all_out : goal.returns-in_err-put_all_out
returns-in_err-put_all_out g c =
    let pool = c.args.self.now in
    let j = c.args.journal.now in
    let k = c.force.new.journal in
    let told = g.D.Disk.told c.args.disk.now in
    let mid = g.D.Disk.told c.force.new.disk in
    let new = g.D.Disk.told c.put_all_out.new.disk in
    let serves = c.requires.serves in
    let forced = c.in_ok-force.ensures in
    let whole = IsPool-inside c.self.inside pool c.self.view_is c.self.invariant in
    let long = sized_as mid _ _ (g.D.Disk.len c.args.disk.now) (g.met.D.Disk.fits c.force.new.disk) forced.keeps.size in
    let ran = RanErr-inside c.self.inside pool c.self.view_is _ mid new c.deref.ensures.value c.in_err-put_all_out.ensures.ran_err in
    record {
      flushed = search rules;
      disk = search rules;
      forced = search rules;
      pages = search rules;
      err = search rules;
      dirty = search rules;
      images = λ want opened pending ready tied. record {
        leaves = flush_err want (pool_page told pool) j k pool.geometry opened pending (dirty_pages pool) told mid new ready (dirty-IsPage pool whole) (dirty-imaged pool (opened ++ pending) tied.imaged) (dirty-bytes pool told)
            c.force.ensures.any_moment forced.done forced.keeps.sound forced.forced ran;
        ready = search rules;
        tied = search rules;
      };
      keeps = record {
        size = search rules;
        geometry = refl;
        position = on_err c.from_residual-in_err-put_all_out.result _ refl;
        later = search rules;
        fault = search rules;
        cause = λ is. search rules;
        serves = Serves-err pool.geometry told mid new _ j k serves (dirty_pages pool) (dirty-IsPage pool whole) forced.done forced.keeps.sound long forced.keeps.stands _ (search rules) ran;
        agrees = search rules;
        sound = λ sound. forced.keeps.sound;
      };
    }

-- ---- no call failed
pub returns : goal.returns
returns g c =
    let pool = c.args.self.now in
    let j = c.args.journal.now in
    let k = c.force.new.journal in
    let told = g.D.Disk.told c.args.disk.now in
    let mid = g.D.Disk.told c.force.new.disk in
    let new = g.D.Disk.told c.put_all_out.new.disk in
    let serves = c.requires.serves in
    let forced = c.in_ok-force.ensures in
    let whole = IsPool-inside c.self.inside pool c.self.view_is c.self.invariant in
    let long = sized_as mid _ _ (g.D.Disk.len c.args.disk.now) (g.met.D.Disk.fits c.force.new.disk) forced.keeps.size in
    let ran = RanOk-inside c.self.inside pool c.self.view_is _ mid new c.deref.ensures.value c.in_ok-put_all_out.ensures.ran in
    let flush = AreFlushed-ok pool (g.D.Disk.len c.args.disk.now) j k serves.room serves.gates serves.log whole told mid new forced.up long forced.forced c.requires.agrees.pages ran in
    let back = with_items_is c.self.inside.frames c.mark_all_clean.new.frames (c.mark_all_clean.auto.frames ∙ c.deref_mut.ensures.len) in
    let is = flushed-inside c.self.inside pool c.self.view_is _ (with_items c.self.inside.frames c.mark_all_clean.new.frames).items c.deref_mut.ensures.value (ap (map held_of) back ∙ c.mark_all_clean.ensures.clean) in
    record {
      flushed = is;
      disk = flush;
      forced = forced.done;
      pages = subst (λ (s : State). KeepsPages k pool s told new) (sym is) (KeepsPages-flushed pool k told new flush);
      err = tt;
      dirty = subst (λ (s : State). NoneMoreDirty pool s) (sym is) (flushed-dirty pool);
      images = λ want opened pending ready tied.
          let after = flush_ok want (pool_page told pool) j k pool.geometry opened pending (dirty_pages pool) told mid new ready (dirty-IsPage pool whole) (dirty-imaged pool (opened ++ pending) tied.imaged) (dirty-bytes pool told)
          c.force.ensures.any_moment forced.done forced.keeps.sound forced.forced ran in
          record { leaves = after.0; ready = after.1; tied = subst (λ (s : State). AreTied s k (opened ++ pending) []) (sym is) (AreTied-clean (flushed pool) k (opened ++ pending) [] (flushed-clean pool)) };
      keeps = record {
        size = search rules;
        geometry = ap (λ (s : State). s.geometry) is;
        position = tt;
        later = search rules;
        fault = tt;
        cause = λ is. search rules;
        serves = subst (λ (s : State). Serves new (g.D.Disk.len c.put_all_out.new.disk) k s.geometry) (sym is)
            (Serves-ok pool.geometry told mid new _ j k serves (dirty_pages pool) (dirty-IsPage pool whole) forced.done forced.keeps.sound long forced.keeps.stands _ (search rules) ran);
        agrees = subst (λ (s : State). AgreesOn new k s) (sym is) (AgreesOn-flushed pool k told new flush);
        sound = λ sound. forced.keeps.sound;
      };
    }
