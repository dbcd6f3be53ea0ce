use Rattle.std.proofs.Common.{rules, ◌≡◌, ◌<◌, ◌≤◌, ℕ, List, Option, Result, Ok, Err, OnOk, ◌++◌, length, map, get_or, set, refl, sym, ◌∙◌, ap, subst, arith}
use Rattle.std.specs.Result.{IsErrAnd}
use Rattle.sb_bytes.specs.Bytes.{splice}
use Rattle.sb_journal.specs.State.{used_of}
use Rattle.sb_log.specs.declared.geometry.Geometry.{Geometry}
use Rattle.sb_pool.specs.declared.frame.Content.TheVariants.{Dirty}
use Rattle.sb_pool.specs.declared.frame.Frame.{Frame}
use Rattle.sb_pool.specs.declared.pool.Pool.TheInside.{Inside}
use Rattle.sb_pool.specs.Frames.{held_of}
use Rattle.sb_pool.specs.Pages.{bytes_or}
use Rattle.sb_pool.specs.State.{State, Held, held, IsHeld}
use Rattle.sb_pool.specs.View.{state_of}
use Rattle.sb_pool.proofs.CallLemmas.{Serves-as}
use Rattle.sb_pool.proofs.PageLemmas.{Puts, Puts-frame, held-frame}
use Rattle.sb_pool.proofs.TieLemmas.{IsReadyWith-written}
use Rattle.sb_pool.proofs.WriteLemmas.{some_bytes, written, dirty_frame, IsDirty-written, dirty-written, PagesAgreeOn-written, Becomes-written}
use Rattle.sb_pool.proofs.pool.Pool.write.Goals as goal

-- what is known of the pool with the page written, and of the page before it
record At (mid after : State) (page offset : ℕ) (bytes old : List ℕ) : Type 0 where
  pub was : (disk : List ℕ) → bytes_or disk (held mid page) ≡ old
  pub puts : Puts mid after page (written (splice offset bytes old))

write_at : (a : Inside) (pool mid : State) (page offset position : ℕ) (bytes : List ℕ) (f new : Frame) → state_of a ≡ mid → length a.frames.items ≡ a.geometry.pages → mid.geometry ≡ pool.geometry → page < pool.geometry.pages
    → f ≡ get_or a.frames.items page f → IsHeld mid page → new.content ≡ Dirty → new.bytes.items ≡ splice offset bytes f.bytes.items
    → At mid (record { geometry = a.geometry; pages = map held_of (set a.frames.items page new); position = position }) page offset bytes f.bytes.items
write_at a pool mid page offset position bytes f new is count same lt at some dirty wrote =
    let e : a.geometry.pages ≡ pool.geometry.pages = ap (λ (s : State). s.geometry.pages) is ∙ ap (λ (g : Geometry). g.pages) same in
    let below : page < length a.frames.items = omega arith in
    record {
      was = λ disk. some_bytes f (held mid page) disk (held-frame a mid page f is below at) some;
      puts = subst (λ (h : Option Held). Puts mid (record { geometry = a.geometry; pages = map held_of (set a.frames.items page new); position = position }) page h)
          (dirty_frame new (splice offset bytes f.bytes.items) dirty wrote) (Puts-frame a mid page new position is below);
    }

no_value : {T E : Type 0} (r : Result T E) (e : E) (P : Type 0) → IsErrAnd r (λ f. f ≡ e) → OnOk r P
no_value (Ok x) e P is = absurd is
no_value (Err f) e P is = tt

pub returns-in_err-load-clause-images : goal.returns-in_err-load-clause-images
returns-in_err-load-clause-images g c = λ want opened pending ready tied here. record {
  leaves = (c.in_err-load.ensures.images want opened pending ready tied).leaves;
  ready = no_value c.from_residual.result c.in_err-load.field-0.0 _ c.from_residual.ensures.1;
}

pub returns : goal.returns
returns g c =
    let load = c.in_ok-load.ensures in
    let kept = load.keeps in
    let told = g.D.Disk.told c.load.new.disk in
    let at = write_at c.self.inside c.args.self.now c.load.new.self c.args.page c.args.offset c.used-self-inside.result c.args.bytes.now c.index_mut-frame.result.now c.write.new.self c.self.view_is c.self.invariant.count
    kept.geometry c.requires.page c.index_mut-frame.ensures.value load.held.0 c.write.ensures.dirty c.write.ensures.bytes in
    record {
      written = Becomes-written c.load.new.self _ c.args.page _ at.puts c.args.self.now c.args.offset c.args.bytes.now c.index_mut-frame.result.now.bytes.items at.was refl (g.D.Disk.told c.args.disk.now) told c.load.new.journal load.pages;
      dirty = (IsDirty-written c.load.new.self _ c.args.page _ at.puts, c.used-self-inside.ensures);
      others = dirty-written c.load.new.self _ c.args.page _ at.puts c.args.self.now load.dirty;
      err = tt;
      images = λ want opened pending ready tied here. let i = load.images want opened pending ready tied in record {
        leaves = i.leaves;
        ready = IsReadyWith-written want c.args.self.now.geometry (opened ++ pending) c.load.new.journal c.load.new.self _ c.args.page here
            (dirty-written c.load.new.self _ c.args.page _ at.puts c.load.new.self (λ p dirty. dirty)) c.used-self-inside.ensures (g.D.Disk.told c.args.disk.now) told i.ready;
      };
      journal = load.journal;
      keeps = record {
        size = kept.size;
        geometry = at.puts.geometry ∙ kept.geometry;
        position = tt;
        later = kept.later;
        fault = tt;
        cause = λ is. search rules;
        serves = Serves-as told told _ _ c.load.new.journal c.load.new.self.geometry _ refl refl at.puts.geometry kept.serves;
        agrees = record {
          pages = PagesAgreeOn-written c.load.new.self _ c.args.page _ at.puts told c.load.new.journal kept.agrees.pages;
          position = subst (λ (n : ℕ). n ≤ used_of c.load.new.journal) (sym c.used-self-inside.ensures) (omega arith);
        };
        sound = kept.sound;
      };
    }
