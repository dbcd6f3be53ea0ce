use Rattle.std.proofs.Common.{rules, ◌≡◌, ◌⊎◌, inl, ◌<◌, ◌≤◌, ℕ, true, Option, Result, Ok, OnOk, length, map, get_or, set, refl, sym, ◌∙◌, ap, subst, arith}
use Rattle.std.specs.Prelude.{IfErr, IsErrOf}
use Rattle.sb_disk.specs.Causes.{Rose}
use Rattle.sb_disk.specs.Disk.{Story}
use Rattle.sb_images.specs.Layout.{place_of}
use Rattle.sb_journal.specs.State.{used_of}
use Rattle.sb_pool.specs.Calls.{Moment, moment, Serves, IsLoad}
use Rattle.sb_pool.specs.declared.fault.PoolFault.{PoolFault}
use Rattle.sb_pool.specs.declared.fault.PoolFault.TheVariants.{Fault}
use Rattle.sb_pool.specs.declared.frame.Frame.{Frame}
use Rattle.sb_pool.specs.declared.pool.Pool.TheInside.{Inside}
use Rattle.sb_pool.specs.Frames.{IsFrame, held_of, IsLoaded}
use Rattle.sb_pool.specs.Pages.{AgreesOn}
use Rattle.sb_pool.specs.State.{State, Held, held, IsHeld}
use Rattle.sb_pool.specs.View.{state_of}
use Rattle.sb_pool.proofs.CallLemmas.{on_ok, on_err, Serves-as, KeepsImages-none}
use Rattle.sb_pool.proofs.PageLemmas.{Puts, Puts-frame, held-frame, Loads, Loads-puts, Loads-same, IsHeld-puts, Loads-pages, Loads-agrees, Loads-dirty}
use Rattle.sb_pool.proofs.TieLemmas.{AreTied-fewer}
use Rattle.sb_pool.proofs.pool.Pool.load.Goals as goal

-- what is known of the frame of the page, and of the pool with another in its place
record At (a : Inside) (pool after : State) (page : ℕ) (f new : Frame) : Type 0 where
  pub was : held pool page ≡ held_of f
  pub puts : Puts pool after page (held_of new)

frame_at : (a : Inside) (pool : State) (page : ℕ) (f new : Frame) → state_of a ≡ pool → length a.frames.items ≡ a.geometry.pages → page < pool.geometry.pages → f ≡ get_or a.frames.items page f
    → At a pool (record { geometry = a.geometry; pages = map held_of (set a.frames.items page new); position = a.position }) page f new
frame_at a pool page f new is count lt at =
    let e : a.geometry.pages ≡ pool.geometry.pages = ap (λ (s : State). s.geometry.pages) is in
    let below : page < length a.frames.items = omega arith in
    record { was = held-frame a pool page f is below at; puts = Puts-frame a pool page new a.position is below }

loads_err : (told : Option Story) (a : Inside) (pool after : State) (page : ℕ) (f new : Frame) → At a pool after page f new → held_of new ≡ held_of f → Loads told pool after
loads_err told a pool after page f new at same = Loads-same told pool after page (held_of new) at.puts (same ∙ sym at.was)

loads_ok : (told : Option Story) (a : Inside) (pool after : State) (page place : ℕ) (f new : Frame) → At a pool after page f new → state_of a ≡ pool → place ≡ place_of a.geometry page → IsFrame new
    → IsLoaded told place (held_of f) (held_of new) new.bytes.items → Loads told pool after × IsHeld after page
loads_ok told a pool after page place f new at is begins long loaded =
    let here : IsLoaded told place (held pool page) (held_of new) new.bytes.items = subst (λ (h : Option Held). IsLoaded told place h (held_of new) new.bytes.items) (sym at.was) loaded in
    (Loads-puts told pool after page place (held_of new) new.bytes.items at.puts (begins ∙ ap (λ (s : State). place_of s.geometry page) is) long here, IsHeld-puts told pool after page place (held_of new) new.bytes.items at.puts here)

-- where the disk tells the same, and the journal is as it was, the call has only loaded
only_loads : {T : Type 0} (old : Moment) (told : Option Story) (size faults : ℕ) (after : State) (page : ℕ) (result : Result T PoolFault) → told ≡ old.told → size ≡ old.size → after.position ≡ old.pool.position → Loads old.told old.pool after
    → Serves old.told old.size old.journal old.pool.geometry → AgreesOn old.told old.journal old.pool → OnOk result (IsHeld after page × (after.position ≡ old.pool.position))
    → old.faults ≤ faults → IfErr result (λ e. e ≡ Fault) → (IsErrOf result Fault → (old.journal.failed ≡ true) ⊎ Rose old.faults faults) → IsLoad old (record { told = told; size = size; faults = faults; journal = old.journal; pool = after }) page result
only_loads old told size faults after page result same long at kept serves agrees held more fault cause = record {
  held = held;
  pages = Loads-pages old.pool after old.told told old.journal same kept;
  dirty = Loads-dirty old.pool after old.told kept;
  images = λ want opened pending ready tied. KeepsImages-none want old.pool.geometry opened pending old.journal after old.told told result same ready
      (AreTied-fewer old.pool after old.journal opened pending (Loads-dirty old.pool after old.told kept) at tied);
  journal = on_ok result _ (inl refl);
  keeps = record {
    size = long;
    geometry = kept.geometry;
    position = on_err result _ at;
    later = more;
    fault = fault;
    cause = cause;
    serves = Serves-as old.told told old.size size old.journal old.pool.geometry after.geometry same long kept.geometry serves;
    agrees = record { pages = Loads-agrees old.pool after old.told told old.journal same kept agrees.pages; position = subst (λ (n : ℕ). n ≤ used_of old.journal) (sym at) agrees.position };
    sound = λ sound. sound;
  };
}

-- at a fault
pub returns-in_err-load : goal.returns-in_err-load
returns-in_err-load g c =
    let old = moment g.D.Disk.told g.D.Disk.len g.D.Disk.faults c.args.disk.now c.args.journal.now c.args.self.now in
    let at = frame_at c.self.inside c.args.self.now c.args.page c.index_mut-frame.result.now c.load.new.self c.self.view_is c.self.invariant.count c.requires.page c.index_mut-frame.ensures.value in
    let kept = loads_err old.told c.self.inside c.args.self.now _ c.args.page _ _ at c.in_err-load.ensures.err in
    let is = only_loads old (g.D.Disk.told c.load.new.disk) (g.D.Disk.len c.load.new.disk) (g.D.Disk.faults c.load.new.disk) _ c.args.page c.from_residual.result c.load.ensures.told c.load.ensures.len (ap (λ (s : State). s.position) c.self.view_is) kept
    c.requires.serves c.requires.agrees (search rules) (search rules) (search rules) (λ fails. search rules) in
    record { held = is.held; pages = is.pages; dirty = is.dirty; images = is.images; reads = record { only = λ clean. (c.load.ensures.told, refl) }; journal = is.journal; keeps = is.keeps }

-- at the end
pub returns : goal.returns
returns g c =
    let old = moment g.D.Disk.told g.D.Disk.len g.D.Disk.faults c.args.disk.now c.args.journal.now c.args.self.now in
    let at = frame_at c.self.inside c.args.self.now c.args.page c.index_mut-frame.result.now c.load.new.self c.self.view_is c.self.invariant.count c.requires.page c.index_mut-frame.ensures.value in
    let loaded = loads_ok old.told c.self.inside c.args.self.now _ c.args.page c.place_of-at.result _ _ at c.self.view_is c.place_of-at.ensures c.load.ensures.frame c.in_ok-load.ensures.loaded in
    let same = ap (λ (s : State). s.position) c.self.view_is in
    let is = only_loads {T = Unit {0}} old (g.D.Disk.told c.load.new.disk) (g.D.Disk.len c.load.new.disk) (g.D.Disk.faults c.load.new.disk) _ c.args.page (Ok tt) c.load.ensures.told c.load.ensures.len same loaded.0
    c.requires.serves c.requires.agrees (loaded.1, same) (search rules) tt (λ fails. search rules) in
    record { held = is.held; pages = is.pages; dirty = is.dirty; images = is.images; reads = record { only = λ clean. (c.load.ensures.told, refl) }; journal = is.journal; keeps = is.keeps }
