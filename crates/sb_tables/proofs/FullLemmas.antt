-- Want of a page while attachments or a relation go.
use Rattle.std.proofs.Common.{ℕ, ◌+◌, ◌*◌, true, List, length, map, inl, refl, sym, subst, arith}
use Rattle.std.proofs.lemmas.List.{length-map}
use Rattle.sb_relation.specs.Db.{Db}
use Rattle.sb_fold.specs.Building.{at_point}
use Rattle.sb_fold.specs.declared.refusal.Refusal.{Refusal}
use Rattle.sb_fold.specs.declared.refusal.Refusal.TheVariants as refusal
use Rattle.sb_fold.specs.declared.refusal.Room.TheVariants.{Data}
use Rattle.sb_fold.specs.Need.{need}
use Rattle.sb_fold.specs.Outcome.{Going}
use Rattle.sb_forms.specs.Pages.{ArePages, page_count}
use Rattle.sb_ctx.specs.View.{fresh_pages}
use Rattle.sb_drive.specs.declared.space.SpaceFault.{SpaceFault}
use Rattle.sb_drive.specs.declared.space.SpaceFault.TheVariants.{DataFull, TempFull, LogFull, GatesFull}
use Rattle.sb_drive.specs.Slots.{Slots, owned}
use Rattle.sb_drive.specs.Spaces.{IsReadFault, LeadsOn, Wanted}
use Rattle.sb_registry.specs.Boxes.{Meanings}
use Rattle.sb_standing.specs.Lacking.{IsShort, WhereShort}
use Rattle.sb_standing.specs.Tables.{Kept, entry_of}
use Rattle.sb_engine.specs.Beside.{AreWithin}
use Rattle.sb_engine.specs.Opened.{IsDurable}
use Rattle.sb_engine.specs.Owned.{IsTabled}
use Rattle.sb_engine.specs.Refusals.{refusal_of}
use Rattle.sb_engine.specs.Weights.{resting}
use Rattle.sb_engine.specs.Working.{IsLicensed, IsShortOf, Stands, extensions_of}
use Rattle.sb_engine.specs.declared.running.Work.{Work}
use Rattle.sb_engine.proofs.Beside.{beside-is-full, rest-has-room}
use Rattle.sb_engine.proofs.Measuring.{held_pages}
use Rattle.sb_engine.proofs.LackingLemmas.{all_meant, any_last}
use Rattle.sb_tables.specs.Keeping.{IsFullBy, KeepsWithin}
use Rattle.sb_tables.proofs.LicenceLemmas.{none_counted}

-- ---- what an engine keeps
-- it is within its need, behind a call that looks too
pub within-need : {S : Type 0} (Has : Wanted → Slots → S → Type 0) (Spent : ℕ → S → Type 0) (m : Meanings) (root : ℕ) (g : Going) (space mid : S) (w : Work) (cost : ℕ)
    → (stands : Stands Has Spent m root g space w) → ((o : ℕ) → ArePages (owned stands.slots o)) → Has stands.want stands.slots mid
    → KeepsWithin Has m root w.gone.items g.gone.durable (need (extensions_of m) true (resting g.db g.gone (g.trail.spent + cost))) g.db mid
within-need Has Spent m root g space mid w cost stands pages has = record {
  keeps = record { want = stands.want; slots = stands.slots; kept = stands.kept; has = has; is = stands.db; keeps = stands.keeps; lasting = stands.lasting; held = stands.aside };
  within =
      subst (λ (db : Db). AreWithin stands.slots stands.kept w.gone.items (need (extensions_of m) true (resting db g.gone (g.trail.spent + cost)))) (sym stands.db)
      (rest-has-room m IsDurable root stands.slots w.gone.items stands.kept g.gone (g.trail.spent + cost)
      (all_meant m root stands.slots stands.kept stands.lasting stands.keeps.tables) pages stands.keeps (held_pages stands.slots w.gone.items g.gone.durable stands.aside));
}

-- ---- where no page is left
module _ {S : Type 0} (Has : Wanted → Slots → S → Type 0) (Leads : ℕ → S → S → Type 0) (table : S → ℕ) where
  -- a call that looks wants none
  pub read-full : (most : ℕ) (e : SpaceFault) (now : S) → IsReadFault e → IsFullBy Has Leads table most (refusal_of e) now
  read-full most (DataFull used of) now read = absurd read
  read-full most (TempFull used of) now read = absurd read
  read-full most (LogFull used more of) now read = absurd read
  read-full most (GatesFull used of) now read = absurd read
  read-full most e now read = tt

  -- the definitions' numbers allow it at a point that is reached
  pub licence-full : (m : Meanings) (g : Going) (cost : ℕ) (r : Refusal) (now : S) → IsFullBy Has Leads table (need (extensions_of m) true (resting g.db g.gone (g.trail.spent + cost))) r now
      → IsLicensed Has Leads table m r (at_point g.db g.gone cost g.trail) now
  licence-full m g cost (refusal.Room (Data used of)) now full = λ small.
      let at = resting g.db g.gone (g.trail.spent + cost) in
      let it = full small in
      record {
        space = it.space;
        leads = it.leads;
        want = it.want;
        slots = it.slots;
        has = it.has;
        short = any_last (IsShortOf of (table it.space + page_count (owned it.slots 1)) (extensions_of m)) g.trail.points at it.full;
      }
  licence-full m g cost r now full = tt

  -- a call of the catalogue wants one
  module _ (m : Meanings) (root : ℕ) (gone aside : List ℕ) (most : ℕ) (db : Db) (old mid new : S) (holds : KeepsWithin Has m root gone aside most db old)
      (tabled : (want : Wanted) (s : Slots) (a : S) → Has want s a → IsTabled (table a) s) (has : Has holds.keeps.want holds.keeps.slots mid) (leads : LeadsOn Leads mid new) where
    abbrev s : Slots
    s = holds.keeps.slots

    abbrev kept : List Kept
    kept = holds.keeps.kept

    pub catalogue-full : (e : SpaceFault) → WhereShort e (IsShort s 2 (2 * length (map entry_of kept))) → IsFullBy Has Leads table most (refusal_of e) new
    catalogue-full (DataFull used of) short = λ small. record {
      space = mid;
      leads = leads;
      want = holds.keeps.want;
      slots = s;
      has = has;
      full =
          let all = beside-is-full m IsDurable root s s gone kept 0 0 (table mid) of most holds.keeps.keeps holds.within small (tabled holds.keeps.want s mid has) (record {
            comes = record { is = inl refl; none = λ n. refl; others = λ o other second. refl };
            ctx = short.ctx;
            used = short.used;
            entry = length (fresh_pages short.ctx);
            content = 0;
            all = omega arith;
            catalogue = omega (arith, short.within, length-map kept entry_of);
            own = omega (arith, none_counted (owned s 0) (λ n. refl));
          }) in
          omega (arith, all);
    }
    catalogue-full e short = tt
