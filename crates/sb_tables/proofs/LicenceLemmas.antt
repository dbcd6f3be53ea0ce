-- Want of a page while a relation is made.
use Rattle.std.proofs.Common.{◌≡◌, ℕ, ◌+◌, ◌*◌, ◌<◌, ◌≤◌, Bool, true, false, cond, not, ◌&&◌, List, [], ◌∷◌, length, map, Option, Some, None, option_map, inl, inr, refl, sym, ap, ◌∙◌, subst, arith}
use Rattle.std.specs.Prelude.{filter}
use Rattle.std.specs.List.{find as first, range_with_len}
use Rattle.std.proofs.lemmas.List.{length-map}
use Rattle.sb_value.specs.declared.schema.Column.{Column}
use Rattle.sb_relation.specs.Db.{Name, Relation, Db, relation_at, with_relation}
use Rattle.sb_relation.specs.Fits.{is_empty}
use Rattle.sb_node.specs.Entries.{Entry}
use Rattle.sb_forms.specs.Maps.{map_in}
use Rattle.sb_forms.specs.Pages.{ArePages, Pages, page_count, page_numbers}
use Rattle.sb_forms.specs.Read.{read_tree}
use Rattle.sb_forms.specs.TreePages.{tree_met}
use Rattle.sb_forms.proofs.Maps.{map_all, map_tree, meets_all}
use Rattle.sb_ctx.specs.declared.calls.MethodCall.TheVariants.{Prepare}
use Rattle.sb_ctx.specs.declared.instance.Instance.{Instance}
use Rattle.sb_ctx.specs.Laws.{IsMethod}
use Rattle.sb_ctx.specs.Method.{Method}
use Rattle.sb_ctx.specs.View.{HeldPage, View, free_page, fresh_pages, holds_fresh, nothing}
use Rattle.sb_btree.proofs.PageCounts.{all_few}
use Rattle.sb_fold.specs.Building.{at_point}
use Rattle.sb_fold.specs.Need.{need}
use Rattle.sb_fold.specs.Outcome.{Going, Trail}
use Rattle.sb_drive.specs.declared.space.SpaceFault.{SpaceFault}
use Rattle.sb_drive.specs.declared.space.SpaceFault.TheVariants.{DataFull, TempFull}
use Rattle.sb_drive.specs.declared.turns.Ask.TheVariants.{Fresh}
use Rattle.sb_drive.specs.Slots.{AreWhole, Slots, owned}
use Rattle.sb_drive.specs.Spaces.{IsFull, IsFullFor, LeadsOn, Wanted, WhereFull}
use Rattle.sb_drive.proofs.SpacesLemmas.{ArePages-few}
use Rattle.sb_registry.specs.Boxes.{Meanings, method_of}
use Rattle.sb_registry.specs.Live.{IsLive}
use Rattle.sb_owners.specs.Instances.{HasCome}
use Rattle.sb_catalog.specs.declared.descriptor.Descriptor.{Descriptor}
use Rattle.sb_map.specs.Calls.{IsAsking, IsWithin}
use Rattle.sb_standing.specs.Instances.{table_instance}
use Rattle.sb_standing.specs.Lacking.{IsShort, LacksFor, WhereShort}
use Rattle.sb_standing.specs.Live.{IsNewIn, LeavesRows}
use Rattle.sb_standing.specs.Tables.{entry_of}
use Rattle.sb_standing.proofs.KeptLemmas.{kept_at-no_relation}
use Rattle.sb_standing.proofs.LackingLemmas.{used_by, where_short}
use Rattle.sb_engine.specs.Coming.{IsShortComing, MayCome}
use Rattle.sb_engine.specs.Owned.{IsTabled}
use Rattle.sb_engine.specs.Place.{Place}
use Rattle.sb_engine.specs.Weights.{resting}
use Rattle.sb_engine.proofs.Bounded.{are-bounded}
use Rattle.sb_engine.proofs.Catalogue.{catalogue_small}
use Rattle.sb_engine.proofs.Coming.{coming-is-full}
use Rattle.sb_engine.proofs.Meant.{outlives}
use Rattle.sb_engine.proofs.Measuring.{held_pages}
use Rattle.sb_engine.proofs.Weighing.{row_pages}
use Rattle.sb_engine.specs.Opened.{IsDurable, IsOwnFault}
use Rattle.sb_engine.specs.Refusals.{refusal_of}
use Rattle.sb_engine.specs.Working.{IsLicensed, IsShortOf, extensions_of}
use Rattle.sb_engine.proofs.LackingLemmas.{all_meant, any_last}
use Rattle.sb_tables.specs.Creation.{MayCreate, new_descriptor, new_relation}
use Rattle.sb_tables.specs.Keeping.{KeepsDb}
use Rattle.sb_tables.proofs.CreationLemmas.{entries-late, is_live-new, new-in}

-- ---- the catalogue
-- the fresh pages that are held, and whether each is taken
abbrev mark : ℕ × HeldPage → ℕ × Bool
mark e = (e.0, not (is_empty e.1.now))

abbrev marked : List (ℕ × HeldPage) → List (ℕ × Bool)
marked held = map mark (filter (λ e. e.1.fresh) held)

abbrev taken : List (ℕ × Bool) → List (ℕ × Bool)
taken marks = filter (λ e. e.1) marks

-- where none is free, all are taken
all_taken : (held : List (ℕ × HeldPage)) → option_map (λ e. e.0) (first (λ e. e.1.fresh && is_empty e.1.now) held) ≡ None
    → length (marked held) ≤ length (taken (marked held))
all_taken [] none = omega arith
all_taken (e ∷ held) none = of_fresh e.1.fresh none (all_taken held)
  where
    later : Option (ℕ × HeldPage)
    later = first (λ x. x.1.fresh && is_empty x.1.now) held

    of_bytes : (b : Bool) (m : ℕ × Bool) → option_map (λ x. x.0) (cond b (Some e) later) ≡ None
        → (option_map (λ x. x.0) later ≡ None → length (marked held) ≤ length (taken (marked held)))
        → length (m ∷ marked held) ≤ length (cond (not b) (m ∷ taken (marked held)) (taken (marked held)))
    of_bytes true m free rest = absurd (cc)
    of_bytes false m free rest = omega (arith, rest free)

    of_fresh : (b : Bool) → option_map (λ x. x.0) (cond (b && is_empty e.1.now) (Some e) later) ≡ None
        → (option_map (λ x. x.0) later ≡ None → length (marked held) ≤ length (taken (marked held)))
        → length (map mark (cond b (e ∷ filter (λ x. x.1.fresh) held) (filter (λ x. x.1.fresh) held)))
        ≤ length (taken (map mark (cond b (e ∷ filter (λ x. x.1.fresh) held) (filter (λ x. x.1.fresh) held))))
    of_fresh true free rest = of_bytes (is_empty e.1.now) (mark e) free rest
    of_fresh false free rest = rest free

-- a map whose tree meets its pages has no more than it meets
map_spends : (root : ℕ) (P : Pages) (es : List Entry) (c : View) → map_in root P ≡ Some es → free_page c ≡ None
    → ((fs : List Entry) → read_tree root P ≡ Some fs → length (tree_met root P) + length (filter (λ e. e.1) (fresh_pages c)) < 2 * length fs)
    → page_count P + length (fresh_pages c) < 2 * length es
map_spends root P es c is none within =
    omega (arith, all_few root P (meets_all root P (map_all root P es is)).all, all_taken c.held none, within es (map_tree root P es is))

-- ---- what a refusal tells of the pages
module _ {S : Type 0} (Leads : ℕ → S → S → Type 0) (durable : S → Bool) (total : S → ℕ) (owner most : ℕ) (old : S) (s : Slots) (Asks IsWithin : View → Type 0)
    (spends : (c : View) → Asks c → IsWithin c → page_count (owned s owner) + length (fresh_pages c) < most) where
  short_of : (e : SpaceFault) (of : ℕ) (full : IsFullFor Leads durable total owner Asks IsWithin old s e)
      → ((n : ℕ) → n < of → (s n).0 ≡ 0 → holds_fresh full.ctx n ≡ true) → IsShort s owner most of
  short_of e of full used = record { ctx = full.ctx; used = used; within = spends full.ctx full.asks full.within }

  shorts : (e : SpaceFault) → WhereFull e (IsFullFor Leads durable total owner Asks IsWithin old s e) → WhereShort e (IsShort s owner most)
  shorts (DataFull used of) full = short_of (DataFull used of) of full (used_by s full.ctx (total full.space) used of full.full.1)
  shorts (TempFull used of) full = short_of (TempFull used of) of full (used_by s full.ctx (total full.space) used of full.full.1)
  shorts e full = tt

-- so a change of the catalogue is short of a page only where its pages with the fresh ones are fewer than twice its entries
pub catalogue-short : {S : Type 0} (Leads : ℕ → S → S → Type 0) (durable : S → Bool) (total : S → ℕ) (place : Place) (old : S) (s : Slots) (es : List Entry) → place.owner ≡ 2 → map_in place.root (owned s 2) ≡ Some es
    → (e : SpaceFault) → WhereFull e (IsFullFor Leads durable total place.owner (IsAsking place.root) (IsWithin place.root (owned s place.owner)) old s e)
    → WhereShort e (IsShort s 2 (2 * length es))
catalogue-short Leads durable total place old s es is read e full =
    let there : map_in place.root (owned s place.owner) ≡ Some es = subst (λ (o : ℕ). map_in place.root (owned s o) ≡ Some es) (sym is) read in
    subst (λ (o : ℕ). WhereShort e (IsShort s o (2 * length es))) is
    (shorts Leads durable total place.owner (2 * length es) old s (IsAsking place.root) (IsWithin place.root (owned s place.owner))
    (λ ctx asks within. map_spends place.root (owned s place.owner) es ctx there asks.taken within) e full)

pub own_short : (e : SpaceFault) (IsSo : ℕ → Type 0) → IsOwnFault e → WhereShort e IsSo
own_short (DataFull used of) IsSo own = absurd own
own_short (TempFull used of) IsSo own = absurd own
own_short e IsSo own = tt

-- each of the first so many pages is somebody's
abbrev AreAllUsed : Slots → ℕ → Type 0
AreAllUsed s of = (n : ℕ) → n < of → (s n).0 ≡ 0 → holds_fresh nothing n ≡ true

used_up : (durable : Bool) (total : ℕ) (s : Slots) (e : SpaceFault) → IsFull durable total s nothing Fresh e → WhereShort e (AreAllUsed s)
used_up durable total s (DataFull used of) full = used_by s nothing total used of full.1
used_up durable total s (TempFull used of) full = used_by s nothing total used of full.1
used_up durable total s e full = tt

-- ---- an owner without bytes has no pages
none_of : (P : Pages) → ((n : ℕ) → P n ≡ []) → (ns : List ℕ) → length (filter (λ n. not (is_empty (P n))) ns) ≡ 0
none_of P none [] = refl
none_of P none (n ∷ ns) =
    ap (λ (bytes : List ℕ). length (cond (not (is_empty bytes)) (n ∷ filter (λ n. not (is_empty (P n))) ns) (filter (λ n. not (is_empty (P n))) ns))) (none n)
    ∙ none_of P none ns

none_within : (P : Pages) → ((n : ℕ) → P n ≡ []) → (most : ℕ) → length (filter (λ n. not (is_empty (P n))) (range_with_len 0 most)) ≡ 0
none_within P none most = none_of P none (range_with_len 0 most)

pub none_counted : (P : Pages) → ((n : ℕ) → P n ≡ []) → page_count P ≡ 0
unfolding page_numbers
none_counted P none = none_within P none 65536

-- ---- on the way to a relation
module _ {S : Type 0} (Has : Wanted → Slots → S → Type 0) (Leads : ℕ → S → S → Type 0) (table : S → ℕ) (m : Meanings) (root : ℕ) (gone : List ℕ) (g : Going) (cost : ℕ) (name : Name) (method : ℕ) (schema : List Column) (key : List Name)
    (whole : (want : Wanted) (s : Slots) (a : S) → Has want s a → AreWhole s) (few : (want : Wanted) (s : Slots) (a : S) → Has want s a → (n : ℕ) → 65536 ≤ n → (s n).0 ≡ 0)
    (tabled : (want : Wanted) (s : Slots) (a : S) → Has want s a → IsTabled (table a) s)
    (old : S) (keeps : KeepsDb Has m root gone g.gone.durable g.db old) (may : MayCreate m g.db name method schema key) where
  abbrev made : Relation
  made = new_relation method schema key

  -- the definition's trail
  abbrev trail : Trail
  trail = at_point (with_relation g.db name made) g.gone cost g.trail

  -- no page is left with these pages
  abbrev IsLeft : Slots → ℕ → ℕ → Type 0
  IsLeft t owner total = IsShortComing (extensions_of m) keeps.slots t keeps.kept made owner total

  may_come : MayCome m IsDurable root keeps.slots gone keeps.kept g.gone name made
  may_come = record {
    keeps = keeps.keeps;
    meant = all_meant m root keeps.slots keeps.kept keeps.lasting keeps.keeps.tables;
    few = held_pages keeps.slots gone g.gone.durable keeps.held;
    new = kept_at-no_relation keeps.kept name (ap (λ (d : Db). relation_at d name) (sym keeps.is) ∙ may.new);
    outlives = outlives m method may.box may.live may.durable may.lasting;
  }

  are_pages : (t : Slots) (a : S) → Has keeps.want t a → (o : ℕ) → ArePages (owned t o)
  are_pages t a has o = ArePages-few t o (whole keeps.want t a has) (few keeps.want t a has)

  licence : (mid new : S) (t : Slots) (owner : ℕ) (e : SpaceFault) → LeadsOn Leads mid new → Has keeps.want t mid → WhereShort e (IsLeft t owner)
      → IsLicensed Has Leads table m (refusal_of e) trail new
  licence mid new t owner (DataFull used total) leads has short = λ small.
      let at = resting (with_relation g.db name made) g.gone (g.trail.spent + cost) in
      record {
        space = mid;
        leads = leads;
        want = keeps.want;
        slots = t;
        has = has;
        short = any_last (IsShortOf total (table mid + page_count (owned t 1)) (extensions_of m)) g.trail.points at
            (subst (λ (db : Db). total ≤ table mid + page_count (owned t 1) + need (extensions_of m) true (resting (with_relation db name made) g.gone (g.trail.spent + cost))) (sym keeps.is)
            (coming-is-full m IsDurable root keeps.slots t gone keeps.kept g.gone (g.trail.spent + cost) name made owner (table mid) total may_come
            (are_pages t mid has) small (tabled keeps.want t mid has) short));
      }
  licence mid new t owner e leads has short = tt

  few_listed : page_count (owned keeps.slots 2) ≤ 2 * length keeps.kept + 3
  few_listed = catalogue_small m IsDurable root keeps.slots keeps.kept keeps.keeps.tables

  -- no page is left before any is given
  pub licence_first : (durable : Bool) (total : ℕ) (e : SpaceFault) (new : S) → IsFull durable total keeps.slots nothing Fresh e → LeadsOn Leads old new
      → IsLicensed Has Leads table m (refusal_of e) trail new
  licence_first durable total e new full leads =
      licence old new keeps.slots 0 e leads keeps.has
      (where_short e (AreAllUsed keeps.slots) (IsLeft keeps.slots 0)
      (λ of used. record {
        comes = record { is = inl refl; none = λ n. refl; others = λ o other second. refl };
        ctx = nothing;
        used = used;
        entry = 0;
        rows = 0;
        all = omega arith;
        catalogue = omega (arith, few_listed);
        own = omega (arith, none_counted (owned keeps.slots 0) (λ n. refl));
      }) (used_up durable total keeps.slots e full))

  module _ (owner top : ℕ) (mid : S) (high : 2 < owner) (come : HasCome Has keeps.want keeps.slots owner top mid) (d : Descriptor) (is : d ≡ new_descriptor method owner top schema key) where
    abbrev inst : Instance
    inst = table_instance true name (new_descriptor method owner top schema key)

    two : ◌≡◌ {A = ℕ} 2 owner → ⊥
    two is = omega (arith, high, is)

    -- a root was given, and the rows want pages
    short_rows : (e : SpaceFault) (live : IsLive m inst) → WhereShort e (LacksFor live.box inst Prepare [] come.slots) → WhereShort e (IsLeft come.slots owner)
    short_rows e live lacks =
        where_short e (LacksFor live.box inst Prepare [] come.slots) (IsLeft come.slots owner)
        (λ of lack. record {
          comes = record { is = inr high; none = come.none; others = λ o other second. come.others o other };
          ctx = lack.short.ctx;
          used = lack.short.used;
          entry = 0;
          rows = length (fresh_pages lack.short.ctx);
          all = omega arith;
          catalogue = omega (arith, few_listed, ap page_count (come.others 2 two));
          own = omega (arith, lack.short.within, (are-bounded m).methods method live.box live.live live.law made refl);
        }) lacks

    -- the rows have theirs, and the entry wants pages
    short_entry : (e : SpaceFault) (late : S) (rows : LeavesRows Has m inst keeps.want come.slots late []) → WhereShort e (IsShort rows.slots 2 (2 * length (map entry_of keeps.kept)))
        → WhereShort e (IsLeft rows.slots owner)
    short_entry e late rows short =
        where_short e (IsShort rows.slots 2 (2 * length (map entry_of keeps.kept))) (IsLeft rows.slots owner)
        (λ of lack. record {
          comes = record { is = inr high; none = come.none; others = λ o other second. rows.others o other ∙ come.others o other };
          ctx = lack.ctx;
          used = lack.used;
          entry = length (fresh_pages lack.ctx);
          rows = 0;
          all = omega arith;
          catalogue = omega (arith, lack.within, length-map {B = Entry} keeps.kept entry_of);
          own = omega (arith, row_pages m (extensions_of m) rows.slots inst made (are-bounded m) (are_pages rows.slots late rows.has owner) refl rows.own);
        }) short

    pub licence_rows : (e : SpaceFault) (new : S)
        → ((want : Wanted) (s : Slots) → Has want s mid → IsNewIn s (table_instance true name d) → (live : IsLive m (table_instance true name d))
        → WhereShort e (LacksFor live.box (table_instance true name d) Prepare [] s))
        → ((box : Method) → method_of method m.methods ≡ Some box → IsMethod box) → LeadsOn Leads mid new → IsLicensed Has Leads table m (refusal_of e) trail new
    licence_rows e new full law leads =
        let live = is_live-new m g.db name method owner top schema key may high law in
        let told = subst (λ (x : Descriptor). (want : Wanted) (s : Slots) → Has want s mid → IsNewIn s (table_instance true name x) → (live : IsLive m (table_instance true name x))
        → WhereShort e (LacksFor live.box (table_instance true name x) Prepare [] s)) is full in
        licence mid new come.slots owner e leads come.has
        (short_rows e live (told keeps.want come.slots come.has (new-in Has m root gone g.gone.durable g.db name method owner top schema key old mid mid new keeps may high come) live))

    pub licence_entry : (e : SpaceFault) (late new : S)
        → ((want : Wanted) (s : Slots) → Has want s mid → IsNewIn s (table_instance true name d) → LeavesRows Has m (table_instance true name d) want s late [])
        → ((want : Wanted) (s : Slots) (es : List Entry) → Has want s late → map_in root (owned s 2) ≡ Some es → WhereShort e (IsShort s 2 (2 * length es)))
        → LeadsOn Leads late new → IsLicensed Has Leads table m (refusal_of e) trail new
    licence_entry e late new prepared full leads =
        of_rows (subst (λ (x : Descriptor). (want : Wanted) (s : Slots) → Has want s mid → IsNewIn s (table_instance true name x) → LeavesRows Has m (table_instance true name x) want s late []) is prepared
        keeps.want come.slots come.has (new-in Has m root gone g.gone.durable g.db name method owner top schema key old mid late new keeps may high come))
      where
        of_rows : LeavesRows Has m inst keeps.want come.slots late [] → IsLicensed Has Leads table m (refusal_of e) trail new
        of_rows rows =
            licence late new rows.slots owner e leads rows.has
            (short_entry e late rows (full keeps.want rows.slots (map entry_of keeps.kept) rows.has
            (entries-late Has m root gone g.gone.durable g.db name method owner top schema key old mid late new keeps may high come rows)))
