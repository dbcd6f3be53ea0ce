-- A change of one row, as the engine makes it.
use Rattle.std.proofs.Common.{◌≡◌, ⊎_elim, ℕ, ◌+◌, ◌≤◌, Bool, true, false, List, [], ◌∷◌, ◌++◌, map, All, Option, Some, None, option_map, inl, refl, sym, ap, ◌∙◌, subst, arith}
use Rattle.std.proofs.lemmas.List.Elements.{All-weaker}
use Rattle.std.specs.declared.vec.Vec.{Vec}
use Rattle.std.specs.declared.alloc.Global.{Global}
use Rattle.sb_rule.specs.declared.change.Change.{Change}
use Rattle.sb_relation.specs.Changes.{changed, changed_rows}
use Rattle.sb_relation.specs.Db
use Rattle.sb_relation.specs.Db.{Name, Key, Relation, Db, relation_at}
use Rattle.sb_relation.specs.Keys.{keying_of}
use Rattle.sb_fold.specs.declared.refusal.Refusal.{Refusal}
use Rattle.sb_fold.specs.declared.refusal.Refusal.TheVariants as refusal
use Rattle.sb_fold.specs.Costs.{change_cost, method_cost}
use Rattle.sb_fold.specs.Extensions.{Extensions, box_of, is_durable_method}
use Rattle.sb_fold.specs.Fold.{reach_change}
use Rattle.sb_fold.specs.Need.{need}
use Rattle.sb_fold.specs.Outcome.{Going, Outcome, Trail, Work, made, refuse, change_to, trail_of, ◌>>=◌, with_picks, Leads}
use Rattle.sb_fold.specs.Wishes.{Wish, wished}
use Rattle.sb_fold.proofs.LeadsLemmas.{leads_change, leads_from, leads_here, leads_on, leads_refused}
use Rattle.sb_deferred.specs.Complete.{AreMirrored, IsComplete}
use Rattle.sb_cascade.specs.Fitting.{IsFitting}
use Rattle.sb_cascade.specs.Runs.{EndsBy, GoesOn, MadeFrom, StopsFrom, is_free, row_change, row_of_relation}
use Rattle.sb_cascade.proofs.Stopping.{stops_free}
use Rattle.sb_cascade.proofs.Forward.{IsForward, forward_at, forward_made, forward_next, forward_no_step, forward_reach, forward_wished}
use Rattle.sb_cascade.proofs.Staying.{actions-stay, rules-stay}
use Rattle.sb_registry.specs.Boxes.{Meanings, method_of}
use Rattle.sb_ctx.specs.Pages.{ArePages, page_count}
use Rattle.sb_drive.specs.Slots.{Slots, owned}
use Rattle.sb_drive.specs.Spaces.{LeadsOn, LeadsWithin, Wanted}
use Rattle.sb_drive.specs.declared.space.SpaceFault.{SpaceFault}
use Rattle.sb_drive.specs.declared.space.SpaceFault.TheVariants as fault
use Rattle.sb_weights.specs.Owned.{IsTabled}
use Rattle.sb_weights.specs.Weights.{changing, most_changed}
use Rattle.sb_ctx.specs.Method.{call_of}
use Rattle.sb_weights.proofs.Charged.{method-is-charged}
use Rattle.sb_weights.proofs.Lacking.{change-is-full}
use Rattle.sb_weights.proofs.Measuring.{held_pages}
use Rattle.sb_ctx.specs.declared.instance.Instance.{Instance}
use Rattle.sb_standing.specs.Lacking.{IsShort, WhereShort}
use Rattle.sb_standing.specs.Live.{HasRows, LeavesRows}
use Rattle.sb_catalog.specs.declared.descriptor.Attached.{Attached}
use Rattle.sb_catalog.specs.declared.descriptor.Descriptor.{Descriptor}
use Rattle.sb_catalog.specs.Descriptors.{described, standing}
use Rattle.sb_standing.specs.Tables.{Kept, db_of, table_of}
use Rattle.sb_standing.specs.Asked.{change_kept, changed_kept}
use Rattle.sb_standing.specs.Standing.{owners_in}
use Rattle.sb_standing.proofs.AskedLaws.{Asks-put}
use Rattle.sb_standing.proofs.OwnersLemmas.{owners_of-among}
use Rattle.sb_standing.proofs.FrameLemmas.{All-unmap}
use Rattle.sb_standing.proofs.KeptChangedLemmas.{change_kept-same, db_of-changed, descriptors-changed, kept_at-changed}
use Rattle.sb_standing.proofs.KeptLemmas.{kept_at-all}
use Rattle.sb_standing.proofs.RelationLemmas.{AreLawful-kept}
use Rattle.sb_asking.specs.OpenRelation.{OpenRelation}
use Rattle.sb_asking.specs.Opened.{IsDurable}
use Rattle.sb_wishes.specs.Outcomes.{Begins, IsBegun, LacksPage, Makes, Refuses}
use Rattle.sb_wishes.specs.Wished.{HasCounts, IsTableOf}
use Rattle.sb_engine.specs.declared.running.Work.{Work as Kept_work}
use Rattle.sb_engine.specs.Picks.{picks_of}
use Rattle.sb_engine.specs.Licensed.{paid_for}
use Rattle.sb_engine.specs.Refusals.{refusal_of}
use Rattle.sb_engine.specs.Working.{AreLasting, AreNamedApart, AreOpened, ArePaired, IsLasting, IsLicensed, IsOpened, IsPaid, IsShortOf, Stands, StandsAsking, cost_from, extensions_of, open_at}
use Rattle.sb_engine.proofs.GoneLemmas.{held-others}
use Rattle.sb_engine.proofs.LackingLemmas.{all_meant, any_last, goes_none}
use Rattle.sb_engine.proofs.PaidLemmas.{Spends, change_charged, paid_looking, paid_within}
use Rattle.sb_engine.proofs.RefusedLemmas.{free_refusal}
use Rattle.sb_engine.proofs.LateLemmas.{queue_first-none}
use Rattle.sb_engine.proofs.OpenedLemmas.{HasOpen, has_open}
use Rattle.sb_engine.proofs.PicksLemmas.{leads-picks, leads-quiet}

-- ---- the change of one row by the definitions
pub forward_row : (ext : Extensions) (name : Name) (wish : Wish) → IsForward (row_change ext name wish)
forward_row ext name wish = forward_at (λ g. row_of_relation ext name wish (relation_at g.db name)) (λ g. of_relation (relation_at g.db name))
  where
    of_relation : (o : Option Relation) → IsForward (row_of_relation ext name wish o)
    of_relation None = forward_no_step
    of_relation (Some r) = forward_next _ _ (forward_wished name r wish) (λ c. forward_next _ _ (forward_reach ext name r c) (λ _. forward_made c))

row_there : (ext : Extensions) (name : Name) (wish : Wish) (g : Going) (r : Relation) → relation_at g.db name ≡ Some r
    → (left : List Key) → row_change ext name wish (with_picks g left) ≡ row_of_relation ext name wish (Some r) (with_picks g left)
row_there ext name wish g r there left = ap (λ (o : Option Relation). row_of_relation ext name wish o (with_picks g left)) there

-- what stands after it
abbrev reached : Extensions → Name → Relation → Change → Going → List Key → Going
reached ext name r c g picks = reach_change ext name r c (record g { used = g.used ++ picks })

leads_row : (ext : Extensions) (name : Name) (wish : Wish) (g : Going) (r : Relation) (picks : List Key) (c : Change) → relation_at g.db name ≡ Some r
    → Leads (wished name r wish) g picks (made c) (record g { used = g.used ++ picks })
    → Leads (row_change ext name wish) g (picks ++ ([] ++ [])) (made c) (reached ext name r c g picks)
leads_row ext name wish g r picks c there run =
    let next = λ (d : Change). change_to (reach_change ext name r d) >>= λ _. made d in
    let mid : Going = record g { used = g.used ++ picks } in
    leads_from (row_change ext name wish) (row_there ext name wish g r there)
    (leads_on next run (leads_on (λ _. made c) (leads_change (reach_change ext name r c) mid (λ left. refl)) (leads_here (made c) (reached ext name r c g picks))))

-- ---- the relation as its storage method sees it
map_of : {A B C : Type 0} (f : B → C) (h : A → B) (xs : List A) → map f (map h xs) ≡ map (λ x. f (h x)) xs
map_of f h [] = refl
map_of {C = C} f h (x ∷ xs) = ap (λ (l : List C). f (h x) ∷ l) (map_of f h xs)

rules_same : (ds : List Attached) (others : List Db.Attached) → map described ds ≡ map standing others → map (λ a. a.rule) ds ≡ map (λ a. a.rule) others
rules_same ds others same = sym (map_of (λ t. t.2) described ds) ∙ ap (map (λ t. t.2)) same ∙ map_of (λ t. t.2) standing others

pub is_table : (m : Meanings) (s : Slots) (kept : List Kept) (name : Name) (one : OpenRelation) → (h : HasOpen m s kept name one) → IsTableOf one.table one.descriptor.attachments h.k.relation
is_table m s kept name one h = record {
  method = sym (ap (λ (i : Instance). i.code) h.inst ∙ ap (λ (d : Descriptor). d.method) h.same ∙ h.is.method);
  schema = sym h.schema;
  key = sym (ap (λ (i : Instance). i.key) h.inst ∙ ap (λ (d : Descriptor). d.key) h.same ∙ h.is.key);
  attached = rules_same one.descriptor.attachments h.k.relation.attachments h.is.attachments;
}

pub table_name : (m : Meanings) (s : Slots) (kept : List Kept) (name : Name) (one : OpenRelation) → (h : HasOpen m s kept name one) → one.table.relation ≡ name
table_name m s kept name one h = ap (λ (i : Instance). i.relation) h.inst ∙ h.named ∙ h.name_is

-- ---- what stays so with a change of a relation's rows
pub opened-changed : (m : Meanings) (kept : List Kept) (name : Name) (c : Change) (opened : List OpenRelation) → AreOpened m kept opened → AreOpened m (changed_kept name c kept) opened
opened-changed m kept name c opened are = All-weaker (IsOpened m kept) (IsOpened m (changed_kept name c kept)) (λ o is. record {
  is = is.is;
  one = change_kept name c is.one;
  at = kept_at-changed name c kept o.name ∙ ap (option_map (change_kept name c)) is.at;
  same = change_kept-same (λ k. k.descriptor) name c (λ k. refl) is.one ∙ is.same;
}) opened are

pub lasting-changed : (kept : List Kept) (name : Name) (c : Change) → AreLasting kept → AreLasting (changed_kept name c kept)
lasting-changed kept name c lasting = subst (λ (ds : List Descriptor). All IsLasting ds) (sym (descriptors-changed name c kept)) lasting

no_counts : (m : Meanings) (s : Slots) (kept : List Kept) (name : Name) (one : OpenRelation) → AreLasting kept → (h : HasOpen m s kept name one) → HasCounts h.k.relation
no_counts m s kept name one lasting h = λ counted.
    absurd (kept_at-all (λ (k : Kept). IsLasting k.descriptor) kept name h.k (All-unmap IsLasting (λ (k : Kept). k.descriptor) kept lasting) h.at
    (ap keying_of (ap (λ (d : Descriptor). d.method) h.same ∙ h.is.method) ∙ counted))

-- ---- a change that was made
module _ {S : Type 0} (Has : Wanted → Slots → S → Type 0) (Spent : ℕ → S → Type 0) (Ways : ℕ → S → S → Type 0) (spends : Spends Spent Ways) (m : Meanings) (root : ℕ)
    (name : Name) (wish : Wish) (one : OpenRelation) (old new : S) where
  -- what the storage method makes of it, whatever the pages are
  abbrev MakesIt : Change → Type 0
  MakesIt c = (want : Wanted) (s : Slots) (r : Relation) → Has want s old → IsTableOf one.table one.descriptor.attachments r → (has : HasRows m s one.table r.rows)
      → Makes Has Ways m one.table want s old new r has (wished one.table.relation r wish) c

  abbrev RefusesIt : Refusal → Type 0
  RefusesIt e = (want : Wanted) (s : Slots) (r : Relation) → Has want s old → IsTableOf one.table one.descriptor.attachments r → (has : HasRows m s one.table r.rows)
      → Refuses Has Ways m one.table want s old new r (wished one.table.relation r wish) e

  abbrev pub opened_of : (g : Going) (w : Kept_work) (stands : Stands Has Spent m root g old w) → open_at w.opened.items name ≡ Some one → HasOpen m stands.slots stands.kept name one
  opened_of g w stands at = has_open m root stands.slots stands.kept w.opened.items name one stands.keeps.tables stands.opened at

  -- the point of a change has paid for what its call may change, and for its attachments
  row_paid : (g : Going) (w : Kept_work) (stands : Stands Has Spent m root g old w) (at : open_at w.opened.items name ≡ Some one) (c : Change)
      → LeadsWithin Ways ((opened_of g w stands at).rows.live.box.cost (call_of c) (opened_of g w stands at).k.relation.rows) old new
      → IsPaid Spent (cost_from (extensions_of m) (db_of stands.kept) name c 0) (g.trail.spent + change_cost (extensions_of m) g.db name (opened_of g w stands at).k.relation c) new
  row_paid g w stands at c within =
      let h = opened_of g w stands at in
      let r = h.k.relation in
      let ext = extensions_of m in
      let db = db_of stands.kept in
      let box = h.rows.live.box in
      let durable : is_durable_method ext r.method ≡ true =
      kept_at-all (λ (k : Kept). is_durable_method ext k.relation.method ≡ true) stands.kept name h.k (all_meant m root stands.slots stands.kept stands.lasting stands.keeps.tables) h.at in
      let live : method_of r.method m.methods ≡ Some box = ap (λ (n : ℕ). method_of n m.methods) (is_table m stands.slots stands.kept name one h).method ∙ h.rows.live.live in
      let charged : box.cost (call_of c) r.rows ≤ method_cost ext r c = method-is-charged m box r c live h.rows.live.law in
      let same : change_cost ext g.db name r c ≡ change_cost ext db name r c = ap (λ (d : Db). change_cost ext d name r c) stands.db in
      paid_within Spent Ways spends old new (box.cost (call_of c) r.rows) 0 g.trail.spent (cost_from ext db name c 0) (g.trail.spent + change_cost ext g.db name r c)
      (omega (arith, charged, same, change_charged ext db name r c h.there durable)) within stands.paid

  pub row_made : (g : Going) (w : Kept_work) (p : Vec Key Global) (c : Change) → Stands Has Spent m root g old w → open_at w.opened.items name ≡ Some one → MakesIt c
      → p.items ≡ w.picks.items ++ picks_of one.table.code c
      → MadeFrom (λ h x. StandsAsking Has Spent m root name c 0 h x (record w { picks = p })) (row_change (extensions_of m) name wish) g c new
  row_made g w p c stands at makes noted =
      let h = has_open m root stands.slots stands.kept w.opened.items name one stands.keeps.tables stands.opened at in
      let k = h.k in
      let table = is_table m stands.slots stands.kept name one h in
      let it = makes stands.want stands.slots k.relation stands.has table h.rows in
      let there : relation_at g.db name ≡ Some k.relation = ap (λ (d : Db). relation_at d name) stands.db ∙ h.there in
      let run : Leads (wished name k.relation wish) g it.picks (made c) (record g { used = g.used ++ it.picks }) =
      subst (λ (n : Name). Leads (wished n k.relation wish) g it.picks (made c) (record g { used = g.used ++ it.picks })) (table_name m stands.slots stands.kept name one h) (it.wished g) in
      let leaves : LeavesRows Has m (table_of IsDurable k) stands.want stands.slots new (changed_rows k.relation.rows c) =
      subst (λ (i : Instance). LeavesRows Has m i stands.want stands.slots new (changed_rows k.relation.rows c)) h.inst it.leaves in
      let after = reached (extensions_of m) name k.relation c g it.picks in
      record {
        picks = it.picks ++ ([] ++ []);
        after = after;
        leads = leads_row (extensions_of m) name wish g k.relation it.picks c there run;
        stands = record {
          want = stands.want;
          slots = leaves.slots;
          before = stands.kept;
          has = leaves.has;
          db = ap (λ (d : Db). changed d name c) stands.db ∙ sym (db_of-changed name c stands.kept stands.keeps.tables.rising);
          asks = Asks-put m IsDurable root stands.slots leaves.slots w.gone.items stands.kept name k c stands.keeps h.at
              (record { suits = it.suits (no_counts m stands.slots stands.kept name one stands.lasting h); others = leaves.others; rows = leaves.own });
          lasting = stands.lasting;
          lawful = AreLawful-kept m IsDurable stands.slots stands.kept stands.keeps.tables.each;
          mirrored = subst AreMirrored stands.db stands.mirrored;
          paired = subst ArePaired stands.db stands.paired;
          complete = subst (λ (d : Db). IsComplete d g.queue) stands.db stands.complete;
          opened = opened-changed m stands.kept name c w.opened.items stands.opened;
          waits = stands.waits ∙ sym (queue_first-none name c after);
          picked = noted ∙ ap (λ (keys : List Key). keys ++ picks_of one.table.code c) stands.picked
              ∙ ap (λ (method : ℕ). g.used ++ picks_of method c) (sym table.method)
              ∙ sym (leads-picks name k.relation wish g it.picks c run);
          gone = stands.gone;
          aside = held-others stands.slots leaves.slots (owners_in stands.kept) w.gone.items g.gone.durable k.descriptor.owner
              (owners_of-among stands.kept name k k.descriptor.owner h.at (inl refl)) leaves.others stands.keeps.own stands.aside;
          paid = row_paid g w stands at c it.cost;
          apart = subst AreNamedApart stands.db stands.apart;
          come = record {
            points = g.trail.points;
            spent = after.trail.spent;
            is = ap (λ (db : Db). g.trail.points ++ changing db name c g.gone after.trail.spent ∷ []) stands.db;
          };
          rules = (rules-stay (box_of (extensions_of m)) g.db name c).1 stands.rules;
          fit = All-weaker (IsFitting g.db) (IsFitting (changed g.db name c)) (λ a fits. (actions-stay g.db name c a).1 fits) g.queue.actions stands.fit;
        };
      }

  -- ---- or it was begun
  -- the work that a relation's storage method was asked for
  abbrev asked_work : (g : Going) (w : Kept_work) (stands : Stands Has Spent m root g old w) → open_at w.opened.items name ≡ Some one → Work Change
  asked_work g w stands at = wished one.table.relation (opened_of g w stands at).k.relation wish

  -- it comes to the point of the change that it gives
  row_stops : {R : Type 0} (Stopped : Refusal → Trail → R → Type 0) (x : R) (g : Going) (w : Kept_work) (e : Refusal) (stands : Stands Has Spent m root g old w)
      (at : open_at w.opened.items name ≡ Some one) (c : Change) (picks : List Key) → is_free e ≡ true
      → ((h : Going) → Leads (asked_work g w stands at) h picks (made c) (record h { used = h.used ++ picks }))
      → Stopped e (reached (extensions_of m) name (opened_of g w stands at).k.relation c g picks).trail x
      → StopsFrom Stopped (row_change (extensions_of m) name wish) g e x
  row_stops Stopped x g w e stands at c picks free wished_so stopped =
      let h = opened_of g w stands at in
      let k = h.k in
      let ext = extensions_of m in
      let there : relation_at g.db name ≡ Some k.relation = ap (λ (d : Db). relation_at d name) stands.db ∙ h.there in
      let run : Leads (wished name k.relation wish) g picks (made c) (record g { used = g.used ++ picks }) =
      subst (λ (n : Name). Leads (wished n k.relation wish) g picks (made c) (record g { used = g.used ++ picks })) (table_name m stands.slots stands.kept name one h) (wished_so g) in
      let after = reached ext name k.relation c g picks in
      let comes = leads_row ext name wish g k.relation picks c there run in
      subst (λ (b : Bool). EndsBy Stopped b (row_change ext name wish) g e x) (sym free)
      (record {
        picks = picks ++ ([] ++ []);
        trail = after.trail;
        comes = λ more. subst (λ (o : Outcome Change). GoesOn after.trail (trail_of o)) (sym (comes.leads more)) (goes_none after.trail);
        stopped = stopped;
      })

  -- memory was wanting behind a change that was made
  pub row_lost : {R : Type 0} (Stopped : Refusal → Trail → R → Type 0) (x : R) (g : Going) (w : Kept_work) (c : Change) → Stands Has Spent m root g old w
      → open_at w.opened.items name ≡ Some one → MakesIt c → ((trail : Trail) → IsPaid Spent 0 trail.spent new → Stopped refusal.NoMemory trail x)
      → StopsFrom Stopped (row_change (extensions_of m) name wish) g refusal.NoMemory x
  row_lost Stopped x g w c stands at makes stop =
      let h = opened_of g w stands at in
      let it = makes stands.want stands.slots h.k.relation stands.has (is_table m stands.slots stands.kept name one h) h.rows in
      row_stops Stopped x g w refusal.NoMemory stands at c it.picks refl it.wished (stop _ (paid_for (row_paid g w stands at c it.cost)))

  -- ---- or no page was left for it
  pub row_full : {R : Type 0} (table : S → ℕ) (Stopped : Refusal → Trail → R → Type 0) (x : R) (g : Going) (w : Kept_work) (e : SpaceFault) (stands : Stands Has Spent m root g old w)
      (at : open_at w.opened.items name ≡ Some one) → ((o : ℕ) → ArePages (owned stands.slots o)) → IsTabled (table old) stands.slots → LeadsOn Ways old new
      → WhereShort e (LacksPage Ways m stands.slots one.table (opened_of g w stands at).k.relation (opened_of g w stands at).rows (asked_work g w stands at) old new)
      → Begins Ways m stands.slots one.table (opened_of g w stands at).k.relation (opened_of g w stands at).rows (asked_work g w stands at) old new
      → ((trail : Trail) → IsLicensed Has Ways table m (refusal_of e) trail new → IsPaid Spent 0 trail.spent new → Stopped (refusal_of e) trail x)
      → StopsFrom Stopped (row_change (extensions_of m) name wish) g (refusal_of e) x
  row_full table Stopped x g w (fault.DataFull used total) stands at pages tabled leads lacks begins stop =
      let h = opened_of g w stands at in
      let k = h.k in
      let ext = extensions_of m in
      let it = lacks in
      let box = h.rows.live.box in
      let after = reached ext name k.relation it.change g it.picks in
      let live : method_of k.descriptor.method m.methods ≡ Some box = subst (λ (i : Instance). method_of i.code m.methods ≡ Some box) h.inst h.rows.live.live in
      let short : IsShort stands.slots k.descriptor.owner (most_changed box k.relation.rows it.change) total =
      subst (λ (i : Instance). IsShort stands.slots i.owner (most_changed box k.relation.rows it.change) total) h.inst (it.short (no_counts m stands.slots stands.kept name one stands.lasting h)) in
      row_stops Stopped x g w (refusal_of (fault.DataFull used total)) stands at it.change it.picks refl it.wished
      (stop after.trail
      (λ small. record {
        space = old;
        leads = leads;
        want = stands.want;
        slots = stands.slots;
        has = stands.has;
        short = any_last (IsShortOf total (table old + page_count (owned stands.slots 1)) ext) g.trail.points (changing g.db name it.change g.gone after.trail.spent)
            (subst (λ (db : Db). total ≤ table old + page_count (owned stands.slots 1) + need ext true (changing db name it.change g.gone after.trail.spent)) (sym stands.db)
            (change-is-full m IsDurable root stands.slots w.gone.items stands.kept g.gone after.trail.spent name k it.change box (table old) total
            (all_meant m root stands.slots stands.kept stands.lasting stands.keeps.tables) pages stands.keeps
            (held_pages stands.slots w.gone.items g.gone.durable stands.aside) h.at live small tabled short));
      })
      (paid_for (row_paid g w stands at it.change it.cost)))
  row_full table Stopped x g w e stands at pages tabled leads lacks begins stop =
      ⊎_elim
      (λ (none : Ways 0 old new).
      stops_free Stopped (row_change (extensions_of m) name wish) (refusal_of e) x g (free_refusal e) (forward_row (extensions_of m) name wish)
      (stop g.trail tt (paid_looking Spent Ways spends old new none stands.paid)))
      (λ (begun : IsBegun Ways m stands.slots one.table (opened_of g w stands at).k.relation (opened_of g w stands at).rows (asked_work g w stands at) old new).
      row_stops Stopped x g w (refusal_of e) stands at begun.change begun.picks (free_refusal e) begun.wished (stop _ tt (paid_for (row_paid g w stands at begun.change begun.cost))))
      begins

  -- ---- or one that was refused
  pub row_refused : {R : Type 0} (Stopped : Refusal → Trail → R → Type 0) (x : R) (g : Going) (w : Kept_work) (e : Refusal) → Stands Has Spent m root g old w → open_at w.opened.items name ≡ Some one → RefusesIt e
      → (is_free e ≡ false → IsPaid Spent 0 g.trail.spent new → Stopped e g.trail x) → StopsFrom Stopped (row_change (extensions_of m) name wish) g e x
  row_refused Stopped x g w e stands at refuses stopped =
      let h = has_open m root stands.slots stands.kept w.opened.items name one stands.keeps.tables stands.opened at in
      let r = h.k.relation in
      let it = refuses stands.want stands.slots r stands.has (is_table m stands.slots stands.kept name one h) h.rows in
      let there : relation_at g.db name ≡ Some r = ap (λ (d : Db). relation_at d name) stands.db ∙ h.there in
      let run : Leads (wished name r wish) g [] (refuse e) g = subst (λ (n : Name). Leads (wished n r wish) g [] (refuse e) g) (table_name m stands.slots stands.kept name one h) (it.refused g) in
      let quiet = leads-quiet name r wish g [] e g run in
      let next = λ (d : Change). change_to (reach_change (extensions_of m) name r d) >>= λ _. made d in
      subst (λ (b : Bool). EndsBy Stopped b (row_change (extensions_of m) name wish) g e x) (sym quiet)
      (record {
        picks = [];
        after = g;
        leads = leads_from (row_change (extensions_of m) name wish) (row_there (extensions_of m) name wish g r there) (leads_refused next run);
        stopped = stopped quiet (paid_looking Spent Ways spends old new it.cost stands.paid);
      })
