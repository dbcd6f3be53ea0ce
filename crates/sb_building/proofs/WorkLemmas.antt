-- Attaching and detaching by the definitions, and what an engine stands for then.
use Rattle.std.proofs.Common.{◌≡◌, ◌⊎◌, inl, inr, ℕ, ◌+◌, ◌≤◌, Bool, true, false, not, List, [], ◌∷◌, drop, Option, Some, None, arith, refl, sym, ap, subst, ◌∙◌}
use Rattle.std.proofs.lemmas.List.Elements.{All-nil}
use Rattle.sb_rule.specs.declared.rule.Rule.{Rule}
use Rattle.sb_relation.specs.Build.{with_rule}
use Rattle.sb_relation.specs.Db.{Name, Key, Rows, Attached, Db, rows_at}
use Rattle.sb_relation.specs.Rules.{holds}
use Rattle.sb_fold.specs.declared.refusal.Refusal.{Refusal}
use Rattle.sb_fold.specs.declared.refusal.Refusal.TheVariants.{NoMemory, TooLong, Veto}
use Rattle.sb_fold.specs.Building.{at_point, build, build_rows, detach, detach_one, has_long_row, reach_build, rule_at}
use Rattle.sb_fold.specs.Extensions.{Extensions, box_of}
use Rattle.sb_fold.specs.Outcome.{Gone, Going, Queue, Trail, Work, change_to, made, refuse, refuse_if, trail_of, with_db, with_picks, ◌>>=◌, Leads}
use Rattle.sb_fold.proofs.LeadsLemmas.{leads_change, leads_on, leads_refused}
use Rattle.sb_deferred.specs.Complete.{AreMirrored, IsComplete}
use Rattle.sb_cascade.specs.Fitting.{AllFit, AllMayStand}
use Rattle.sb_cascade.specs.Runs.{EndsBy, GoesOn, StopsFrom, is_free}
use Rattle.sb_cascade.proofs.Forward.{IsForward, forward_at, forward_change, forward_made, forward_next, forward_refuse, goes_here, goes_then}
use Rattle.sb_registry.specs.Boxes.{Meanings}
use Rattle.sb_drive.specs.Slots.{Slots}
use Rattle.sb_drive.specs.Spaces.{Wanted}
use Rattle.sb_tables.specs.OpenRelation.{OpenRelation}
use Rattle.sb_tables.specs.Work.{Work as Beside}
use Rattle.sb_tables.specs.Working.{AreNamedApart, AreOpened, ArePaired, IsNoneGone, IsOpened, IsPaid, Stands, extensions_of}
use Rattle.sb_tables.specs.Keeping.{KeepsDb}

-- ---- trails
goes_at : (db : Db) (aside : Gone) (cost : ℕ) (t : Trail) → GoesOn t (at_point db aside cost t)
goes_at db aside cost t = record { points = _; more = refl; spent = at_least t.spent cost }
  where
    at_least : (m n : ℕ) → m ≤ m + n
    at_least m n = omega arith

pub goes_rows : (ext : Extensions) (name : Name) (rule : Rule) (rows : Rows) (buckets : ℕ) (built : Rows) (g : Going) → GoesOn g.trail (build_rows ext name rule buckets built rows g).trail
goes_rows ext name rule [] buckets built g = goes_here g.trail
goes_rows ext name rule (row ∷ rows) buckets built g = goes_then (goes_at _ _ _ g.trail) (goes_rows ext name rule rows _ _ _)

forward_if : (b : Bool) (r : Refusal) → IsForward (refuse_if b r)
forward_if true r = forward_refuse r
forward_if false r = forward_made tt

abbrev third : Extensions → Name → Name → Rule → Unit {0} → Work (Unit {0})
third ext relation name rule u = change_to (λ going. with_db (with_rule going.db relation name rule) going)

abbrev second : Extensions → Name → Name → Rule → Unit {0} → Work (Unit {0})
second ext relation name rule u = (λ going. refuse_if (not (holds (box_of ext rule) going.db relation rule)) (Veto relation name) going) >>= third ext relation name rule

abbrev first : Extensions → Name → Name → Rule → Unit {0} → Work (Unit {0})
first ext relation name rule u = (λ going. refuse_if (has_long_row going.db relation rule) (TooLong relation) going) >>= second ext relation name rule

-- what follows the points of a build
forward_first : (ext : Extensions) (relation name : Name) (rule : Rule) → IsForward (first ext relation name rule tt)
forward_first ext relation name rule =
    forward_next _ _ (forward_at (λ g. refuse_if (has_long_row g.db relation rule) (TooLong relation)) (λ g. forward_if _ _)) (λ _.
    forward_next _ _ (forward_at (λ g. refuse_if (not (holds (box_of ext rule) g.db relation rule)) (Veto relation name)) (λ g. forward_if _ _)) (λ _.
    forward_change (λ g. with_db (with_rule g.db relation name rule) g) (λ g. goes_here g.trail)))

pub forward_detach : (ext : Extensions) (relation name : Name) → IsForward (detach ext relation name)
forward_detach ext relation name = forward_change (λ g. detach_one ext relation (rule_at g.db relation name) g) (λ g. of_one g (rule_at g.db relation name))
  where
    of_one : (g : Going) (o : Option Attached) → GoesOn g.trail (detach_one ext relation o g).trail
    of_one g None = goes_here g.trail
    of_one g (Some a) = goes_at _ _ _ g.trail

-- ---- a build leaves all but the trail
rows_db : (ext : Extensions) (name : Name) (rule : Rule) (rows : Rows) (buckets : ℕ) (built : Rows) (g : Going) → (build_rows ext name rule buckets built rows g).db ≡ g.db
rows_db ext name rule [] buckets built g = refl
rows_db ext name rule (row ∷ rows) buckets built g = rows_db ext name rule rows _ _ _

rows_queue : (ext : Extensions) (name : Name) (rule : Rule) (rows : Rows) (buckets : ℕ) (built : Rows) (g : Going) → (build_rows ext name rule buckets built rows g).queue ≡ g.queue
rows_queue ext name rule [] buckets built g = refl
rows_queue ext name rule (row ∷ rows) buckets built g = rows_queue ext name rule rows _ _ _

rows_used : (ext : Extensions) (name : Name) (rule : Rule) (rows : Rows) (buckets : ℕ) (built : Rows) (g : Going) → (build_rows ext name rule buckets built rows g).used ≡ g.used
rows_used ext name rule [] buckets built g = refl
rows_used ext name rule (row ∷ rows) buckets built g = rows_used ext name rule rows _ _ _

rows_gone : (ext : Extensions) (name : Name) (rule : Rule) (rows : Rows) (buckets : ℕ) (built : Rows) (g : Going) → (build_rows ext name rule buckets built rows g).gone ≡ g.gone
rows_gone ext name rule [] buckets built g = refl
rows_gone ext name rule (row ∷ rows) buckets built g = rows_gone ext name rule rows _ _ _

rows_picks : (ext : Extensions) (name : Name) (rule : Rule) (rows : Rows) (buckets : ℕ) (built : Rows) (g : Going) (left : List Key)
    → build_rows ext name rule buckets built rows (with_picks g left) ≡ with_picks (build_rows ext name rule buckets built rows g) left
rows_picks ext name rule [] buckets built g left = refl
rows_picks ext name rule (row ∷ rows) buckets built g left = rows_picks ext name rule rows _ _ _ left

module _ (ext : Extensions) (relation name : Name) (rule : Rule) (g : Going) where
  -- what stands once all rows are built
  abbrev pub reached : Going
  reached = reach_build ext relation rule g

  pub reached_db : reached.db ≡ g.db
  reached_db = rows_db ext relation rule (rows_at g.db relation) _ [] _

  pub reached_queue : reached.queue ≡ g.queue
  reached_queue = rows_queue ext relation rule (rows_at g.db relation) _ [] _

  pub reached_used : reached.used ≡ g.used
  reached_used = rows_used ext relation rule (rows_at g.db relation) _ [] _

  pub reached_gone : reached.gone ≡ g.gone
  reached_gone = rows_gone ext relation rule (rows_at g.db relation) _ [] _

  same_picks : (left : List Key) → reach_build ext relation rule (with_picks g left) ≡ with_picks reached left
  same_picks left = rows_picks ext relation rule (rows_at g.db relation) _ [] _ left

  is_long : Going → Bool
  is_long going = has_long_row going.db relation rule

  is_vetoed : Going → Bool
  is_vetoed going = not (holds (box_of ext rule) going.db relation rule)

passes_if : (test : Going → Bool) (r : Refusal) (h : Going) → ((left : List Key) → test (with_picks h left) ≡ false) → Leads (λ going. refuse_if (test going) r going) h [] (made tt) h
passes_if test r h against = record { leads = λ left. ap (λ b. refuse_if b r (with_picks h left)) (against left) }

stops_if : (test : Going → Bool) (r : Refusal) (h : Going) → ((left : List Key) → test (with_picks h left) ≡ true) → Leads (λ going. refuse_if (test going) r going) h [] (refuse r) h
stops_if test r h for_it = record { leads = λ left. ap (λ b. refuse_if b r (with_picks h left)) (for_it left) }

-- the layer stops once all rows are built, at the furthest
pub build_stops : {R : Type 0} (Stopped : Refusal → Trail → R → Type 0) (new : R) (ext : Extensions) (relation name : Name) (rule : Rule) (r : Refusal) (g : Going) → is_free r ≡ true
    → Stopped r (reached ext relation name rule g).trail new → StopsFrom Stopped (build ext relation name rule) g r new
build_stops Stopped new ext relation name rule r g free stopped =
    subst (λ (b : Bool). EndsBy Stopped b (build ext relation name rule) g r new) (sym free)
    (record {
      picks = [];
      trail = (reached ext relation name rule g).trail;
      comes = λ more.
          let mid = reach_build ext relation rule (with_picks g more) in
          subst (λ (t : Trail). GoesOn t (trail_of (first ext relation name rule tt mid))) (ap (λ (h : Going). h.trail) (same_picks ext relation name rule g more)) ((forward_first ext relation name rule).goes mid);
      stopped = stopped;
    })

-- the rule is attached
pub leads_attached : (ext : Extensions) (relation name : Name) (rule : Rule) (g : Going) → has_long_row g.db relation rule ≡ false → holds (box_of ext rule) g.db relation rule ≡ true
    → Leads (build ext relation name rule) g [] (made tt) (with_db (with_rule (reached ext relation name rule g).db relation name rule) (reached ext relation name rule g))
leads_attached ext relation name rule g short held =
    let h = reached ext relation name rule g in
    let db = reached_db ext relation name rule g in
    leads_on (first ext relation name rule) (leads_change (reach_build ext relation rule) g (same_picks ext relation name rule g))
    (leads_on (second ext relation name rule) (passes_if (λ going. has_long_row going.db relation rule) (TooLong relation) h (λ left. ap (λ (d : Db). has_long_row d relation rule) db ∙ short))
    (leads_on (third ext relation name rule) (passes_if (λ going. not (holds (box_of ext rule) going.db relation rule)) (Veto relation name) h (λ left. ap (λ (d : Db). not (holds (box_of ext rule) d relation rule)) db ∙ ap not held))
    (leads_change (λ going. with_db (with_rule going.db relation name rule) going) h (λ left. refl))))

-- some row is too long for it
pub leads_long : (ext : Extensions) (relation name : Name) (rule : Rule) (g : Going) → has_long_row g.db relation rule ≡ true
    → Leads (build ext relation name rule) g [] (refuse (TooLong relation)) (reached ext relation name rule g)
leads_long ext relation name rule g long =
    let h = reached ext relation name rule g in
    let db = reached_db ext relation name rule g in
    leads_on (first ext relation name rule) (leads_change (reach_build ext relation rule) g (same_picks ext relation name rule g))
    (leads_refused (second ext relation name rule) (stops_if (λ going. has_long_row going.db relation rule) (TooLong relation) h (λ left. ap (λ (d : Db). has_long_row d relation rule) db ∙ long)))

-- or it doesn't hold
pub leads_vetoed : (ext : Extensions) (relation name : Name) (rule : Rule) (g : Going) → has_long_row g.db relation rule ≡ false → holds (box_of ext rule) g.db relation rule ≡ false
    → Leads (build ext relation name rule) g [] (refuse (Veto relation name)) (reached ext relation name rule g)
leads_vetoed ext relation name rule g short fails =
    let h = reached ext relation name rule g in
    let db = reached_db ext relation name rule g in
    leads_on (first ext relation name rule) (leads_change (reach_build ext relation rule) g (same_picks ext relation name rule g))
    (leads_on (second ext relation name rule) (passes_if (λ going. has_long_row going.db relation rule) (TooLong relation) h (λ left. ap (λ (d : Db). has_long_row d relation rule) db ∙ short))
    (leads_refused (third ext relation name rule) (stops_if (λ going. not (holds (box_of ext rule) going.db relation rule)) (Veto relation name) h (λ left. ap (λ (d : Db). not (holds (box_of ext rule) d relation rule)) db ∙ ap not fails))))

-- an attachment that is there is taken off
pub leads_detached : (ext : Extensions) (relation name : Name) (a : Attached) (g : Going) → rule_at g.db relation name ≡ Some a → Leads (detach ext relation name) g [] (made tt) (detach_one ext relation (Some a) g)
leads_detached ext relation name a g there = record { leads = λ left. ap (λ (o : Option Attached). made tt (detach_one ext relation o (with_picks g left))) there }

-- ---- what an engine stands for
pub record IsClosed (w v : Beside) : Type 0 where
  pub opened : v.opened.items ≡ []
  pub queue : v.queue ≡ w.queue
  pub done : v.done ≡ w.done
  pub picks : v.picks.items ≡ w.picks.items

-- it stands for another database, once nothing is open
pub Stands-other : {S : Type 0} (Has : Wanted → Slots → S → Type 0) (Spent : ℕ → S → Type 0) (m : Meanings) (root : ℕ) (g h : Going) (db : Db) (old new : S) (w v : Beside) → Stands Has Spent m root g old w → IsPaid Spent 0 h.trail.spent new → h.db ≡ db → h.queue ≡ g.queue → h.used ≡ g.used → IsClosed w v
    → KeepsDb Has m root v.gone.items h.gone.durable db new → AreMirrored db → ArePaired db → AreNamedApart db → IsComplete db g.queue → AllMayStand (box_of (extensions_of m)) db → AllFit db g.queue.actions
    → (IsNoneGone h.gone → v.gone.items ≡ []) → Stands Has Spent m root h new v
Stands-other Has Spent m root g h db old new w v stands paid is queue used closed keeps mirrored paired apart complete rules fit gone = record {
  want = keeps.want;
  slots = keeps.slots;
  kept = keeps.kept;
  has = keeps.has;
  db = is ∙ keeps.is;
  keeps = keeps.keeps;
  lasting = keeps.lasting;
  mirrored = subst AreMirrored (sym is) mirrored;
  paired = subst ArePaired (sym is) paired;
  aside = keeps.held;
  paid = paid;
  apart = subst AreNamedApart (sym is) apart;
  complete = subst (IsComplete h.db) (sym queue) (subst (λ (d : Db). IsComplete d g.queue) (sym is) complete);
  opened = subst (λ (l : List OpenRelation). AreOpened m keeps.kept l) (sym closed.opened) (All-nil (IsOpened m keeps.kept));
  waits = (λ i. record { actions = drop (closed.done i) (closed.queue i).actions; entries = (closed.queue i).entries }) ∙ stands.waits ∙ sym queue;
  picked = closed.picks ∙ stands.picked ∙ sym used;
  gone = gone;
  rules = subst (AllMayStand (box_of (extensions_of m))) (sym is) rules;
  fit = subst (λ (q : Queue). AllFit h.db q.actions) (sym queue) (subst (λ (d : Db). AllFit d g.queue.actions) (sym is) fit);
}

-- the work comes to an end without picks, and there it stands
pub record Comes {S : Type 0} (Has : Wanted → Slots → S → Type 0) (Spent : ℕ → S → Type 0) (m : Meanings) (root : ℕ) (work : Work (Unit {0})) (g : Going) (new : S) (v : Beside) : Type 0 where
  pub after : Going
  pub leads : Leads work g [] (made tt) after
  pub stands : Stands Has Spent m root after new v

-- a build that is refused so, or for want of memory, stops once all rows are built
pub stops_either : {R : Type 0} (Stopped : Refusal → Trail → R → Type 0) (new : R) (ext : Extensions) (relation name : Name) (rule : Rule) (r s : Refusal) (g : Going) → (s ≡ r) ⊎ (s ≡ NoMemory) → is_free r ≡ false
    → Leads (build ext relation name rule) g [] (refuse r) (reached ext relation name rule g) → Stopped r (reached ext relation name rule g).trail new → Stopped NoMemory (reached ext relation name rule g).trail new
    → StopsFrom Stopped (build ext relation name rule) g s new
stops_either Stopped new ext relation name rule r s g (inl is) quiet so stopped none =
    subst (λ (x : Refusal). StopsFrom Stopped (build ext relation name rule) g x new) (sym is)
    (subst (λ b. EndsBy Stopped b (build ext relation name rule) g r new) (sym quiet) (record { picks = []; after = reached ext relation name rule g; leads = so; stopped = stopped }))
stops_either Stopped new ext relation name rule r s g (inr is) quiet so stopped none =
    subst (λ (x : Refusal). StopsFrom Stopped (build ext relation name rule) g x new) (sym is) (build_stops Stopped new ext relation name rule NoMemory g refl none)
