-- What an attachment says of a change that is asked, by what its call says over the changed database.
use Rattle.std.proofs.Common.{◌≡◌, ◌⊎◌, ⊎_elim, ℕ, ◌+◌, List, [], Some, false, sym, ap, subst, ◌∙◌}
use Rattle.std.specs.List.{slice_get}
use Rattle.std.proofs.lemmas.Option.{same_Some}
use Rattle.sb_rule.specs.declared.action.Action.{Action}
use Rattle.sb_rule.specs.declared.change.Change.{Change}
use Rattle.sb_rule.specs.declared.rule.Rule.{Rule}
use Rattle.sb_relation.specs.Changes.{changed}
use Rattle.sb_relation.specs.Content.{Content}
use Rattle.sb_relation.specs.Db
use Rattle.sb_relation.specs.Db.{Name}
use Rattle.sb_relation.specs.Rules.{admits}
use Rattle.sb_ctx.specs.Pages.{Pages}
use Rattle.sb_ctx.specs.declared.instance.Instance.{Instance}
use Rattle.sb_ctx.specs.declared.calls.AttachCall.TheVariants as call
use Rattle.sb_ctx.specs.declared.moves.Move.{Move}
use Rattle.sb_ctx.specs.declared.moves.Move.TheVariants.{Done, Acts, Need, Fresh, After, Find, Veto, NoRecord, Duplicate, Range, Key as Keyed, Row as Rowed, Entry, Sums, Hits, End, Broken, NoMemory}
use Rattle.sb_ctx.specs.View.{View, FoundIn, edits_of}
use Rattle.sb_ctx.specs.Attachment.{Attachment, StandsOn}
use Rattle.sb_ctx.specs.AttachAnswers.{Admitted as AdmittedBy, Answers, BeforeChange, Changed, Costs, Holds, content_after, content_over}
use Rattle.sb_registry.specs.Boxes.{Meanings, attachment_of}
use Rattle.sb_drive.specs.Slots.{Slots, owned}
use Rattle.sb_drive.specs.Spaces.{Leaves, LeadsWithin, Wanted}
use Rattle.sb_drive.proofs.SpacesLemmas.{LeadsWithin-more, LeadsWithin-none}
use Rattle.sb_opened.specs.Asked.{Asks, changed_kept}
use Rattle.sb_opened.specs.AskedLaws.{CanAsk, rule_of}
use Rattle.sb_opened.specs.Standing.{IsKept}
use Rattle.sb_opened.specs.Tables.{KeepsOthers, db_of}
use Rattle.sb_opened.proofs.AskedLaws.{Asks-more, CanAsk-next}
use Rattle.sb_opened.proofs.KeptChangedLemmas.{db_of-changed, rising-before}
use Rattle.sb_opened.proofs.KeptLemmas.{kept_at-name}
use Rattle.sb_opened.specs.Opened.{IsDurable}
use Rattle.sb_asking.specs.Calls.{CostsOver, IsAsked, IsFinal, LacksOver}
use Rattle.sb_asking.specs.declared.verdicts.Verdict.{Verdict}
use Rattle.sb_asking.specs.declared.verdicts.Verdict.TheVariants.{Vetoed, Admitted}
use Rattle.sb_asking.specs.Verdicts.{Admits, CostsAsked, IfAdmitted, IsNext, IsVerdict, Judges, LacksAsked, LeavesAsked, Says, Situation, asked_cost, verdict_in}

-- ---- the ends of a call of a change
pub IsVerdict-final : (c : Change) (move : Move) → IsFinal (call.Changed c) move → IsVerdict move
IsVerdict-final c Done is = tt
IsVerdict-final c (Acts now late checks) is = tt
IsVerdict-final c Veto is = tt
IsVerdict-final c (Need n) is = absurd is.last
IsVerdict-final c Fresh is = absurd is.last
IsVerdict-final c (After low) is = absurd is.last
IsVerdict-final c (Find relation columns values) is = absurd is.last
IsVerdict-final c NoRecord is = absurd is.may
IsVerdict-final c Duplicate is = absurd is.may
IsVerdict-final c Range is = absurd is.may
IsVerdict-final c (Keyed key) is = absurd is.may
IsVerdict-final c (Rowed key row) is = absurd is.may
IsVerdict-final c (Entry first second) is = absurd is.may
IsVerdict-final c (Sums sums) is = absurd is.may
IsVerdict-final c (Hits keys) is = absurd is.may
IsVerdict-final c End is = absurd is.may
IsVerdict-final c (Broken page) is = absurd is.last
IsVerdict-final c NoMemory is = absurd is.last

-- what it says then, over a database that the rule stands on
Changed-answers : (box : Attachment) (inst : Instance) (rule : Rule) (db : Db.Db) (buckets : ℕ) (c : Change) (view : View) (P after : Pages) (move : Move) → StandsOn box inst rule db → BeforeChange box inst rule db buckets c view P →
    IsVerdict move → Answers box inst (call.Changed c) view P after move → Changed box inst rule db buckets c after move
Changed-answers box inst rule db buckets c view P after Done stands before is answers = answers rule db stands buckets before
Changed-answers box inst rule db buckets c view P after (Acts now late checks) stands before is answers = answers rule db stands buckets before
Changed-answers box inst rule db buckets c view P after Veto stands before is answers = answers rule db stands buckets before
Changed-answers box inst rule db buckets c view P after (Need n) stands before is answers = absurd is
Changed-answers box inst rule db buckets c view P after Fresh stands before is answers = absurd is
Changed-answers box inst rule db buckets c view P after (After low) stands before is answers = absurd is
Changed-answers box inst rule db buckets c view P after (Find relation columns values) stands before is answers = absurd is
Changed-answers box inst rule db buckets c view P after NoRecord stands before is answers = absurd is
Changed-answers box inst rule db buckets c view P after Duplicate stands before is answers = absurd is
Changed-answers box inst rule db buckets c view P after Range stands before is answers = absurd is
Changed-answers box inst rule db buckets c view P after (Keyed key) stands before is answers = absurd is
Changed-answers box inst rule db buckets c view P after (Rowed key row) stands before is answers = absurd is
Changed-answers box inst rule db buckets c view P after (Entry first second) stands before is answers = absurd is
Changed-answers box inst rule db buckets c view P after (Sums sums) stands before is answers = absurd is
Changed-answers box inst rule db buckets c view P after (Hits keys) stands before is answers = absurd is
Changed-answers box inst rule db buckets c view P after End stands before is answers = absurd is
Changed-answers box inst rule db buckets c view P after (Broken page) stands before is answers = absurd is
Changed-answers box inst rule db buckets c view P after NoMemory stands before is answers = absurd is

-- ---- the one that is asked
-- it can be asked, and its live box is this one
record CanBeAsked (m : Meanings) (s : Slots) (x : Situation) (c : Change) (box : Attachment) : Type 0 where
  can : CanAsk m IsDurable s (db_of x.before) x.name c x.kept x.described x.attached
  same : can.kept.box ≡ box

CanBeAsked-next : (m : Meanings) (root : ℕ) (s : Slots) (x : Situation) (c : Change) (inst : Instance) (box : Attachment) → Asks m IsDurable root s x.gone x.before x.name c x.index → IsNext x inst →
    attachment_of x.described.code m.attachments ≡ Some box → CanBeAsked m s x c box
CanBeAsked-next m root s x c inst box asks next live = record { can = can; same = same_Some can.kept.box box (sym can.kept.live ∙ live) }
  where
    found : (a : Db.Attached) × (slice_get x.kept.relation.attachments x.index ≡ Some a) × CanAsk m IsDurable s (db_of x.before) x.name c x.kept x.described a
    found = CanAsk-next m IsDurable root s x.gone x.before x.name c x.index x.kept x.described asks next.there next.described

    can : CanAsk m IsDurable s (db_of x.before) x.name c x.kept x.described x.attached
    can = subst (λ (a : Db.Attached). CanAsk m IsDurable s (db_of x.before) x.name c x.kept x.described a) (same_Some found.0 x.attached (sym found.1 ∙ next.attached)) found.2

-- the box of the instance
live_of : (m : Meanings) (x : Situation) (inst : Instance) (box : Attachment) → IsNext x inst → attachment_of inst.code m.attachments ≡ Some box → attachment_of x.described.code m.attachments ≡ Some box
live_of m x inst box next live = ap (λ (i : Instance). attachment_of i.code m.attachments) (sym next.is) ∙ live

-- its pages hold its content
pub Holds-next : (m : Meanings) (root : ℕ) (s : Slots) (x : Situation) (c : Change) (inst : Instance) (box : Attachment) → Asks m IsDurable root s x.gone x.before x.name c x.index → IsNext x inst →
    attachment_of inst.code m.attachments ≡ Some box → (content : Content) × Holds box inst (owned s inst.owner) content
Holds-next m root s x c inst box asks next live =
    let own = CanBeAsked-next m root s x c inst box asks next (live_of m x inst box next live) in
    let kept = own.can.kept in
    subst (λ (i : Instance). (content : Content) × Holds box i (owned s i.owner) content) (sym next.is)
    (subst (λ (b : Attachment). (content : Content) × Holds b (rule_of IsDurable x.kept x.described) (owned s x.described.owner) content) own.same
    (content_over kept.box (rule_of IsDurable x.kept x.described) x.attached.rule (db_of x.before) x.attached.buckets, kept.holds))

-- no page was left for it
pub lacks_asked : (m : Meanings) (root : ℕ) (s : Slots) (x : Situation) (c : Change) (inst : Instance) (box : Attachment) (total : ℕ) → Asks m IsDurable root s x.gone x.before x.name c x.index → IsNext x inst →
    attachment_of inst.code m.attachments ≡ Some box → LacksOver box inst (call.Changed c) (db_of (changed_kept x.name c x.before)) s total → LacksAsked m s x c total
lacks_asked m root s x c inst box total asks next live lacks = record {
  box = own.can.kept.box;
  live = own.can.kept.live;
  short = record { ctx = here.ctx; used = here.used; within = costs.room };
}
  where
    own : CanBeAsked m s x c box
    own = CanBeAsked-next m root s x c inst box asks next (live_of m x inst box next live)

    here : LacksOver own.can.kept.box (rule_of IsDurable x.kept x.described) (call.Changed c) (db_of (changed_kept x.name c x.before)) s total
    here = subst (λ (b : Attachment). LacksOver b (rule_of IsDurable x.kept x.described) (call.Changed c) (db_of (changed_kept x.name c x.before)) s total) (sym own.same)
        (subst (λ (i : Instance). LacksOver box i (call.Changed c) (db_of (changed_kept x.name c x.before)) s total) next.is lacks)

    found : FoundIn here.view (changed (db_of x.before) x.name c)
    found = subst (FoundIn here.view) (db_of-changed x.name c x.before (rising-before x.name c x.before asks.tables.rising)) here.found

    costs : Costs own.can.kept.box (rule_of IsDurable x.kept x.described) (call.Changed c) (owned s x.described.owner)
        (content_over own.can.kept.box (rule_of IsDurable x.kept x.described) x.attached.rule (db_of x.before) x.attached.buckets)
        (content_after own.can.kept.box (rule_of IsDurable x.kept x.described) x.attached.rule (db_of x.before) x.attached.buckets c) here.ctx Fresh
    costs = here.spends x.attached.rule (db_of x.before) own.can.kept.stands x.attached.buckets (own.can.of here.view found)

-- nor was more changed than its box may spend
pub costs_asked : {S : Type 0} (Leads : ℕ → S → S → Type 0) (m : Meanings) (root : ℕ) (s : Slots) (x : Situation) (c : Change) (inst : Instance) (box : Attachment) (old new : S)
    → Asks m IsDurable root s x.gone x.before x.name c x.index → IsNext x inst → attachment_of inst.code m.attachments ≡ Some box
    → Leads 0 old new ⊎ CostsOver Leads box inst (call.Changed c) (db_of (changed_kept x.name c x.before)) s old new → CostsAsked Leads m x c old new
costs_asked {S} Leads m root s x c inst box old new asks next live costs = record { box = own.can.kept.box; live = own.can.kept.live; within = ⊎_elim none some costs }
  where
    own : CanBeAsked m s x c box
    own = CanBeAsked-next m root s x c inst box asks next (live_of m x inst box next live)

    Over : Attachment → Instance → Type 0
    Over b i = CostsOver Leads b i (call.Changed c) (db_of (changed_kept x.name c x.before)) s old new

    none : Leads 0 old new → LeadsWithin Leads (asked_cost x own.can.kept.box c) old new
    none leads = LeadsWithin-none Leads (asked_cost x own.can.kept.box c) old new leads

    some : Over box inst → LeadsWithin Leads (asked_cost x own.can.kept.box c) old new
    some over =
        let here : Over own.can.kept.box (rule_of IsDurable x.kept x.described) =
        subst (λ (b : Attachment). Over b (rule_of IsDurable x.kept x.described)) (sym own.same) (subst (λ (i : Instance). Over box i) next.is over) in
        let found : FoundIn here.view (changed (db_of x.before) x.name c) =
        subst (FoundIn here.view) (db_of-changed x.name c x.before (rising-before x.name c x.before asks.tables.rising)) here.found in
        LeadsWithin-more Leads (edits_of here.ctx) (asked_cost x own.can.kept.box c) old new
        (here.spends x.attached.rule (db_of x.before) own.can.kept.stands x.attached.buckets (own.can.of here.view found)).edits here.leads

-- ---- what it says, and what it leaves
-- of pages that its call left
record Judged (m : Meanings) (root : ℕ) (s t : Slots) (x : Situation) (c : Change) (box : Attachment) (move : Move) : Type 0 where
  judges : Judges (Some box.rules) (changed (db_of x.before) x.name c) x.name x.attached.rule c (verdict_in move)
  asks : IfAdmitted (verdict_in move) (Asks m IsDurable root t x.gone x.before x.name c (x.index + 1))

Judged-changed : (m : Meanings) (root : ℕ) (s t : Slots) (x : Situation) (c : Change) (inst : Instance) (move : Move) → Asks m IsDurable root s x.gone x.before x.name c x.index → IsNext x inst →
    (kept : IsKept m IsDurable s (db_of x.before) x.kept x.described x.attached) → KeepsOthers x.described.owner s t → IsVerdict move →
    Changed kept.box (rule_of IsDurable x.kept x.described) x.attached.rule (db_of x.before) x.attached.buckets c (owned t x.described.owner) move → Judged m root s t x c kept.box move
Judged-changed m root s t x c inst move asks next kept others is says = by move is says
  where
    db : Db.Db
    db = db_of x.before

    rule : Rule
    rule = x.attached.rule

    own : Instance
    own = rule_of IsDurable x.kept x.described

    on : x.kept.name ≡ x.name
    on = kept_at-name x.before x.name x.kept next.there

    after : Pages
    after = owned t x.described.owner

    admitted : (now late : List Action) (checks : List (List ℕ)) → AdmittedBy kept.box own rule db x.attached.buckets c after now late checks → Admits (Some kept.box.rules) (changed db x.name c) x.name rule c now late checks
    admitted now late checks so = subst (λ (n : Name). Admits (Some kept.box.rules) (changed db n c) n rule c now late checks) on
        (record { admitted = so.admitted; now_are = so.now_are; late_are = so.late_are; checks_are = so.checks_are })

    more : (now late : List Action) (checks : List (List ℕ)) → AdmittedBy kept.box own rule db x.attached.buckets c after now late checks → Asks m IsDurable root t x.gone x.before x.name c (x.index + 1)
    more now late checks so = Asks-more m IsDurable root s t x.gone x.before x.name c x.index x.kept x.described x.attached asks next.there next.described next.attached (record { kept = kept; others = others; holds = so.holds })

    by : (move : Move) → IsVerdict move → Changed kept.box own rule db x.attached.buckets c after move → Judged m root s t x c kept.box move
    by Done is says = record { judges = admitted [] [] [] says; asks = more [] [] [] says }
    by (Acts now late checks) is says = record { judges = admitted now late checks says; asks = more now late checks says }
    by Veto is says = record { judges = subst (λ (n : Name). admits (Some kept.box.rules) (changed db n c) n rule c ≡ false) on says.0; asks = tt }
    by (Need n) is says = absurd is
    by Fresh is says = absurd is
    by (After low) is says = absurd is
    by (Find relation columns values) is says = absurd is
    by NoRecord is says = absurd is
    by Duplicate is says = absurd is
    by Range is says = absurd is
    by (Keyed key) is says = absurd is
    by (Rowed key row) is says = absurd is
    by (Entry first second) is says = absurd is
    by (Sums sums) is says = absurd is
    by (Hits keys) is says = absurd is
    by End is says = absurd is
    by (Broken page) is says = absurd is
    by NoMemory is says = absurd is

-- what the call says of these pages
Judged-asked : (m : Meanings) (root : ℕ) (s t : Slots) (x : Situation) (c : Change) (inst : Instance) (box : Attachment) (move : Move) → Asks m IsDurable root s x.gone x.before x.name c x.index → IsNext x inst →
    (own : CanBeAsked m s x c box) → KeepsOthers x.described.owner s t → IsVerdict move →
    IsAsked box (rule_of IsDurable x.kept x.described) (call.Changed c) (db_of (changed_kept x.name c x.before)) (owned s x.described.owner) (owned t x.described.owner) move → Judged m root s t x c own.can.kept.box move
Judged-asked m root s t x c inst box move asks next own others is asked =
    let kept = own.can.kept in
    let db = db_of x.before in
    let found = subst (FoundIn asked.view) (db_of-changed x.name c x.before (rising-before x.name c x.before asks.tables.rising)) asked.found in
    let answers = subst (λ (b : Attachment). Answers b (rule_of IsDurable x.kept x.described) (call.Changed c) asked.view (owned s x.described.owner) (owned t x.described.owner) move) (sym own.same) asked.answers in
    Judged-changed m root s t x c inst move asks next kept others is
    (Changed-answers kept.box (rule_of IsDurable x.kept x.described) x.attached.rule db x.attached.buckets c asked.view (owned s x.described.owner) (owned t x.described.owner) move kept.stands (own.can.of asked.view found) is answers)

pub Says-asked : {S : Type 0} (Has : Wanted → Slots → S → Type 0) (m : Meanings) (root : ℕ) (want : Wanted) (s : Slots) (x : Situation) (c : Change) (new : S) (inst : Instance) (box : Attachment) (move : Move) →
    Asks m IsDurable root s x.gone x.before x.name c x.index → IsNext x inst → attachment_of inst.code m.attachments ≡ Some box → IsVerdict move →
    Leaves Has inst.owner want s new (λ after. IsAsked box inst (call.Changed c) (db_of (changed_kept x.name c x.before)) (owned s inst.owner) after move) → Says Has m root want s x c new (verdict_in move)
Says-asked {S} Has m root want s x c new inst box move asks next live is left = record {
  box = own.can.kept.box;
  live = own.can.kept.live;
  judges = judged.judges;
  leaves = leaves (verdict_in move) judged.asks;
}
  where
    own : CanBeAsked m s x c box
    own = CanBeAsked-next m root s x c inst box asks next (live_of m x inst box next live)

    here : Leaves Has x.described.owner want s new (λ after. IsAsked box (rule_of IsDurable x.kept x.described) (call.Changed c) (db_of (changed_kept x.name c x.before)) (owned s x.described.owner) after move)
    here = subst (λ (i : Instance). Leaves Has i.owner want s new (λ after. IsAsked box i (call.Changed c) (db_of (changed_kept x.name c x.before)) (owned s i.owner) after move)) next.is left

    judged : Judged m root s here.slots x c own.can.kept.box move
    judged = Judged-asked m root s here.slots x c inst box move asks next own here.others is here.own

    leaves : (v : Verdict) → IfAdmitted v (Asks m IsDurable root here.slots x.gone x.before x.name c (x.index + 1)) → IfAdmitted v (LeavesAsked Has m root want s x c new)
    leaves Vetoed asked = tt
    leaves (Admitted now late checks) asked = record { slots = here.slots; has = here.has; others = here.others; asks = asked }
