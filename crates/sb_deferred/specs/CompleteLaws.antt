-- Laws of what waits: it tells which deferred rules may fail, after whatever happens to a database.
use Rattle.std.specs.Prelude.{◌≡◌, ℕ, Bool, true, false, T, List, [], All, Option, Some, None}
use Rattle.std.specs.Str.{bytes_eq}
use Rattle.std.specs.FinMap.Entries.{is_sorted}
use Rattle.sb_value.specs.Order.{bytes_cmp}
use Rattle.sb_rule.specs.declared.action.Action.{Action}
use Rattle.sb_rule.specs.declared.change.Change.{Change}
use Rattle.sb_rule.specs.declared.rule.Side.TheVariants.{Main}
use Rattle.sb_rule.specs.declared.rule.Rule.{Rule}
use Rattle.sb_rule.specs.declared.rule.Rule.TheVariants.{Refers}
use Rattle.sb_relation.specs.Build.{mirror_name, mirror_of, with_rule}
use Rattle.sb_relation.specs.Changes.{changed}
use Rattle.sb_relation.specs.Db.{Name, Attached, Relation, Db, relation_at, with_relation}
use Rattle.sb_relation.specs.Foreign.{AttachRules}
use Rattle.sb_relation.specs.Rules.{holds, entry_fails}
use Rattle.sb_fold.specs.Building.{without_rule, without_relation}
use Rattle.sb_fold.specs.Extensions.{Extensions, box_of}
use Rattle.sb_fold.specs.Finish.{is_tested_late, first_failing}
use Rattle.sb_fold.specs.Fold.{attachments_at, queue_late}
use Rattle.sb_fold.specs.Outcome.{Queue, Going}
use Rattle.sb_deferred.specs.Complete.{IsWaiting, IsComplete, AreMirrored, IsChangeOf}
use Rattle.sb_deferred.specs.Waiting.{nothing, IsFront}

-- ---- at first
-- Where every deferred rule holds, nothing has to wait.
abbrev pub CompleteAtFirst : Type 0
CompleteAtFirst = (ext : Extensions) (db : Db) → first_failing ext db db ≡ None → IsComplete db nothing

-- ---- after a change
-- A change of a relation whose rows stand in order, with what it puts off, leaves all that is to wait.
abbrev pub CompleteAfterAChange : Type 0
CompleteAfterAChange =
    (before : Db) (name : Name) (r : Relation) (c : Change) (g : Going) → relation_at before name ≡ Some r → T (is_sorted bytes_cmp r.rows)
    → IsChangeOf r.rows c → AreMirrored before → g.db ≡ changed before name c → IsComplete before g.queue
    → IsComplete g.db (queue_late name c g).queue

-- Mirrors stand in pairs after it, too.
abbrev pub MirroredAfterAChange : Type 0
MirroredAfterAChange = (before : Db) (name : Name) (c : Change) → AreMirrored before → AreMirrored (changed before name c)

-- ---- at the commit
-- no entry fails that waits for an attachment with this rule
abbrev pub NoneFails : Db → Queue → Name → Name → Rule → Type 0
NoneFails db q relation name rule = (entry : List ℕ) → IsWaiting q relation name entry → entry_fails db relation rule entry ≡ false

-- nor for its mirror, where it has one
abbrev pub NoneFailsOf : Db → Queue → Name → Option (Name × Rule) → Type 0
NoneFailsOf db q label None = Unit {0}
NoneFailsOf db q label (Some (other, rule)) = NoneFails db q other label rule

abbrev pub HoldsWhereNoneFails : Extensions → Db → Queue → Name → Attached → Type 0
HoldsWhereNoneFails ext db q relation a =
    is_tested_late a.rule ≡ true → NoneFails db q relation a.name a.rule → NoneFailsOf db q (mirror_name relation a.name) (mirror_of relation a.rule)
    → holds (box_of ext a.rule) db relation a.rule ≡ true

-- A deferred rule holds where no entry fails that waits for it or for its mirror.
abbrev pub NothingFails : Type 0
NothingFails =
    (ext : Extensions) (db : Db) (q : Queue) → IsComplete db q → (relation : Name)
    → All (HoldsWhereNoneFails ext db q relation) (attachments_at db relation)

-- no entry that waits fails, each tested for the attachments of its name
abbrev pub NoEntryFails : Db → Queue → Type 0
NoEntryFails db q = All (λ e. All (λ a. a.name ≡ e.name → entry_fails db e.relation a.rule e.entry ≡ false) (attachments_at db e.relation)) q.entries

-- Where no entry that waits fails, every deferred rule holds.
abbrev pub NothingFailsAtAll : Type 0
NothingFailsAtAll =
    (ext : Extensions) (db : Db) (q : Queue) → T (is_sorted bytes_cmp db) → AreMirrored db → IsComplete db q → NoEntryFails db q
    → first_failing ext db db ≡ None

-- Where an entry fails, the rule of its attachment doesn't hold.
abbrev pub AnEntryThatFails : Type 0
AnEntryThatFails =
    (box : Option AttachRules) (db : Db) (relation : Name) (rule : Rule) (entry : List ℕ) → entry_fails db relation rule entry ≡ true
    → holds box db relation rule ≡ false

-- A mirror holds where its main instance does.
abbrev pub MirrorsHoldAlike : Type 0
MirrorsHoldAlike =
    (box : Option AttachRules) (db : Db) (relation other : Name) (rule mirror : Rule) → mirror_of relation rule ≡ Some (other, mirror)
    → holds box db other mirror ≡ holds box db relation rule

-- ---- the queue alone
-- More that waits behind tells no less.
abbrev pub CompleteWithMore : Type 0
CompleteWithMore = (db : Db) (old new : Queue) → IsFront old new → IsComplete db old → IsComplete db new

-- The actions play no part.
abbrev pub CompleteWithOtherActions : Type 0
CompleteWithOtherActions = (db : Db) (q : Queue) (actions : List Action) → IsComplete db q → IsComplete db (record q { actions = actions })

-- ---- relations and rules that come
-- a relation without rows and attachments, under a new name
abbrev pub CompleteWithARelation : Type 0
CompleteWithARelation =
    (db : Db) (q : Queue) (name : Name) (r : Relation) → relation_at db name ≡ None → r.rows ≡ [] → r.attachments ≡ [] → IsComplete db q
    → IsComplete (with_relation db name r) q

-- a rule that holds
abbrev pub CompleteWithARule : Type 0
CompleteWithARule =
    (box : Option AttachRules) (db : Db) (q : Queue) (relation name : Name) (rule : Rule) → holds box db relation rule ≡ true → IsComplete db q
    → IsComplete (with_rule db relation name rule) q

-- ---- and that go
abbrev pub CompleteWithoutARule : Type 0
CompleteWithoutARule = (db : Db) (q : Queue) (relation : Name) (a : Attached) → IsComplete db q → IsComplete (without_rule db relation a) q

-- the main side of a refers whose parent is the named relation
abbrev pub is_child_of : Name → Rule → Bool
is_child_of parent (Refers Main columns other others mode deferred) = bytes_eq other parent
is_child_of parent _ = false

-- no other relation refers to this one
abbrev pub IsNoParent : Db → Name → Type 0
IsNoParent db name = (other : Name) → (other ≡ name → ⊥) → All (λ a. is_child_of name a.rule ≡ false) (attachments_at db other)

abbrev pub CompleteWithoutARelation : Type 0
CompleteWithoutARelation = (db : Db) (q : Queue) (name : Name) → IsNoParent db name → IsComplete db q → IsComplete (without_relation db name) q
