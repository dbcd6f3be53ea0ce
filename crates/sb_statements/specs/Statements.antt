-- What a command's work on an engine comes to.
use Rattle.std.specs.Prelude.{ℕ, IfSome}
use Rattle.sb_fold.specs.declared.refusal.Refusal.{Refusal}
use Rattle.sb_fold.specs.Outcome.{Going}
use Rattle.sb_fold.specs.Wishes.{Put, Remove, Replace}
use Rattle.sb_plain.specs.declared.command.Command.{Command}
use Rattle.sb_plain.specs.declared.command.Command.TheVariants as command
use Rattle.sb_plain.specs.Step.{Answer, Plain, Keyed, PickedKey, Counts, work_of}
use Rattle.sb_cascade.specs.Fitting.{IsFitting, IsFittingWish}
use Rattle.sb_cascade.specs.Runs.{MadeFrom, StopsFrom}
use Rattle.sb_registry.specs.Boxes.{Meanings}
use Rattle.sb_drive.specs.declared.space.SpaceFault.{SpaceFault}
use Rattle.sb_drive.specs.Slots.{Slots}
use Rattle.sb_drive.specs.Spaces.{Wanted}
use Rattle.sb_building.specs.Running.{Running}
use Rattle.sb_building.specs.Working.{IsStoppedFor, StandsFor, extensions_in}
use Rattle.sb_statements.specs.declared.answers.Answer as code
use Rattle.sb_statements.specs.declared.answers.Answer.TheVariants as code_answer
use Rattle.sb_building.specs.Creation.{MayCreate}
use Rattle.sb_building.specs.Removal.{MayDrop}
use Rattle.sb_building.specs.Attaching.{MayAttach}
use Rattle.sb_building.specs.Detaching.{MayDetach}

-- an answer as the definitions have it
abbrev pub answer_of : code.Answer → Answer
answer_of code_answer.Plain = Plain
answer_of (code_answer.Keyed key) = Keyed key
answer_of (code_answer.PickedKey key) = PickedKey key
answer_of (code_answer.Counts n) = Counts n

-- A command may be carried out where work has come so far: what it names is there, and what it brings fits.
abbrev pub MayWork : Meanings → Going → Command → Type 0
MayWork m g (command.Create relation method schema key) = MayCreate m g.db relation method schema key
MayWork m g (command.Drop relation) = MayDrop g.db g.queue relation
MayWork m g (command.Attach relation name rule) = MayAttach m g.db relation name rule
MayWork m g (command.Detach relation name) = MayDetach g.db relation name
MayWork m g (command.Insert relation values) = IsFittingWish g.db relation (Put values)
MayWork m g (command.Delete relation at) = IsFittingWish g.db relation (Remove at)
MayWork m g (command.Update relation at values) = IsFittingWish g.db relation (Replace at values)
MayWork m g (command.Act action) = IsFitting g.db action
MayWork m g c = Unit {0}

-- The command's work is done: with some picks it gives this answer, and the engine stands for what it leaves.
abbrev pub IsDone : {B S : Type 0} → (Wanted → Slots → S → Type 0) → (ℕ → S → Type 0) → (B → Meanings) → Command → Running B S → Answer → Running B S → Type 0
IsDone Has Spent meanings c old answer new =
    (g : Going) → StandsFor Has Spent meanings g old → MayWork (meanings old.boxes.now) g c
    → IfSome (work_of (extensions_in meanings old) c) (λ work. MadeFrom (StandsFor Has Spent meanings) work g answer new)

-- It is refused so: as the definition says, or by the space on its way, which has the cause; where that is want of a page, the work had come so far
-- that pages may be wanting.
abbrev pub IsStopped : {B S : Type 0} → (Wanted → Slots → S → Type 0) → (ℕ → S → Type 0) → (ℕ → S → S → Type 0) → (SpaceFault → S → S → Type 0) → (S → ℕ) → (B → Meanings)
    → Command → Running B S → Refusal → Running B S → Type 0
IsStopped Has Spent Leads Fails table meanings c old r new =
    (g : Going) → StandsFor Has Spent meanings g old → MayWork (meanings old.boxes.now) g c
    → IfSome (work_of (extensions_in meanings old) c) (λ work. StopsFrom (IsStoppedFor Has Spent Leads Fails table meanings) work g r new)
