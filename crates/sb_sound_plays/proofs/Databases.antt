-- Databases of sound states, and steps with other boxes.
use Rattle.std.proofs.Common.{inl, inr, List, [], sym, subst}
use Rattle.std.specs.Prelude.{All}
use Rattle.std.proofs.lemmas.List.Elements.{All-nil, All-cons, All-append}
use Rattle.sb_relation.specs.Db.{Db}
use Rattle.sb_plain.specs.declared.command.Command.{Command}
use Rattle.sb_plain.specs.declared.reply.Reply.{Reply}
use Rattle.sb_plain.specs.State.{State, committed, ended}
use Rattle.sb_plain.specs.Step.{Steps}
use Rattle.sb_grammar.specs.Columns.{Says, Bad}
use Rattle.sb_registry.specs.Boxes.{Meanings}
use Rattle.sb_lawful_plays.specs.Working.{extensions_of}
use Rattle.sb_lawful_plays.specs.Named.{Named}
use Rattle.sb_lawful_plays.specs.Naming.{HasSameNamed}
use Rattle.sb_lawful_plays.specs.Opening.{opened}
use Rattle.sb_lawful_plays.specs.Plays.{AreBoxesOf}
use Rattle.sb_lawful_plays.specs.Crashes.{IsMade}
use Rattle.sb_plain.specs.Lawful.{IsLawful, IsSound}
use Rattle.sb_lawful.specs.Laws.{databases}
use Rattle.sb_lawful.proofs.Steps.{of_view}
use Rattle.sb_lawful_plays.specs.Laws.{IsLawfulOver}
use Rattle.sb_lawful_plays.proofs.Databases.{alike, alike_named, commits-lawful, held_names, turned}
use Rattle.sb_sound_said.specs.Laws.{IsSoundWithin}
use Rattle.sb_sound_said.specs.Written.{IsWritten}
use Rattle.sb_sound_said.proofs.Stepping.{written-steps, nothing-sound, alike-sound}
use Rattle.sb_sound_plays.specs.Laws.{IsSoundFor, IsSoundOver, CommitsAreSound, NothingIsSound, SameBoxesAreSound, HeldBoxesAreSound, CrashesLeaveSound}

-- ---- a step with the boxes in the order of the state's codes
pub stepped : (m : Meanings) (s : State) (c : Command) (boxes : Meanings) → AreBoxesOf m s boxes → (reply : Reply) (t : State) → Steps (extensions_of boxes) s c reply t → IsWritten c → IsSoundFor m s
    → IsSoundFor m t
stepped m s c boxes are reply t steps is sound =
    alike-sound (extensions_of boxes) (extensions_of m) t (alike boxes m (databases t) (turned m boxes are.same))
    (subst (IsSoundWithin (extensions_of boxes)) steps.leads
    (written-steps (extensions_of boxes) s c steps.picks is (alike-sound (extensions_of m) (extensions_of boxes) s (alike m boxes (databases s) are.same) sound)))

-- ---- databases
over : (m : Meanings) (db : Db) → IsLawfulOver m db → IsLawful (extensions_of m) db → IsSound (extensions_of m) db → IsSoundOver m db
over m db within lawful sound boxes = record {
  within = within boxes;
  sound = record {
    commits = All-cons (IsLawful (extensions_of m)) db [] lawful (All-nil (IsLawful (extensions_of m)));
    sound = All-cons (IsSound (extensions_of m)) db [] sound (All-nil (IsSound (extensions_of m)));
    open_one = tt;
  };
}

pub nothing-over : NothingIsSound
nothing-over m boxes = nothing-sound (extensions_of m) _ _

pub same-sound : SameBoxesAreSound
same-sound m n db same sound boxes = alike-sound (extensions_of m) (extensions_of n) (opened boxes db) (alike_named m n db same) (sound boxes)

pub held-sound : HeldBoxesAreSound
held-sound m n image db held same sound = same-sound m n db (subst (λ (named : List Named). HasSameNamed named m n) (sym (held_names m image db held)) same) sound

pub commits-sound : CommitsAreSound
commits-sound m s sound =
    let within = commits-lawful m s sound.within in
    let each : All (IsSoundOver m) s.commits = λ k d below. over m _ (within.each k d below) (sound.sound.commits k d below) (sound.sound.sound k d below) in
    record { each = each; last = of_view (IsSoundOver m) (nothing-over m) (ended s) (All-append (IsSoundOver m) s.commits [] each (All-nil (IsSoundOver m))) }

-- ---- what a crash leaves
pub crashes-leave : CrashesLeaveSound
crashes-leave m s t (Bad column) image is sound next left = record { db = committed s; holds = left; sound = (commits-sound m s sound).last }
crashes-leave m s t (Says c) image is sound next (inl holds) = record { db = committed s; holds = holds; sound = (commits-sound m s sound).last }
crashes-leave m s t (Says c) image is sound next (inr made) = record { db = made.db; holds = made.holds; sound = of_made made.made }
  where
    of_made : {db : Db} → IsMade m s c t db → IsSoundOver m db
    of_made (inl same) = subst (IsSoundOver m) (sym same) (commits-sound m t next).last
    of_made (inr down) =
        let may = down.1 in
        subst (IsSoundOver m) (sym may.is) (commits-sound m may.after (stepped m s c may.boxes may.are may.reply may.after may.steps is sound)).last
