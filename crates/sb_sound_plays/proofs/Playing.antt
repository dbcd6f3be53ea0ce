-- The states of plays.
use Rattle.std.proofs.Common.{◌≡◌, ⊎_elim, ◌≤◌, ◌<◌, ℕ, suc, Bool, true, false, List, [], ◌∷◌, Option, Some, None, refl, sym, subst, arith}
use Rattle.std.specs.Prelude.{All, nat_lt, nat_le}
use Rattle.std.proofs.lemmas.Bool.{ltb-true, ltb-false, leb-true, leb-false}
use Rattle.std.proofs.lemmas.List.Elements.{All-nil, All-cons, All-head, All-tail}
use Rattle.sb_disk.specs.Disk.{Story}
use Rattle.sb_disk.specs.Moments.{MayLeave, moment}
use Rattle.sb_relation.specs.Db.{Key}
use Rattle.sb_fold.specs.Extensions.{Extensions}
use Rattle.sb_fold.specs.declared.refusal.Refusal.TheVariants as refusal
use Rattle.sb_plain.specs.declared.command.Command.{Command}
use Rattle.sb_plain.specs.declared.reply.Reply.{Reply}
use Rattle.sb_plain.specs.declared.reply.Reply.TheVariants.{Refused}
use Rattle.sb_plain.specs.Lawful.{IsLawfulState, MayBeOpen}
use Rattle.sb_plain.specs.State.{State, Transaction, committed, with_spent}
use Rattle.sb_plain.specs.Step.{step}
use Rattle.sb_sound_said.specs.Laws.{IsSoundWithin}
use Rattle.sb_grammar.specs.Columns.{Item, Says, Bad}
use Rattle.sb_registry.specs.Boxes.{Meanings}
use Rattle.sb_lawful_plays.specs.Working.{extensions_of}
use Rattle.sb_lawful_plays.specs.Ends.{Ends, MayHaveSpent}
use Rattle.sb_lawful_plays.specs.Geometry.{Geometry}
use Rattle.sb_lawful_plays.specs.Sessions.{Lacks}
use Rattle.sb_lawful_plays.specs.World.{World}
use Rattle.sb_lawful_plays.specs.Plays.{AreBoxesOf, MovesBy, Plays, last_state}
use Rattle.sb_lawful_plays.specs.Crashes.{LeavesAlong, next_start}
use Rattle.sb_lawful_plays.specs.Opening.{opened}
use Rattle.sb_sound_said.specs.Written.{IsWritten, IsWrittenItem}
use Rattle.sb_lawful_plays.proofs.Playing.{answers-written, spent-lawful}
use Rattle.sb_sound_said.proofs.Stepping.{down-sound}
use Rattle.sb_sound_plays.specs.Laws.{IsSoundFor, HoldsSound, PlaysAreSound, PlayedAreSound, PlayedOutAreSound, RunsAreSound, MadeRunsAreSound}
use Rattle.sb_sound_plays.proofs.Databases.{stepped, commits-sound, crashes-leave, nothing-over}

-- ---- what was spent
-- it says nothing of databases
spent-sound : (ext : Extensions) (n : ℕ) (s : State) → IsSoundWithin ext s → IsSoundWithin ext (with_spent n s)
spent-sound ext n s is = record { within = spent-lawful ext n s is.within; sound = by s.transaction is.sound.open_one }
  where
    by : (o : Option Transaction) → MayBeOpen ext o → IsLawfulState ext (elim o as (λ _. State) [ None ↦ s | Some t ↦ record s { transaction = Some (record t { spent = n }) } ])
    by None open_one = is.sound
    by (Some t) open_one = record {
      commits = is.sound.commits;
      sound = is.sound.sound;
      open_one = record { lawful = open_one.lawful; sound = open_one.sound; points = open_one.points };
    }

module _ (m : Meanings) (g : Geometry) (HasFailed : Type 0) where
  left : (ext : Extensions) (s : State) (c : Command) (t : State) → MayHaveSpent ext s c t → IsSoundFor m s → IsSoundFor m t
  left ext s c t spent sound = ⊎_elim
      (λ (same : t ≡ s). subst (IsSoundFor m) (sym same) sound)
      (λ (by : (picks : List Key) × (t ≡ with_spent (step ext s c picks).spent s)).
      subst (IsSoundFor m) (sym by.1) (spent-sound (extensions_of m) (step ext s c by.0).spent s sound))
      spent

  -- ---- one command
  comes : (s : State) (c : Command) (boxes : Meanings) → AreBoxesOf m s boxes → IsWritten c → IsSoundFor m s → (reply : Reply) (t : State)
      → Ends (λ u. t ≡ u) (Lacks g) HasFailed (extensions_of boxes) s c reply → IsSoundFor m t
  comes s c boxes are is sound (Refused (refusal.Room room)) t ends = subst (IsSoundFor m) (sym ends.stands) (left (extensions_of boxes) s c ends.after ends.left sound)
  comes s c boxes are is sound (Refused refusal.NoMemory) t ends = subst (IsSoundFor m) (sym ends.stands) (left (extensions_of boxes) s c ends.after ends.left sound)
  comes s c boxes are is sound (Refused refusal.Fault) t ends = subst (IsSoundFor m) (sym ends.stands) (down-sound (extensions_of m) s sound)
  comes s c boxes are is sound (Refused (refusal.Damaged page)) t ends = absurd ends
  comes s c boxes are is sound (Refused r) t ends = subst (IsSoundFor m) (sym ends.stands) (stepped m s c boxes are (Refused r) ends.after ends.steps is sound)
  comes s c boxes are is sound reply t ends = subst (IsSoundFor m) (sym ends.stands) (stepped m s c boxes are reply ends.after ends.steps is sound)

  -- ---- one item
  moved : (s : State) (item : Item) (reply : Reply) (t : State) → IsWrittenItem item → IsSoundFor m s → MovesBy m g HasFailed s item reply t → IsSoundFor m t
  moved s (Bad column) reply t is sound by = subst (IsSoundFor m) (sym by.moves.1) sound
  moved s (Says c) reply t is sound by = comes s c by.boxes by.are is sound reply t by.moves

  -- ---- all of them
  pub plays_sound : (s : State) (items : List Item) (replies : List Reply) (states : List State) → All IsWrittenItem items → IsSoundFor m s → Plays m g HasFailed s items replies states
      → All (IsSoundFor m) states
  plays_sound s [] [] [] are sound plays = All-nil (IsSoundFor m)
  plays_sound s (item ∷ items) (reply ∷ replies) (t ∷ states) are sound plays =
      let next : IsSoundFor m t = moved s item reply t (All-head IsWrittenItem item items are) sound plays.0 in
      All-cons (IsSoundFor m) t states next (plays_sound t items replies states (All-tail IsWrittenItem item items are) next plays.1)
  plays_sound s [] [] (t ∷ states) are sound plays = absurd plays
  plays_sound s [] (reply ∷ replies) states are sound plays = absurd plays
  plays_sound s (item ∷ items) [] states are sound plays = absurd plays
  plays_sound s (item ∷ items) (reply ∷ replies) [] are sound plays = absurd plays

last_sound : (m : Meanings) (s : State) (states : List State) → IsSoundFor m s → All (IsSoundFor m) states → IsSoundFor m (last_state s states)
last_sound m s [] sound all = sound
last_sound m s (t ∷ states) sound all = last_sound m t states (All-head (IsSoundFor m) t states all) (All-tail (IsSoundFor m) t states all)

-- ---- what a crash leaves
module _ (m : Meanings) (told : Option Story) (end : ℕ) where
  abbrev LeavesFrom : ℕ → Type 0
  LeavesFrom start = (t : ℕ) (image : List ℕ) → start ≤ t → t < end → MayLeave told t image → HoldsSound m image

  leaves_sound : (s : State) (items : List Item) (states : List State) (starts : List ℕ) → All IsWrittenItem items → IsSoundFor m s → All (IsSoundFor m) states
      → LeavesAlong m told end s items states starts → LeavesFrom (next_start starts end)
  leaves_sound s [] [] [] are sound all leaves t image from below may = absurd (omega (arith, from, below))
  leaves_sound s (item ∷ items) (u ∷ states) (start ∷ starts) are sound all leaves t image from below may =
      let next : IsSoundFor m u = All-head (IsSoundFor m) u states all in
      of_test (nat_lt t (next_start starts end)) refl next
      (leaves_sound u items states starts (All-tail IsWrittenItem item items are) next (All-tail (IsSoundFor m) u states all) leaves.1)
    where
      of_test : (b : Bool) → nat_lt t (next_start starts end) ≡ b → IsSoundFor m u → LeavesFrom (next_start starts end) → HoldsSound m image
      of_test true e next rest =
          crashes-leave m s u item image (All-head IsWrittenItem item items are) sound next (leaves.0 t image from (ltb-true t (next_start starts end) e) may)
      of_test false e next rest = rest t image (ltb-false t (next_start starts end) e) below may
  leaves_sound s _ _ _ are sound all leaves t image from below may = absurd leaves

-- ---- the laws
pub plays-sound : PlaysAreSound
plays-sound m g old new s items replies states are sound plays = plays_sound m _ _ s items replies states are sound plays

pub played-sound : {B D : Type 0} (w : World B D) → PlayedAreSound w
played-sound w m g first s items replies here are sound played = plays_sound m _ _ s items replies played.states are sound played.plays

pub played-out-sound : {D : Type 0} (told : D → Option Story) (faults : D → ℕ) → PlayedOutAreSound told faults
played-out-sound {D} told faults m g first s items replies starts now are sound played =
    let all : All (IsSoundFor m) played.states = plays_sound m _ _ s items replies played.states are sound played.plays in
    record {
      sound = all;
      leaves = λ t image from within may. of_test all t image from within may (nat_le t played.until) refl;
    }
  where
    of_down : All (IsSoundFor m) played.states → (t : ℕ) (image : List ℕ) → played.until < t → t ≤ moment (told now) → MayLeave (told now) t image
        → (b : Bool) → (last_state s played.states).down ≡ b → HoldsSound m image
    of_down all t image late within may true down = let none : ⊥ = omega (arith, late, within, played.end down) in absurd none
    of_down all t image late within may false up = record {
      db = committed (last_state s played.states);
      holds = played.last up t image (omega (arith, late)) may;
      sound = (commits-sound m (last_state s played.states) (last_sound m s played.states sound all)).last;
    }

    of_test : All (IsSoundFor m) played.states → (t : ℕ) (image : List ℕ) → next_start starts (suc played.until) ≤ t → t ≤ moment (told now) → MayLeave (told now) t image
        → (b : Bool) → nat_le t played.until ≡ b → HoldsSound m image
    of_test all t image from within may true e =
        leaves_sound m (told now) (suc played.until) s items played.states starts are sound all played.leaves t image from (omega (arith, leb-true t played.until e)) may
    of_test all t image from within may false e = of_down all t image (leb-false t played.until e) within may ((last_state s played.states).down) refl

pub runs-sound : {D : Type 0} (told : D → Option Story) (faults : D → ℕ) → RunsAreSound told faults
runs-sound told faults m boxes g db ending taken first items replies starts now sound answers played =
    played-out-sound told faults m g first (opened boxes db) items replies starts now (answers-written ending taken items answers) (sound boxes) played

pub made-sound : {D : Type 0} (told : D → Option Story) (faults : D → ℕ) → MadeRunsAreSound told faults
made-sound told faults m boxes g ending taken first items replies starts now answers played =
    runs-sound told faults m boxes g [] ending taken first items replies starts now (nothing-over m) answers played
