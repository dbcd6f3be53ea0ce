-- The states of plays.
use Rattle.std.proofs.Common.{◌≡◌, ⊎_elim, ◌≤◌, ◌<◌, ℕ, suc, Bool, true, false, List, [], ◌∷◌, ◌++◌, Option, Some, None, refl, sym, subst, arith}
use Rattle.std.specs.Prelude.{All, nat_lt, nat_le}
use Rattle.std.proofs.lemmas.Bool.{ltb-true, ltb-false, leb-true, leb-false}
use Rattle.std.proofs.lemmas.List.Elements.{All-nil, All-cons, All-head, All-tail}
use Rattle.sb_disk.specs.Disk.{Story}
use Rattle.sb_disk.specs.Moments.{MayLeave, moment}
use Rattle.sb_relation.specs.Db.{Key}
use Rattle.sb_fold.specs.Extensions.{Extensions}
use Rattle.sb_fold.specs.declared.refusal.Refusal.TheVariants as refusal
use Rattle.sb_plain.specs.declared.command.Command.{Command}
use Rattle.sb_plain.specs.declared.reply.Reply.{Reply}
use Rattle.sb_plain.specs.declared.reply.Reply.TheVariants.{Refused}
use Rattle.sb_plain.specs.State.{State, Transaction, committed, with_spent}
use Rattle.sb_plain.specs.Step.{step}
use Rattle.sb_lawful.specs.Laws.{HasDotlessNames, open_ones}
use Rattle.sb_lawful_rows.specs.States.{MayBeOpen}
use Rattle.sb_said.specs.Laws.{HasLimits, IsLawfulWithin}
use Rattle.sb_grammar.specs.Columns.{Item, Says, Bad}
use Rattle.sb_lines.specs.Lines.{asking, whole_lines, lines_of}
use Rattle.sb_registry.specs.Boxes.{Meanings}
use Rattle.sb_kernel.specs.Working.{extensions_of}
use Rattle.sb_kernel.specs.Ends.{Ends, MayHaveSpent}
use Rattle.sb_kernel.specs.Geometry.{Geometry}
use Rattle.sb_kernel.specs.Sessions.{Lacks}
use Rattle.sb_kernel.specs.declared.ending.Ending.TheVariants.{InputEnded, SourceFailed, MostTaken, Stopped}
use Rattle.sb_kernel.specs.World.{World}
use Rattle.sb_kernel.specs.Plays.{AreBoxesOf, MovesBy, Plays, last_state}
use Rattle.sb_kernel.specs.Crashes.{LeavesAlong, next_start}
use Rattle.sb_kernel.specs.Opening.{opened}
use Rattle.sb_said.specs.Written.{IsWritten, IsWrittenItem}
use Rattle.sb_said.proofs.Spelled.{items-written, first-written}
use Rattle.sb_said.proofs.Stepping.{down-lawful}
use Rattle.sb_lawful_plays.specs.Laws.{AnswersAreWritten, IsLawfulFor, HoldsLawful, PlaysAreLawful, PlayedAreLawful, PlayedOutAreLawful, RunsAreLawful, MadeRunsAreLawful}
use Rattle.sb_lawful_plays.proofs.Databases.{stepped, commits-lawful, crashes-leave, nothing-over}

-- ---- items
pub answers-written : AnswersAreWritten
answers-written InputEnded taken items answers = items-written (asking (lines_of taken)) items answers
answers-written SourceFailed taken items answers = items-written (asking (whole_lines taken)) items answers
answers-written MostTaken taken items answers = items-written (asking (whole_lines taken)) items answers
answers-written (Stopped stop) taken items answers = first-written (asking (lines_of taken)) items answers

-- ---- what was spent
-- it says nothing of databases
pub spent-lawful : (ext : Extensions) (n : ℕ) (s : State) → IsLawfulWithin ext s → IsLawfulWithin ext (with_spent n s)
spent-lawful ext n s within = by s.transaction within.along.lawful.open_one within.along.names within.limits
  where
    by : (o : Option Transaction) → MayBeOpen ext o → All HasDotlessNames (s.commits ++ open_ones o) → All HasLimits (s.commits ++ open_ones o)
        → IsLawfulWithin ext (elim o as (λ _. State) [ None ↦ s | Some t ↦ record s { transaction = Some (record t { spent = n }) } ])
    by None open_one names limits = within
    by (Some t) open_one names limits = record {
      along = record { lawful = record { commits = within.along.lawful.commits; open_one = record { stands = open_one.stands; points = open_one.points } }; names = names };
      limits = limits;
    }

module _ (m : Meanings) (g : Geometry) (HasFailed : Type 0) where
  left : (ext : Extensions) (s : State) (c : Command) (t : State) → MayHaveSpent ext s c t → IsLawfulFor m s → IsLawfulFor m t
  left ext s c t spent lawful = ⊎_elim
      (λ (same : t ≡ s). subst (IsLawfulFor m) (sym same) lawful)
      (λ (by : (picks : List Key) × (t ≡ with_spent (step ext s c picks).spent s)).
      subst (IsLawfulFor m) (sym by.1) (spent-lawful (extensions_of m) (step ext s c by.0).spent s lawful))
      spent

  -- ---- one command
  comes : (s : State) (c : Command) (boxes : Meanings) → AreBoxesOf m s boxes → IsWritten c → IsLawfulFor m s → (reply : Reply) (t : State)
      → Ends (λ u. t ≡ u) (Lacks g) HasFailed (extensions_of boxes) s c reply → IsLawfulFor m t
  comes s c boxes are is lawful (Refused (refusal.Room room)) t ends = subst (IsLawfulFor m) (sym ends.stands) (left (extensions_of boxes) s c ends.after ends.left lawful)
  comes s c boxes are is lawful (Refused refusal.NoMemory) t ends = subst (IsLawfulFor m) (sym ends.stands) (left (extensions_of boxes) s c ends.after ends.left lawful)
  comes s c boxes are is lawful (Refused refusal.Fault) t ends = subst (IsLawfulFor m) (sym ends.stands) (down-lawful (extensions_of m) s lawful)
  comes s c boxes are is lawful (Refused (refusal.Damaged page)) t ends = absurd ends
  comes s c boxes are is lawful (Refused r) t ends = subst (IsLawfulFor m) (sym ends.stands) (stepped m s c boxes are (Refused r) ends.after ends.steps is lawful)
  comes s c boxes are is lawful reply t ends = subst (IsLawfulFor m) (sym ends.stands) (stepped m s c boxes are reply ends.after ends.steps is lawful)

  -- ---- one item
  moved : (s : State) (item : Item) (reply : Reply) (t : State) → IsWrittenItem item → IsLawfulFor m s → MovesBy m g HasFailed s item reply t → IsLawfulFor m t
  moved s (Bad column) reply t is lawful by = subst (IsLawfulFor m) (sym by.moves.1) lawful
  moved s (Says c) reply t is lawful by = comes s c by.boxes by.are is lawful reply t by.moves

  -- ---- all of them
  pub plays_lawful : (s : State) (items : List Item) (replies : List Reply) (states : List State) → All IsWrittenItem items → IsLawfulFor m s → Plays m g HasFailed s items replies states
      → All (IsLawfulFor m) states
  plays_lawful s [] [] [] are lawful plays = All-nil (IsLawfulFor m)
  plays_lawful s (item ∷ items) (reply ∷ replies) (t ∷ states) are lawful plays =
      let next : IsLawfulFor m t = moved s item reply t (All-head IsWrittenItem item items are) lawful plays.0 in
      All-cons (IsLawfulFor m) t states next (plays_lawful t items replies states (All-tail IsWrittenItem item items are) next plays.1)
  plays_lawful s [] [] (t ∷ states) are lawful plays = absurd plays
  plays_lawful s [] (reply ∷ replies) states are lawful plays = absurd plays
  plays_lawful s (item ∷ items) [] states are lawful plays = absurd plays
  plays_lawful s (item ∷ items) (reply ∷ replies) [] are lawful plays = absurd plays

last_lawful : (m : Meanings) (s : State) (states : List State) → IsLawfulFor m s → All (IsLawfulFor m) states → IsLawfulFor m (last_state s states)
last_lawful m s [] lawful all = lawful
last_lawful m s (t ∷ states) lawful all = last_lawful m t states (All-head (IsLawfulFor m) t states all) (All-tail (IsLawfulFor m) t states all)

-- ---- what a crash leaves
module _ (m : Meanings) (told : Option Story) (end : ℕ) where
  abbrev LeavesFrom : ℕ → Type 0
  LeavesFrom start = (t : ℕ) (image : List ℕ) → start ≤ t → t < end → MayLeave told t image → HoldsLawful m image

  leaves_lawful : (s : State) (items : List Item) (states : List State) (starts : List ℕ) → All IsWrittenItem items → IsLawfulFor m s → All (IsLawfulFor m) states
      → LeavesAlong m told end s items states starts → LeavesFrom (next_start starts end)
  leaves_lawful s [] [] [] are lawful all leaves t image from below may = absurd (omega (arith, from, below))
  leaves_lawful s (item ∷ items) (u ∷ states) (start ∷ starts) are lawful all leaves t image from below may =
      let next : IsLawfulFor m u = All-head (IsLawfulFor m) u states all in
      of_test (nat_lt t (next_start starts end)) refl next
      (leaves_lawful u items states starts (All-tail IsWrittenItem item items are) next (All-tail (IsLawfulFor m) u states all) leaves.1)
    where
      of_test : (b : Bool) → nat_lt t (next_start starts end) ≡ b → IsLawfulFor m u → LeavesFrom (next_start starts end) → HoldsLawful m image
      of_test true e next rest =
          crashes-leave m s u item image (All-head IsWrittenItem item items are) lawful next (leaves.0 t image from (ltb-true t (next_start starts end) e) may)
      of_test false e next rest = rest t image (ltb-false t (next_start starts end) e) below may
  leaves_lawful s _ _ _ are lawful all leaves t image from below may = absurd leaves

-- ---- the laws
pub plays-lawful : PlaysAreLawful
plays-lawful m g old new s items replies states are lawful plays = plays_lawful m _ _ s items replies states are lawful plays

pub played-lawful : {B D : Type 0} (w : World B D) → PlayedAreLawful w
played-lawful w m g first s items replies here are lawful played = plays_lawful m _ _ s items replies played.states are lawful played.plays

pub played-out-lawful : {D : Type 0} (told : D → Option Story) (faults : D → ℕ) → PlayedOutAreLawful told faults
played-out-lawful {D} told faults m g first s items replies starts now are lawful played =
    let all : All (IsLawfulFor m) played.states = plays_lawful m _ _ s items replies played.states are lawful played.plays in
    record {
      lawful = all;
      leaves = λ t image from within may. of_test all t image from within may (nat_le t played.until) refl;
    }
  where
    of_down : All (IsLawfulFor m) played.states → (t : ℕ) (image : List ℕ) → played.until < t → t ≤ moment (told now) → MayLeave (told now) t image
        → (b : Bool) → (last_state s played.states).down ≡ b → HoldsLawful m image
    of_down all t image late within may true down = let none : ⊥ = omega (arith, late, within, played.end down) in absurd none
    of_down all t image late within may false up = record {
      db = committed (last_state s played.states);
      holds = played.last up t image (omega (arith, late)) may;
      lawful = (commits-lawful m (last_state s played.states) (last_lawful m s played.states lawful all)).last;
    }

    of_test : All (IsLawfulFor m) played.states → (t : ℕ) (image : List ℕ) → next_start starts (suc played.until) ≤ t → t ≤ moment (told now) → MayLeave (told now) t image
        → (b : Bool) → nat_le t played.until ≡ b → HoldsLawful m image
    of_test all t image from within may true e =
        leaves_lawful m (told now) (suc played.until) s items played.states starts are lawful all played.leaves t image from (omega (arith, leb-true t played.until e)) may
    of_test all t image from within may false e = of_down all t image (leb-false t played.until e) within may ((last_state s played.states).down) refl

pub runs-lawful : {D : Type 0} (told : D → Option Story) (faults : D → ℕ) → RunsAreLawful told faults
runs-lawful told faults m boxes g db ending taken first items replies starts now lawful answers played =
    played-out-lawful told faults m g first (opened boxes db) items replies starts now (answers-written ending taken items answers) (lawful boxes) played

pub made-lawful : {D : Type 0} (told : D → Option Story) (faults : D → ℕ) → MadeRunsAreLawful told faults
made-lawful told faults m boxes g ending taken first items replies starts now answers played =
    runs-lawful told faults m boxes g [] ending taken first items replies starts now (nothing-over m) answers played
