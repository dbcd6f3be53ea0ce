-- A run over a session that was opened.
use Rattle.std.proofs.Common.{◌≡◌, ◌≤◌, inr, ℕ, arith, Bool, true, false, is_some, Option, Some, None, List, [], refl, sym, ap, subst, ◌∙◌}
use Rattle.std.proofs.lemmas.Bool.{false≢true}
use Rattle.sb_disk.specs.Disk.{Mounted, Story}
use Rattle.sb_disk.specs.Moments.{LeavesOnly}
use Rattle.sb_disk.proofs.MomentLemmas.{and_then}
use Rattle.sb_images.specs.Images.{Restores}
use Rattle.sb_images.specs.Store.{IfTold}
use Rattle.sb_images.specs.Layout.{geometry_of}
use Rattle.sb_log.specs.declared.geometry.Geometry.{Geometry}
use Rattle.sb_relation.specs.Db.{Db}
use Rattle.sb_plain.specs.declared.reply.Reply.{Reply}
use Rattle.sb_grammar.specs.Columns.{Item}
use Rattle.sb_registry.specs.Boxes.{Meanings, repeated_in}
use Rattle.sb_sound_plays.specs.Session.{Session}
use Rattle.sb_sound_plays.specs.Opening.{opened}
use Rattle.sb_sound_plays.specs.DeclaredEnding.{Ending}
use Rattle.sb_sound_plays.specs.Crashes.{HoldsDatabase}
use Rattle.sb_sound_plays.specs.Ending.{status_of}
use Rattle.sb_sound_plays.specs.Runs.{HasPlayedOut, PlaysOut}
use Rattle.sb_sound_plays.specs.Keeping.{KeepsOut, commit_none}
use Rattle.sb_sound_plays.specs.Serving.{AnswersItems, HasEndedSo, HasServed}
use Rattle.sb_sound_plays.specs.Sessions.{sizes_of}
use Rattle.sb_sound_plays.specs.World.{At, World, at}
use Rattle.sb_sound_plays.proofs.LawfulPlaysDatabases.{nothing-over as nothing-lawful}
use Rattle.sb_sound_plays.proofs.LawfulPlaysPlaying.{runs-lawful}
use Rattle.sb_sound_plays.proofs.Databases.{nothing-over as nothing-sound}
use Rattle.sb_sound_plays.proofs.Playing.{runs-sound}
use Rattle.sb_words.specs.declared.words.Words.{Words}
use Rattle.sb_run.specs.declared.report.Report.{Report}
use Rattle.sb_run.specs.Run.{HasPlayedFrom, HoldsNew, KeepsPages, OnMounted, PlaysFrom, Run, RunsMounted, RunsOn, Seen, Tells, seen, tells}
use Rattle.sb_run.specs.Starting.{HasStarted}
use Rattle.sb_run.proofs.EarlyLemmas.{early-along, holds-opened}

-- ---- what was played
played-from : {D : Type 0} (d : Tells D) (m boxes : Meanings) (g : Geometry) (IsEarly : List ℕ → Type 0) (db : Db) (mounted first now : D)
    (ending : Ending) (taken : List ℕ) (items : List Item) (replies : List Reply) (starts : List ℕ) → AnswersItems ending taken items
    → LeavesOnly (d.told mounted) (d.told first) IsEarly
    → ((image : List ℕ) → HoldsDatabase m image db → IsEarly image) → HasPlayedOut d.told d.faults m g first (opened boxes db) items replies starts now
    → HasPlayedFrom d m boxes g IsEarly db mounted first now items replies starts
played-from d m boxes g IsEarly db mounted first now ending taken items replies starts answers early holds played = record {
  early = early-along (d.told mounted) (d.told first) (d.told now) starts played.until IsEarly early played.on played.begins
      (λ none t image from left. holds image
      (holds-opened m boxes db (d.told now) played.until _ items played.states starts played.leaves played.last none t image from left));
  played = played;
  lawful = λ lawful. runs-lawful d.told d.faults m boxes g db ending taken first items replies starts now lawful answers played;
  sound = λ sound. runs-sound d.told d.faults m boxes g db ending taken first items replies starts now sound answers played;
}

plays-from : {B D : Type 0} (w : World B D) (m : Meanings) (words : Words) (create : Bool) (mounted : D) (ending : Ending) (taken : List ℕ) (items : List Item) (replies : List Reply)
    (first now : At B D) → AnswersItems ending taken items → HasStarted w m words create mounted first.disk first.session → PlaysOut w m items replies first now
    → PlaysFrom (tells w.told w.len w.faults) m words create mounted now.disk now.starts items replies
unfolding played-from
plays-from w m words false mounted ending taken items replies first now answers started plays = (
  started.0,
  λ g want db stored.
      let start = started.1 g want db stored in (
        record { boxes = w.meanings first.session.boxes; live = start.live; first = first.disk; later = start.later; early = start.early },
        λ single.
            played-from (tells w.told w.len w.faults) m (w.meanings first.session.boxes) g (λ image. HoldsDatabase m image db) db mounted first.disk now.disk
            ending taken items replies now.starts answers start.early (λ image holds. holds)
            (subst (λ (h : Geometry). HasPlayedOut w.told w.faults m h first.disk (opened (w.meanings first.session.boxes) db) items replies now.starts now.disk) start.sizes
            (plays (opened (w.meanings first.session.boxes) db) start.now single)),
      ),
)
plays-from w m words true mounted ending taken items replies first now answers started plays = (
  started.0,
  λ told settled.
      let start = started.1 told settled in (
        record { boxes = w.meanings first.session.boxes; live = start.0.live; first = first.disk; later = start.0.later; early = start.0.early },
        start.1,
        λ single.
            let from = played-from (tells w.told w.len w.faults) m (w.meanings first.session.boxes) (geometry_of words.pages words.log) (HoldsNew m) [] mounted first.disk now.disk
            ending taken items replies now.starts answers start.0.early (λ image holds. inr holds)
            (subst (λ (h : Geometry). HasPlayedOut w.told w.faults m h first.disk (opened (w.meanings first.session.boxes) []) items replies now.starts now.disk) start.0.sizes
            (plays (opened (w.meanings first.session.boxes) []) start.0.now single)) in
            (from, record { lawful = from.lawful (nothing-lawful m); sound = from.sound (nothing-sound m) }),
      ),
)

-- ---- what is kept
told_none : (a b : Option Story) (P Q : List ℕ → Type 0) → a ≡ None → LeavesOnly a b P → LeavesOnly a b Q
told_none a None P Q none run = record { tells = run.tells; later = run.later; before = run.before; since = λ t image late left. absurd left }
told_none a (Some s) P Q none run = absurd (false≢true (ap is_some (sym none) ∙ run.tells))

keeps-pages : {B D : Type 0} (w : World B D) (m : Meanings) (words : Words) (create : Bool) (mounted : D) (items : List Item) (replies : List Reply) (first : At B D) (now : D)
    → HasStarted w m words create mounted first.disk first.session → KeepsOut w items replies first now → KeepsPages (tells w.told w.len w.faults) create mounted now items replies
keeps-pages w m words true mounted items replies first now started keeps = tt
keeps-pages w m words false mounted items replies first now started keeps = λ none want g is.
    let stored = started.2 in
    let wanted = stored.wanted want g is in
    let left = (keeps (ap (λ (b : Bool). commit_none b items replies) (ap is_some stored.outside) ∙ none)).each want wanted.0 wanted.1 in
    and_then (w.told mounted) (w.told first.disk) (w.told now) (Restores g want) (stored.leaves want g is) (by (w.told mounted) refl want g (stored.leaves want g is) (stored.sizes want g is) left)
  where
    none_of : (o : Option Story) → is_some o ≡ false → o ≡ None
    none_of None is = refl
    none_of (Some s) is = absurd (false≢true (sym is))

    by : (told : Option Story) → w.told mounted ≡ told → (want : ℕ → List ℕ) (g : Geometry) → LeavesOnly (w.told mounted) (w.told first.disk) (Restores g want)
        → IfTold (w.told mounted) (sizes_of first.session ≡ g) → LeavesOnly (w.told first.disk) (w.told now) (Restores (sizes_of first.session) want)
        → LeavesOnly (w.told first.disk) (w.told now) (Restores g want)
    by None is want g early sizes left = told_none (w.told first.disk) (w.told now) _ _ (none_of (w.told first.disk) (sym early.tells ∙ ap is_some is)) left
    by (Some s) is want g early sizes left =
        subst (λ (h : Geometry). LeavesOnly (w.told first.disk) (w.told now) (Restores h want)) (subst (λ (o : Option Story). IfTold o (sizes_of first.session ≡ g)) is sizes) left

-- what is known of the items and their replies, by what was known
known-by : (most : ℕ) (left left_now held held_now : Option (List ℕ)) (ending : Ending) (starts : List ℕ)
    (IsKnown Follows : List Item → List Reply → Type 0)
    → ((taken : List ℕ) (items : List Item) (replies : List Reply) → AnswersItems ending taken items → IsKnown items replies → Follows items replies)
    → HasEndedSo most left left_now held held_now ending starts IsKnown → HasEndedSo most left left_now held held_now ending starts Follows
known-by most left left_now held held_now ending starts IsKnown Follows leads ended = record {
  taken = ended.taken;
  written = ended.written;
  items = ended.items;
  replies = ended.replies;
  is_taken = ended.is_taken;
  is_written = ended.is_written;
  begun = ended.begun;
  answers = ended.answers;
  whole = ended.whole;
  are_answered = ended.are_answered;
  once = ended.once;
  leaves = ended.leaves;
  within = ended.within;
  writes = ended.writes;
  in_time = ended.in_time;
  known = leads ended.taken ended.items ended.replies ended.answers ended.known;
}

-- ---- what was run
pub runs_mounted : {B D : Type 0} (w : World B D) (m : Meanings) (words : Words) (most : ℕ) (left left_now held held_now : Option (List ℕ))
    (mounted first now : D) (x : Session B) (ending : Ending) (report : Report) → HasStarted w m words words.create mounted first x
    → w.faults mounted ≤ w.faults first → w.faults first ≤ w.faults now
    → HasServed w m most left left_now ending (at first x held []) (at now x held_now report.starts) → report.status ≡ status_of ending
    → RunsMounted (tells w.told w.len w.faults) m words most (seen left held) (seen left_now held_now) mounted now report
runs_mounted w m words most left left_now held held_now mounted first now x ending report started before later served status = Run (record {
  ending = ending;
  status = status;
  later = omega (arith, before, later);
  ended = known-by most left left_now held held_now ending report.starts _
      (λ items replies. PlaysFrom (tells w.told w.len w.faults) m words words.create mounted now report.starts items replies
      × KeepsPages (tells w.told w.len w.faults) words.create mounted now items replies)
      (λ taken items replies answers known. (
        plays-from w m words words.create mounted ending taken items replies (at first x held []) (at now x held_now report.starts) answers started known.0,
        keeps-pages w m words words.create mounted items replies (at first x held []) now started known.1,
      ))
      served;
})

-- the boxes of the registry are those that were given
pub on_mounted : {D : Type 0} (d : Tells D) (m given : Meanings) (words : Words) (most : ℕ) (old new : Seen) (disk mounted now : D) (report : Report)
    → Mounted (d.told disk) (d.told mounted) → d.faults disk ≤ d.faults mounted → m ≡ given → repeated_in m ≡ None → RunsMounted d m words most old new mounted now report
    → RunsOn d given words most old new disk now report
on_mounted d m given words most old new disk mounted now report told later same unique run = OnMounted mounted told later
    (subst (λ (n : Meanings). repeated_in n ≡ None) same unique)
    (subst (λ (n : Meanings). RunsMounted d n words most old new mounted now report) same run)
