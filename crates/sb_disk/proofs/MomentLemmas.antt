-- How a run of calls goes on, and what a crash in it may leave.
use Rattle.std.proofs.Common.{◌≡◌, inl, inr, ⊎_elim, ℕ, ◌+◌, ◌<◌, ◌≤◌, Option, Some, None, Result, Ok, Err, OnOk, OnErr, List, [], ◌∷◌, length, refl, sym, ◌∙◌, subst, arith}
use Rattle.std.proofs.lemmas.Bool.{cases_lt}
use Rattle.sb_bytes.specs.Bytes.{splice}
use Rattle.sb_disk.specs.Disk.{Range, Moment, Story, Covered, Leaves, WhereTold, after_write, after_sync, after_failed_sync, wrote, synced, WriteFault, TornWrite, IdleWrite, LateWrite, SyncFault, LostSync, LateSync, FailedWrite, FailedSync, Mounted}
use Rattle.sb_disk.specs.Moments.{moment, contents, LeftAt, MayLeave, LeavesOnly, LeavesNow, LeavesTorn, IsSettled, Within, Sized, Step, Write, Sync, RanOk, RanErr, AllAlong, AllWithin}
use Rattle.sb_disk.proofs.RangeLemmas.{AgreesBut-more, AgreesBut-then, AgreesBut-twice, AgreesBut-uncovered, splice-AgreesBut}

-- ---- any run
-- a moment of some has a number below theirs
LeftAt-below : (moments : List Moment) (t : ℕ) (image : List ℕ) → LeftAt moments t image → t < length moments
LeftAt-below [] t image left = absurd left
LeftAt-below (newest ∷ older) t image (inl here) = let number = here.0 in omega arith
LeftAt-below (newest ∷ older) t image (inr there) = let below = LeftAt-below older t image there in omega arith

-- before the first call
pub started : (told : Option Story) (P : List ℕ → Type 0) → ((image : List ℕ) → LeavesNow told image → P image) → LeavesOnly told told P
started None P here = record { tells = refl; later = omega arith; before = λ t image earlier left. absurd left; since = λ t image late left. absurd left }
started (Some s) P here = record {
  tells = refl;
  later = omega arith;
  before = λ t image earlier left. left;
  since = λ t image late left. ⊎_elim (λ now. here image now.1) (λ then. absurd (let below = LeftAt-below s.before t image then in omega arith)) left;
}

-- a run, and then another
pub and_then : (a b c : Option Story) (P : List ℕ → Type 0) → LeavesOnly a b P → LeavesOnly b c P → LeavesOnly a c P
and_then a b c P first second = record {
  tells = first.tells ∙ second.tells;
  later = (let one = first.later in let two = second.later in omega arith);
  before = λ t image earlier left. first.before t image earlier (second.before t image (let one = first.later in omega arith) left);
  since = λ t image late left. ⊎_elim
      (λ (earlier : t < moment b). first.since t image late (second.before t image earlier left))
      (λ (later : moment b ≤ t). second.since t image later left)
      (cases_lt t (moment b));
}

-- a weaker fact
pub weaker : (a b : Option Story) (P Q : List ℕ → Type 0) → ((image : List ℕ) → P image → Q image) → LeavesOnly a b P → LeavesOnly a b Q
weaker a b P Q leads run = record { tells = run.tells; later = run.later; before = run.before; since = λ t image late left. leads image (run.since t image late left) }

-- what a run may leave at its end
pub at_end : (a b : Option Story) (P : List ℕ → Type 0) → LeavesOnly a b P → (image : List ℕ) → LeavesNow b image → P image
at_end a None P run image left = absurd left
at_end a (Some s) P run image left = run.since (length s.before) image run.later (inl (refl, left))

-- ---- the present moment
-- what a crash may leave when as many calls were made as now
pub MayLeave-now : (told : Option Story) (image : List ℕ) → MayLeave told (moment told) image → LeavesNow told image
MayLeave-now None image left = left
MayLeave-now (Some s) image left = ⊎_elim (λ now. now.1) (λ then. absurd (let below = LeftAt-below s.before (length s.before) image then in omega arith)) left

pub LeavesNow-MayLeave : (told : Option Story) (image : List ℕ) → LeavesNow told image → MayLeave told (moment told) image
LeavesNow-MayLeave None image left = left
LeavesNow-MayLeave (Some s) image left = inl (refl, left)

-- the contents are an image of it
pub Leaves-reads : (m : Moment) → Leaves m m.reads
Leaves-reads m = record { size = refl; bytes = λ i out. refl }

-- ---- one call more
-- a call makes a moment, or none
data OneCall (old new : Story) : Type 0 where
  NewMoment : (m : Moment) → new ≡ record { now = m; before = old.now ∷ old.before } → OneCall old new
  NoMoment : new ≡ old → OneCall old new

abbrev StepsTo : Option Story → Option Story → Type 0
StepsTo old new = WhereTold old new OneCall

steps_by : (s next : Story) (m : Moment) (new : Option Story) → next ≡ record { now = m; before = s.now ∷ s.before } → new ≡ Some next → StepsTo (Some s) new
steps_by s next m new is told = subst (λ (n : Option Story). StepsTo (Some s) n) (sym told) (NewMoment m is)

wrote-StepsTo : (at : ℕ) (bytes : List ℕ) (a new : Option Story) → new ≡ wrote at bytes a → StepsTo a new
wrote-StepsTo at bytes None new is = is
wrote-StepsTo at bytes (Some s) new is = steps_by s _ (after_write at (length bytes) (splice at bytes s.now.reads) s).now new refl is

synced-StepsTo : (a new : Option Story) → new ≡ synced a → StepsTo a new
synced-StepsTo None new is = is
synced-StepsTo (Some s) new is = steps_by s _ (after_sync s).now new refl is

write_fault_call : (at count : ℕ) (old new : Story) → WriteFault at count old new → OneCall old new
write_fault_call at count old new (TornWrite reads agrees is) = NewMoment (after_write at count reads old).now is
write_fault_call at count old new (IdleWrite is) = NewMoment old.now is
write_fault_call at count old new (LateWrite is) = NoMoment is

FailedWrite-StepsTo : (at count : ℕ) (a new : Option Story) → FailedWrite at count a new → StepsTo a new
FailedWrite-StepsTo at count None new failed = failed
FailedWrite-StepsTo at count (Some s) None failed = absurd failed
FailedWrite-StepsTo at count (Some s) (Some t) failed = write_fault_call at count s t failed

sync_fault_call : (old new : Story) → SyncFault old new → OneCall old new
sync_fault_call old new (LostSync reads agrees is) = NewMoment (after_failed_sync reads old).now is
sync_fault_call old new (LateSync is) = NoMoment is

FailedSync-StepsTo : (a new : Option Story) → FailedSync a new → StepsTo a new
FailedSync-StepsTo None new failed = failed
FailedSync-StepsTo (Some s) None failed = absurd failed
FailedSync-StepsTo (Some s) (Some t) failed = sync_fault_call s t failed

one_call : (s t : Story) (P : List ℕ → Type 0) → OneCall s t → ((image : List ℕ) → Leaves s.now image → P image) → ((image : List ℕ) → Leaves t.now image → P image) → LeavesOnly (Some s) (Some t) P
one_call s t P (NoMoment same) old_has new_has = subst (λ (u : Story). LeavesOnly (Some s) (Some u) P) (sym same) (started (Some s) P old_has)
one_call s t P (NewMoment m is) old_has new_has =
    let here : (image : List ℕ) → Leaves m image → P image = subst (λ (u : Story). (image : List ℕ) → Leaves u.now image → P image) is new_has in
    let run : LeavesOnly (Some s) (Some (record { now = m; before = s.now ∷ s.before })) P = record {
      tells = refl;
      later = omega arith;
      before = λ k image earlier left. ⊎_elim (λ now. absurd (let number = now.0 in omega arith)) (λ then. then) left;
      since = λ k image late left. ⊎_elim (λ now. here image now.1) (λ then. (started (Some s) P old_has).since k image late then) left;
    } in
    subst (λ (u : Story). LeavesOnly (Some s) (Some u) P) (sym is) run

one_step : (a new : Option Story) (P : List ℕ → Type 0) → StepsTo a new → ((image : List ℕ) → LeavesNow a image → P image) → ((image : List ℕ) → LeavesNow new image → P image) → LeavesOnly a new P
one_step None new P same old_has new_has = subst (λ (n : Option Story). LeavesOnly None n P) (sym same) (started None P old_has)
one_step (Some s) None P step old_has new_has = absurd step
one_step (Some s) (Some t) P step old_has new_has = one_call s t P step old_has new_has

goes_on : (a b new : Option Story) (P : List ℕ → Type 0) → LeavesOnly a b P → StepsTo b new → ((image : List ℕ) → LeavesNow new image → P image) → LeavesOnly a new P
goes_on a b new P so_far step new_has = and_then a b new P so_far (one_step b new P step (at_end a b P so_far) new_has)

-- ---- what each call may leave
-- after a write, what a torn one may leave
pub wrote-LeavesTorn : (at : ℕ) (bytes : List ℕ) (a new : Option Story) → Within at (length bytes) a → new ≡ wrote at bytes a → (image : List ℕ) → LeavesNow new image → LeavesTorn at (length bytes) a image
wrote-LeavesTorn at bytes None new within is image left = subst (λ (n : Option Story). LeavesNow n image) is left
wrote-LeavesTorn at bytes (Some s) new within is image left =
    AgreesBut-then (record { start = at; len = length bytes }) s.now.written s.now.reads (splice at bytes s.now.reads) image
    (splice-AgreesBut at bytes s.now.reads within) (subst (λ (n : Option Story). LeavesNow n image) is left)

write_fault_torn : (at count : ℕ) (old new : Story) → WriteFault at count old new → (image : List ℕ) → Leaves new.now image → LeavesTorn at count (Some old) image
write_fault_torn at count old new (TornWrite reads agrees is) image left =
    AgreesBut-then (record { start = at; len = count }) old.now.written old.now.reads reads image agrees (subst (λ (u : Story). Leaves u.now image) is left)
write_fault_torn at count old new (IdleWrite is) image left = AgreesBut-more (record { start = at; len = count }) old.now.written old.now.reads image (subst (λ (u : Story). Leaves u.now image) is left)
write_fault_torn at count old new (LateWrite is) image left = AgreesBut-more (record { start = at; len = count }) old.now.written old.now.reads image (subst (λ (u : Story). Leaves u.now image) is left)

pub FailedWrite-LeavesTorn : (at count : ℕ) (a new : Option Story) → FailedWrite at count a new → (image : List ℕ) → LeavesNow new image → LeavesTorn at count a image
FailedWrite-LeavesTorn at count None new failed image left = subst (λ (n : Option Story). LeavesNow n image) failed left
FailedWrite-LeavesTorn at count (Some s) None failed image left = absurd failed
FailedWrite-LeavesTorn at count (Some s) (Some t) failed image left = write_fault_torn at count s t failed image left

-- a sync, a failed one too, leaves nothing that couldn't be left before it
pub synced-LeavesNow : (a new : Option Story) → new ≡ synced a → (image : List ℕ) → LeavesNow new image → LeavesNow a image
synced-LeavesNow None new is image left = subst (λ (n : Option Story). LeavesNow n image) is left
synced-LeavesNow (Some s) new is image left =
    let now = subst (λ (n : Option Story). LeavesNow n image) is left in record { size = now.size; bytes = λ i out. now.bytes i (λ none. none) }

sync_fault_left : (old new : Story) → SyncFault old new → (image : List ℕ) → Leaves new.now image → Leaves old.now image
sync_fault_left old new (LostSync reads agrees is) image left = AgreesBut-twice old.now.written old.now.reads reads image agrees (subst (λ (u : Story). Leaves u.now image) is left)
sync_fault_left old new (LateSync is) image left = subst (λ (u : Story). Leaves u.now image) is left

pub FailedSync-LeavesNow : (a new : Option Story) → FailedSync a new → (image : List ℕ) → LeavesNow new image → LeavesNow a image
FailedSync-LeavesNow None new failed image left = subst (λ (n : Option Story). LeavesNow n image) failed left
FailedSync-LeavesNow (Some s) None failed image left = absurd failed
FailedSync-LeavesNow (Some s) (Some t) failed image left = sync_fault_left s t failed image left

-- ---- where no byte is pending
-- a crash leaves the contents
pub IsSettled-LeavesNow : (a : Option Story) → IsSettled a → (image : List ℕ) → LeavesNow a image → image ≡ contents a
IsSettled-LeavesNow None settled image left = absurd left
IsSettled-LeavesNow (Some s) settled image left = AgreesBut-uncovered s.now.written s.now.reads image settled left

pub synced-IsSettled : (a new : Option Story) → new ≡ synced a → IsSettled new
synced-IsSettled None new is = subst IsSettled (sym is) tt
synced-IsSettled (Some s) new is = subst IsSettled (sym is) (λ i none. none)

-- where no range is pending, no byte is
pub IsSettled-none : (s : Story) → s.now.written ≡ [] → IsSettled (Some s)
IsSettled-none s none i covered = subst (λ (ranges : List Range). Covered i ranges) none covered

-- a range of no bytes more
none_more : (at : ℕ) (ranges : List Range) → ((i : ℕ) → ¬ Covered i ranges) → (i : ℕ) → ¬ Covered i (record { start = at; len = 0 } ∷ ranges)
none_more at ranges none i covered = ⊎_elim
    (λ (here : (at ≤ i) × (i < at + 0)). let from = here.0 in let to = here.1 in absurd (omega arith))
    (λ there. none i there)
    covered

-- a write of no bytes, of either end
pub IsSettled-wrote : (at : ℕ) (told : Option Story) → IsSettled told → IsSettled (wrote at [] told)
IsSettled-wrote at None settled = tt
IsSettled-wrote at (Some s) settled = none_more at s.now.written settled

write_fault_settled : (at : ℕ) (old new : Story) → IsSettled (Some old) → WriteFault at 0 old new → IsSettled (Some new)
write_fault_settled at old new settled (TornWrite reads agrees is) = subst (λ (u : Story). IsSettled (Some u)) (sym is) (none_more at old.now.written settled)
write_fault_settled at old new settled (IdleWrite is) = subst (λ (u : Story). IsSettled (Some u)) (sym is) settled
write_fault_settled at old new settled (LateWrite is) = subst (λ (u : Story). IsSettled (Some u)) (sym is) settled

pub IsSettled-FailedWrite : (at : ℕ) (old new : Option Story) → IsSettled old → FailedWrite at 0 old new → IsSettled new
IsSettled-FailedWrite at None new settled failed = subst IsSettled (sym failed) tt
IsSettled-FailedWrite at (Some s) None settled failed = absurd failed
IsSettled-FailedWrite at (Some s) (Some t) settled failed = write_fault_settled at s t settled failed

-- ---- one call more in a run, for each call and each of its ends
pub on_write : (a b new : Option Story) (P : List ℕ → Type 0) (at : ℕ) (bytes : List ℕ) → Within at (length bytes) b → LeavesOnly a b P → new ≡ wrote at bytes b
    → ((image : List ℕ) → LeavesTorn at (length bytes) b image → P image) → LeavesOnly a new P
on_write a b new P at bytes within so_far is torn = goes_on a b new P so_far (wrote-StepsTo at bytes b new is) (λ image left. torn image (wrote-LeavesTorn at bytes b new within is image left))

pub on_failed_write : (a b new : Option Story) (P : List ℕ → Type 0) (at count : ℕ) → LeavesOnly a b P → FailedWrite at count b new → ((image : List ℕ) → LeavesTorn at count b image → P image) → LeavesOnly a new P
on_failed_write a b new P at count so_far is torn = goes_on a b new P so_far (FailedWrite-StepsTo at count b new is) (λ image left. torn image (FailedWrite-LeavesTorn at count b new is image left))

pub on_sync : (a b new : Option Story) (P : List ℕ → Type 0) → LeavesOnly a b P → new ≡ synced b → LeavesOnly a new P
on_sync a b new P so_far is = goes_on a b new P so_far (synced-StepsTo b new is) (λ image left. at_end a b P so_far image (synced-LeavesNow b new is image left))

pub on_failed_sync : (a b new : Option Story) (P : List ℕ → Type 0) → LeavesOnly a b P → FailedSync b new → LeavesOnly a new P
on_failed_sync a b new P so_far is = goes_on a b new P so_far (FailedSync-StepsTo b new is) (λ image left. at_end a b P so_far image (FailedSync-LeavesNow b new is image left))

-- a call of either end
pub on_write_call : {T E : Type 0} (result : Result T E) (a b new : Option Story) (P : List ℕ → Type 0) (at : ℕ) (bytes : List ℕ) → Within at (length bytes) b → LeavesOnly a b P
    → OnOk result (new ≡ wrote at bytes b) → OnErr result (FailedWrite at (length bytes) b new) → ((image : List ℕ) → LeavesTorn at (length bytes) b image → P image) → LeavesOnly a new P
on_write_call (Ok x) a b new P at bytes within so_far ok err torn = on_write a b new P at bytes within so_far ok torn
on_write_call (Err e) a b new P at bytes within so_far ok err torn = on_failed_write a b new P at (length bytes) so_far err torn

pub on_sync_call : {T E : Type 0} (result : Result T E) (a b new : Option Story) (P : List ℕ → Type 0) → LeavesOnly a b P → OnOk result (new ≡ synced b) → OnErr result (FailedSync b new) → LeavesOnly a new P
on_sync_call (Ok x) a b new P so_far ok err = on_sync a b new P so_far ok
on_sync_call (Err e) a b new P so_far ok err = on_failed_sync a b new P so_far err

-- ---- mounting
-- where no byte was pending, none is
pub Mounted-IsSettled : (a new : Option Story) → Mounted a new → IsSettled a → IsSettled new
Mounted-IsSettled None new mounted settled = subst IsSettled (sym mounted) tt
Mounted-IsSettled (Some s) None mounted settled = absurd mounted
Mounted-IsSettled (Some s) (Some t) mounted settled = λ i covered. settled i (subst (λ (ranges : List Range). Covered i ranges) mounted.written covered)

-- A mount before which no byte was pending leaves the bytes that are read after it, and nothing else.
pub on_mount : (a b new : Option Story) (P : List ℕ → Type 0) → LeavesOnly a b P → IsSettled b → Mounted b new → P (contents new) → LeavesOnly a new P
on_mount a None new P so_far settled mounted has = subst (λ (n : Option Story). LeavesOnly a n P) (sym mounted) so_far
on_mount a (Some s) None P so_far settled mounted has = absurd mounted
on_mount a (Some s) (Some t) P so_far settled mounted has = record {
  tells = so_far.tells;
  later = subst (λ (moments : List Moment). moment a ≤ length moments) (sym mounted.before) so_far.later;
  before = λ k image earlier left. ⊎_elim
      (λ now. absurd (let number = now.0 in let first : moment a ≤ length t.before = subst (λ (moments : List Moment). moment a ≤ length moments) (sym mounted.before) so_far.later in omega arith))
      (λ then. so_far.before k image earlier (inr (subst (λ (moments : List Moment). LeftAt moments k image) mounted.before then)))
      left;
  since = λ k image late left. ⊎_elim
      (λ now. subst P (sym (IsSettled-LeavesNow (Some t) (Mounted-IsSettled (Some s) (Some t) mounted settled) image now.1)) has)
      (λ then. so_far.since k image late (inr (subst (λ (moments : List Moment). LeftAt moments k image) mounted.before then)))
      left;
}

-- ---- a whole run of calls
Sized-Within : (size at count : ℕ) (told : Option Story) → Sized size told → at + count ≤ size → Within at count told
Sized-Within size at count None sized fits = tt
Sized-Within size at count (Some s) sized fits = let e : length s.now.reads ≡ size = sized in omega arith

pub Sized-wrote : (size at : ℕ) (bytes : List ℕ) (told : Option Story) → Sized size told → at + length bytes ≤ size → Sized size (wrote at bytes told)
Sized-wrote size at bytes None sized fits = tt
Sized-wrote size at bytes (Some s) sized fits = let e : length s.now.reads ≡ size = sized in sym (splice-AgreesBut at bytes s.now.reads (omega arith)).size ∙ e

pub Sized-synced : (size : ℕ) (told : Option Story) → Sized size told → Sized size (synced told)
Sized-synced size None sized = tt
Sized-synced size (Some s) sized = sized

pub ran_ok : (steps : List Step) (size : ℕ) (a b new : Option Story) (P : List ℕ → Type 0) → Sized size b → AllWithin size steps → LeavesOnly a b P → AllAlong steps b P → RanOk steps b new → LeavesOnly a new P
ran_ok [] size a b new P sized within so_far along ran = subst (λ (n : Option Story). LeavesOnly a n P) (sym ran) so_far
ran_ok (Write at bytes ∷ steps) size a b new P sized within so_far along ran =
    ran_ok steps size a (wrote at bytes b) new P (Sized-wrote size at bytes b sized within.0) within.1
    (on_write a b (wrote at bytes b) P at bytes (Sized-Within size at (length bytes) b sized within.0) so_far refl along.0) along.1 ran
ran_ok (Sync ∷ steps) size a b new P sized within so_far along ran =
    ran_ok steps size a (synced b) new P (Sized-synced size b sized) within (on_sync a b (synced b) P so_far refl) along ran

pub ran_err : (steps : List Step) (size : ℕ) (a b new : Option Story) (P : List ℕ → Type 0) → Sized size b → AllWithin size steps → LeavesOnly a b P → AllAlong steps b P → RanErr steps b new → LeavesOnly a new P
ran_err [] size a b new P sized within so_far along ran = absurd ran
ran_err (Write at bytes ∷ steps) size a b new P sized within so_far along (inl failed) = on_failed_write a b new P at (length bytes) so_far failed along.0
ran_err (Write at bytes ∷ steps) size a b new P sized within so_far along (inr ran) =
    ran_err steps size a (wrote at bytes b) new P (Sized-wrote size at bytes b sized within.0) within.1
    (on_write a b (wrote at bytes b) P at bytes (Sized-Within size at (length bytes) b sized within.0) so_far refl along.0) along.1 ran
ran_err (Sync ∷ steps) size a b new P sized within so_far along (inl failed) = on_failed_sync a b new P so_far failed
ran_err (Sync ∷ steps) size a b new P sized within so_far along (inr ran) =
    ran_err steps size a (synced b) new P (Sized-synced size b sized) within (on_sync a b (synced b) P so_far refl) along ran
