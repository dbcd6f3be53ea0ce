-- One record more in the log of a store.
use Rattle.std.proofs.Common.{◌≡◌, ℕ, ◌+◌, ◌<◌, ◌≤◌, Option, Some, None, Result, Ok, Err, OnOk, IfErr, IsErrOf, ◌↔◌, List, [], ◌∷◌, ◌++◌, length, refl, sym, ◌∙◌, ap, subst, arith}
use Rattle.std.proofs.lemmas.List.{append-nil}
use Rattle.sb_disk.specs.Disk.{Story, WhereTold}
use Rattle.sb_journal.specs.Calls.{IsLogFull, log_full, AppendErr}
use Rattle.sb_journal.specs.declared.fault.JournalFault.{JournalFault}
use Rattle.sb_journal.specs.declared.fault.JournalFault.TheVariants.{Fault, LogFull, GatesFull, BadChunk, NoMemory}
use Rattle.sb_journal.specs.State.{State, Sound, Appended, after_append}
use Rattle.sb_log.specs.declared.geometry.Geometry.{Geometry}
use Rattle.sb_log.specs.Records.{Record, Begin, Image, Changed, Back, Commit, IsRecord, spelling}
use Rattle.sb_log.specs.Views.{Active}
use Rattle.sb_log.proofs.RecordLemmas.{length-image, length-change}
use Rattle.sb_images.specs.Store.{IsStoreOn}
use Rattle.sb_images.proofs.StoreLemmas.{IsStoreOn-append}
use Rattle.sb_pool.proofs.StoreLemmas.{SamePages, SamePages-append}
use Rattle.sb_txn.proofs.RoomLemmas.{need_filled}
use Rattle.sb_txn.specs.Steps.{Steps, HasSamePages, KeepsDisk, filled}

-- ---- the length of a record
pub record IsShort (r : Record) : Type 0 where
  pub some : 0 < length (spelling r)
  pub most : length (spelling r) ≤ 8207

pub IsShort-record : (r : Record) → IsRecord r → IsShort r
IsShort-record (Begin tx) sound = record { some = omega arith; most = omega arith }
IsShort-record (Image page bytes) sound = let long = length-image page bytes in let size = sound.1 in record { some = omega arith; most = omega arith }
IsShort-record (Changed c) sound = let long = length-change c in let same = sound.same in let within = sound.within in record { some = omega arith; most = omega arith }
IsShort-record (Back tx n) sound = record { some = omega arith; most = omega arith }
IsShort-record (Commit tx) sound = record { some = omega arith; most = omega arith }

-- ---- it is pending
module _ (j k : State) (r : Record) (sound : Sound k) (is : IsRecord r) where
  pub IsStoreOn-logged : k ≡ after_append (length (spelling r)) j → (want now then : ℕ → List ℕ) (g : Geometry) (opened pending : List Record) (active after : List Active) (told new : Option Story) → WhereTold told new (Appended (spelling r) j k)
      → IsStoreOn want now told j g opened pending active → Steps g now then opened pending r active after → IsStoreOn want then new k g opened (pending ++ r ∷ []) after
  IsStoreOn-logged done want now then g opened pending active after told new appended store step =
      IsStoreOn-append want now j g opened pending active then after k (r ∷ []) (spelling r) (sym (append-nil (spelling r))) done sound (is, tt) step told new appended store

  -- where the call answers Ok
  pub OnOk-logged : {T E : Type 0} (result : Result T E) (told new : Option Story) → OnOk result (k ≡ after_append (length (spelling r)) j) → OnOk result (WhereTold told new (Appended (spelling r) j k))
      → OnOk result ((want now then : ℕ → List ℕ) (g : Geometry) (opened pending : List Record) (active after : List Active) → IsStoreOn want now told j g opened pending active
      → Steps g now then opened pending r active after → IsStoreOn want then new k g opened (pending ++ r ∷ []) after)
  OnOk-logged (Ok x) told new done appended = λ want now then g opened pending active after store step. IsStoreOn-logged done want now then g opened pending active after told new appended store step
  OnOk-logged (Err e) told new done appended = tt

-- ---- the pages
-- in the words of these contracts
module _ (g : Geometry) where
  pub HasSamePages-as : (told new : Option Story) → WhereTold told new (SamePages g) → WhereTold told new (HasSamePages g)
  HasSamePages-as None new same = same
  HasSamePages-as (Some s) None same = same
  HasSamePages-as (Some s) (Some t) same = same.pages

  pub SamePages-as : (told new : Option Story) → WhereTold told new (HasSamePages g) → WhereTold told new (SamePages g)
  SamePages-as None new same = same
  SamePages-as (Some s) None same = same
  SamePages-as (Some s) (Some t) same = record { pages = same }

  pub HasSamePages-then : (told mid new : Option Story) → WhereTold told mid (HasSamePages g) → WhereTold mid new (HasSamePages g) → WhereTold told new (HasSamePages g)
  HasSamePages-then None mid new one two = subst (λ (m : Option Story). WhereTold m new (HasSamePages g)) one two
  HasSamePages-then (Some s) None new one two = absurd one
  HasSamePages-then (Some s) (Some t) None one two = two
  HasSamePages-then (Some s) (Some t) (Some u) one two = λ p. two p ∙ one p

-- ---- the pages stay
pub OnOk-pages : (j k : State) (bytes : List ℕ) {T E : Type 0} (result : Result T E) (told new : Option Story) → OnOk result (WhereTold told new (Appended bytes j k)) → OnOk result (KeepsDisk j told new)
OnOk-pages j k bytes (Ok x) told new appended = λ g gates log. HasSamePages-as g told new (SamePages-append g j k gates log bytes told new appended)
OnOk-pages j k bytes (Err e) told new appended = tt

-- ---- why it is refused
-- where there is room, only for a fault
pub IsFault-room : {D : Type 0} (n : ℕ) (old new : D) (j k : State) (result : Result Unit JournalFault) → IfErr result (λ e. AppendErr e n old new j k) → (IsErrOf result (log_full n j) ↔ IsLogFull n j) → filled j + n ≤ j.log.len
    → IfErr result (λ e. e ≡ Fault)
IsFault-room n old new j k (Ok x) refused full room = tt
IsFault-room n old new j k (Err Fault) refused full room = refl
IsFault-room n old new j k (Err (LogFull used need total)) refused full room =
    let over = (full.0 (ap (λ (e : JournalFault). Err e) refused.0)).over in
    let e = need_filled j n in absurd (omega arith)
IsFault-room n old new j k (Err (GatesFull used total)) refused full room = absurd refused
IsFault-room n old new j k (Err (BadChunk chunk offset)) refused full room = absurd refused
IsFault-room n old new j k (Err NoMemory) refused full room = absurd refused
