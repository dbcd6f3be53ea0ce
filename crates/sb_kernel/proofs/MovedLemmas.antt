-- The reply to a line, and the state to which it leads.
use Rattle.std.proofs.Common.{◌≡◌, ℕ, ◌==◌, Bool, false, inl, inr, ⊎_elim, is_some, Option, Some, None, List, [], ◌∷◌, ◌++◌, refl, sym, ap, ◌∙◌}
use Rattle.std.specs.List.{find}
use Rattle.std.proofs.lemmas.Bool.{true≢false}
use Rattle.sb_disk.specs.Moments.{LeavesOnly}
use Rattle.sb_disk.proofs.MomentLemmas.{weaker}
use Rattle.sb_images.specs.Images.{IsOldOrNew, Restores}
use Rattle.sb_log.specs.declared.geometry.Geometry.{Geometry}
use Rattle.sb_fold.specs.declared.refusal.Refusal.TheVariants.{Syntax}
use Rattle.sb_fold.specs.declared.refusal.Refusal.TheVariants as refusal
use Rattle.sb_fold.specs.declared.refusal.Room.TheVariants.{Data, Gates, Log, Temp}
use Rattle.sb_plain.specs.declared.command.Command.{Command}
use Rattle.sb_plain.specs.declared.reply.Reply.{Reply}
use Rattle.sb_plain.specs.declared.reply.Reply.TheVariants.{Refused}
use Rattle.sb_plain.specs.State.{State, committed}
use Rattle.sb_grammar.specs.Columns.{IsItem, Says, Bad}
use Rattle.sb_ctx.specs.Method.{Method}
use Rattle.sb_ctx.specs.Attachment.{Attachment}
use Rattle.sb_registry.specs.Boxes.{Meanings}
use Rattle.sb_drive.specs.Spaces.{Wanted}
use Rattle.sb_opening.specs.Place.{Place}
use Rattle.sb_opening.specs.Table.{table_len}
use Rattle.sb_execution.specs.Working.{extensions_of}
use Rattle.sb_posing.specs.Posing.{AreSingle}
use Rattle.sb_posing.proofs.PosedLemmas.{read-posed}
use Rattle.sb_vectors.specs.Vectors.{AreSameBoxes}
use Rattle.sb_opening.specs.Naming.{all_live}
use Rattle.sb_opening.specs.Session.{Session}
use Rattle.sb_opening.specs.Ends.{Ends}
use Rattle.sb_opening.specs.Sessions.{HasFailed, IsFor, IsNext, KeepsSession, Lacks, LeavesNext, LeavesOldOrNext, StandsBehind, WantsRoom, parts_of, sizes_of}
use Rattle.sb_opening.proofs.MoveLists.{found_more}
use Rattle.sb_opening.proofs.SameBoxes.{same-then}
use Rattle.sb_execution.specs.Serving.{IsPosedIn}
use Rattle.sb_kernel.specs.World.{World, IsNow}
use Rattle.sb_kernel.specs.Plays.{AreBoxesOf, MayWantRoom}
use Rattle.sb_kernel.specs.Crashes.{IsLeft, IsMade}
use Rattle.sb_kernel.specs.Answering.{HasMoved, HasReplied}
use Rattle.sb_kernel.proofs.PlayLemmas.{Comes, Ends-comes}
use Rattle.sb_kernel.specs.Keeping.{Keeps}
use Rattle.sb_kernel.proofs.KeepingLemmas.{Keeps-bad}
use Rattle.sb_kernel.proofs.HeldLemmas.{Holds-last, Holds-restored, leaves-still}

-- ---- boxes of which some are live
none_first : {A : Type 0} (p : A → Bool) (xs ys : List A) → is_some (find p (xs ++ ys)) ≡ false → is_some (find p xs) ≡ false
none_first {A} p xs ys none = by (find p xs) refl
  where
    by : (o : Option A) → find p xs ≡ o → is_some (find p xs) ≡ false
    by None is = ap (λ (o : Option A). is_some o) is
    by (Some a) is = absurd (true≢false (sym (ap (λ (o : Option A). is_some o) (found_more p xs ys a is)) ∙ none))

pub AreSingle-live : (m n : Meanings) → AreSameBoxes m n → AreSingle (all_live m) → AreSingle n
AreSingle-live m n same single = record {
  outlive = λ code box is. single.outlive code box (sym (same.methods code) ∙ found_more (λ (a : Method). a.rules.code == code) n.methods n.spare_methods box is);
  no_temp = none_first (λ (a : Method). a.rules.code == 3) n.methods n.spare_methods (ap (λ (o : Option Method). is_some o) (same.methods 3) ∙ single.no_temp);
  no_joins = none_first (λ (a : Attachment). a.rules.code == 3) n.attachments n.spare_attachments
      (ap (λ (o : Option Attachment). is_some o) (same.attachments 3) ∙ single.no_joins);
  no_references = none_first (λ (a : Attachment). a.rules.code == 6) n.attachments n.spare_attachments
      (ap (λ (o : Option Attachment). is_some o) (same.attachments 6) ∙ single.no_references);
}

-- ---- a bad line
pub HasReplied-bad : {B D : Type 0} (w : World B D) (line : List ℕ) (column : ℕ) (d : D) (x : Session B) → x.down ≡ false → IsItem line (Bad column)
    → HasReplied w line d d x x (Refused (Syntax column))
HasReplied-bad w line column d x up is = record {
  item = Bad column;
  is_item = is;
  bad = refl;
  keeps = Keeps-bad w column (Refused (Syntax column)) d x;
  moves = λ m s now single. record {
    state = s;
    moves = record {
      boxes = w.meanings x.boxes;
      are = record { same = now.same; live = now.stands.is.live; spare = now.stands.is.spare };
      moves = (refl, refl);
      room = tt;
    };
    now = now;
    leaves = leaves-still w m d x s now (sym now.stands.is.down ∙ up);
  };
}

-- ---- want of room
may_want : (m : Meanings) (g : Geometry) (IsSo : State → Type 0) (Failed : Type 0) (s : State) (c : Command) (reply : Reply)
    → Ends IsSo (Lacks g) Failed (extensions_of m) s c reply → WantsRoom m g.pages s c reply → MayWantRoom m g s (Says c) reply
may_want m g IsSo Failed s c (Refused (refusal.Room (Data used total))) ends wants =
    record { wants = ends.cause.1; picks = wants.0; lacks = (ends.cause.0.0, ends.cause.0.1, wants.1) }
may_want m g IsSo Failed s c (Refused (refusal.Room (Log used more total))) ends wants =
    record { wants = ends.cause.1; picks = wants.0; lacks = (ends.cause.0.2, ends.cause.0.1, wants.1) }
may_want m g IsSo Failed s c (Refused (refusal.Room (Gates used total))) ends wants =
    record { wants = ends.cause.1; picks = wants.0; lacks = (ends.cause.0.0, ends.cause.0.1, wants.1) }
may_want m g IsSo Failed s c (Refused (refusal.Room (Temp used total))) ends wants = absurd ends.cause.0
may_want m g IsSo Failed s c reply ends wants = tt

-- ---- a command
module _ {B D : Type 0} (w : World B D) (c : Command) (old new : D) (x y : Session B) (reply : Reply) (up : x.down ≡ false)
    (ends : (want : Wanted) (s : State) → IsFor w.meanings w.told w.len want s old x → IsPosedIn (w.meanings x.boxes) s c
    → Ends (StandsBehind w.meanings w.told w.len want (extensions_of (w.meanings x.boxes)) s c old new x y) (Lacks (sizes_of x)) (HasFailed w.faults old new) (extensions_of (w.meanings x.boxes)) s c reply)
    (room : (want : Wanted) (s : State) → IsFor w.meanings w.told w.len want s old x → IsPosedIn (w.meanings x.boxes) s c → WantsRoom (w.meanings x.boxes) (sizes_of x).pages s c reply)
    (same : AreSameBoxes (w.meanings x.boxes) (w.meanings y.boxes)) (keeps : KeepsSession w.len w.faults old new x y reply)
    (kept : Keeps w (Says c ∷ []) (reply ∷ []) old new x y) where
  abbrev n : Meanings
  n = w.meanings x.boxes

  abbrev g : Geometry
  g = x.space.store.pool.geometry

  made_next : (m : Meanings) (s : State) (are : AreBoxesOf m s n) (t next : State) → IsNext (extensions_of n) s c t next → IsMade m s c t (committed next)
  made_next m s are t next (inl same) = inl (ap (λ (u : State). committed u) same)
  made_next m s are t next (inr failed) = inr (
    failed.0,
    record { boxes = n; are = are; reply = failed.1.reply; after = next; steps = failed.1.steps; is = refl },
  )

  -- what is committed next is held then
  next_left : (m : Meanings) (s : State) (now : IsNow w m old x s) (are : AreBoxesOf m s n) (want : Wanted) → IsFor w.meanings w.told w.len want s old x → s.down ≡ false → (t : State)
      → (next : LeavesNext n x.place.root want (extensions_of n) s c t (parts_of w.told w.len old x) (parts_of w.told w.len new y))
      → (image : List ℕ) → IsOldOrNew g want next.pages image → IsLeft m s (Says c) t image
  next_left m s now are want for up t next image left = ⊎_elim
      (λ (restores : Restores g want image). inl (Holds-last w m old x s now up want for image restores))
      (λ (restores : Restores g next.pages image). inr (record {
        db = committed next.next;
        made = made_next m s are t next.next next.is;
        holds = Holds-restored m n g x.place.root next.pages (committed next.next) now.same now.root next.commits image restores;
      }))
      left

  moments_left : (m : Meanings) (s : State) (now : IsNow w m old x s) (are : AreBoxesOf m s n) (want : Wanted) → IsFor w.meanings w.told w.len want s old x → s.down ≡ false → (t : State)
      → LeavesOldOrNext n x.place.root want (extensions_of n) s c t (parts_of w.told w.len old x) (parts_of w.told w.len new y)
      → LeavesOnly (w.told old) (w.told new) (IsLeft m s (Says c) t)
  moments_left m s now are want for up t (inl still) =
      weaker (w.told old) (w.told new) (Restores g want) (IsLeft m s (Says c) t) (λ image restores. inl (Holds-last w m old x s now up want for image restores)) still
  moments_left m s now are want for up t (inr next) =
      weaker (w.told old) (w.told new) (IsOldOrNew g want next.pages) (IsLeft m s (Says c) t) (next_left m s now are want for up t next) next.leaves

  moved : (line : List ℕ) → IsItem line (Says c) → (m : Meanings) (s : State) → IsNow w m old x s → AreSingle (all_live m) → HasMoved w m (sizes_of x) s (Says c) reply old new y
  moved line item m s now single =
      let want = now.stands.want in
      let for = now.stands.is in
      let are : AreBoxesOf m s n = record { same = now.same; live = for.live; spare = for.spare } in
      let posed : IsPosedIn n s c = read-posed n s line c (AreSingle-live m n now.same single) for.live item in
      let Behind : State → Type 0 = StandsBehind w.meanings w.told w.len want (extensions_of n) s c old new x y in
      let comes : Comes Behind (Lacks (sizes_of x)) (HasFailed w.faults old new) (extensions_of n) s c reply =
      Ends-comes Behind (Lacks (sizes_of x)) (HasFailed w.faults old new) (extensions_of n) s c reply (ends want s for posed) in
      record {
        state = comes.state;
        moves = record { boxes = n; are = are; moves = comes.ends; room = may_want n (sizes_of x) Behind (HasFailed w.faults old new) s c reply (ends want s for posed) (room want s for posed) };
        now = record {
          same = same-then m n (w.meanings y.boxes) now.same same;
          root = ap (λ (p : Place). p.root) keeps.place ∙ now.root ∙ ap (λ (h : Geometry). table_len h.pages) (sym keeps.geometry);
          stands = comes.stands.stands;
        };
        leaves = moments_left m s now are want for (sym for.down ∙ up) comes.state (comes.stands.leaves (sym for.down ∙ up));
      }

  pub HasReplied-command : (line : List ℕ) → IsItem line (Says c) → HasReplied w line old new x y reply
  HasReplied-command line item = record { item = Says c; is_item = item; bad = tt; keeps = kept; moves = moved line item }
