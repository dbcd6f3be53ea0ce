-- Plays that begin, go on by one item, and are over.
use Rattle.std.proofs.Common.{◌≡◌, ℕ, ◌≤◌, Bool, true, false, is_some, Option, List, [], ◌∷◌, ◌++◌, refl, sym, ◌∙◌, subst, arith}
use Rattle.std.proofs.lemmas.Bool.{false≢true}
use Rattle.sb_disk.specs.Causes.{Rose}
use Rattle.sb_disk.specs.Disk.{Fits}
use Rattle.sb_disk.specs.Moments.{moment}
use Rattle.sb_disk.proofs.CauseLemmas.{Rose-before, Rose-later}
use Rattle.sb_plain.specs.declared.reply.Reply.{Reply}
use Rattle.sb_plain.specs.State.{State, committed}
use Rattle.sb_grammar.specs.Columns.{Item}
use Rattle.sb_registry.specs.Boxes.{Meanings}
use Rattle.sb_opening.specs.Session.{Session}
use Rattle.sb_log.specs.declared.geometry.Geometry.{Geometry}
use Rattle.sb_opening.specs.Sessions.{sizes_of}
use Rattle.sb_kernel.specs.World.{World, At, IsNow, at}
use Rattle.sb_kernel.specs.Plays.{MovesBy, last_state}
use Rattle.sb_kernel.specs.Crashes.{HoldsDatabase, IsLeft}
use Rattle.sb_kernel.specs.Answering.{Closes, HasReplied}
use Rattle.sb_kernel.specs.Runs.{AreInOrder, HasPlayed, HasPlayedOut, PlaysOn, PlaysOut}
use Rattle.sb_kernel.proofs.PlayLemmas.{MovesBy-since, Plays-more, Plays-since, last-more}
use Rattle.sb_kernel.proofs.CrashLemmas.{BeginsAt-more, GoesOn-then, LeavesAlong-closed, LeavesAlong-more, clock-moment}

-- before the first item
pub HasPlayed-none : {B D : Type 0} (w : World B D) (m : Meanings) (disk : D) (x : Session B) (s : State) (held : Option (List ℕ)) → IsNow w m disk x s → HasPlayed w m (sizes_of x) disk s [] [] (at disk x held [])
HasPlayed-none w m disk x s held now = record {
  states = [];
  sizes = refl;
  plays = tt;
  now = now;
  on = record { tells = refl; later = omega arith; before = λ t image early left. left };
  begins = λ told. (refl, tt);
  leaves = tt;
}

-- whatever the sink holds
pub PlaysOn-held : {B D : Type 0} (w : World B D) (m : Meanings) (items : List Item) (replies : List Reply) (first : At B D) (disk : D) (x : Session B) (held held' : Option (List ℕ)) (starts : List ℕ) → PlaysOn w m items replies first (at disk x held starts) → PlaysOn w m items replies first (at disk x held' starts)
PlaysOn-held w m items replies first disk x held held' starts plays s now single =
    let played = plays s now single in
    record { states = played.states; sizes = played.sizes; plays = played.plays; now = played.now; on = played.on; begins = played.begins; leaves = played.leaves }

-- behind one item more
pub PlaysOn-more : {B D : Type 0} (w : World B D) (fits : (d : D) → Fits (w.len d) (w.clock d) (w.told d)) (m : Meanings) (items : List Item) (replies : List Reply) (first : At B D) (disk new : D) (x y : Session B) (held held' : Option (List ℕ)) (starts : List ℕ) (line : List ℕ) (reply : Reply)
    → w.faults first.disk ≤ w.faults disk → w.faults disk ≤ w.faults new → PlaysOn w m items replies first (at disk x held starts) → (r : HasReplied w line disk new x y reply)
    → PlaysOn w m (items ++ r.item ∷ []) (replies ++ reply ∷ []) first (at new y held' (starts ++ w.clock disk ∷ []))
PlaysOn-more w fits m items replies first disk new x y held held' starts line reply before later plays r s now single =
    let played = plays s now single in
    let last : State = last_state s played.states in
    let moved = r.moves m last played.now single in
    let g : Geometry = sizes_of first.session in
    let clock : is_some (w.told disk) ≡ true → w.clock disk ≡ moment (w.told disk) = clock-moment (w.len disk) (w.clock disk) (w.told disk) (fits disk) in
    let order : is_some (w.told disk) ≡ true → AreInOrder starts (moment (w.told disk)) = λ told. (played.begins (played.on.tells ∙ told)).1 in
    let HasFailed : Type 0 = Rose (w.faults first.disk) (w.faults new) in
    record {
      states = played.states ++ moved.state ∷ [];
      sizes = r.keeps.sizes ∙ played.sizes;
      plays = Plays-more m g HasFailed s items replies played.states r.item reply moved.state
          (Plays-since m g (Rose (w.faults first.disk) (w.faults disk)) HasFailed
          (λ rose. Rose-before (w.faults first.disk) (w.faults disk) (w.faults new) rose later) s items replies played.states played.plays)
          (MovesBy-since m g (Rose (w.faults disk) (w.faults new)) HasFailed
          (λ rose. Rose-later (w.faults first.disk) (w.faults disk) (w.faults new) before rose) last r.item reply moved.state
          (subst (λ (h : Geometry). MovesBy m h (Rose (w.faults disk) (w.faults new)) last r.item reply moved.state) played.sizes moved.moves));
      now = subst (λ (t : State). IsNow w m new y t) (sym (last-more s played.states moved.state)) moved.now;
      on = GoesOn-then (w.told first.disk) (w.told disk) (w.told new) (IsLeft m last r.item moved.state) played.on moved.leaves;
      begins = BeginsAt-more (w.told first.disk) (w.told disk) starts (w.clock disk) (moment (w.told new)) played.on.tells clock moved.leaves.later played.begins;
      leaves = LeavesAlong-more m (w.told disk) (w.told new) (w.clock disk) r.item moved.state clock s items played.states starts order moved.leaves played.leaves;
    }

-- once the session is closed, by whether it is down
module _ {B D : Type 0} (w : World B D) (m : Meanings) (g : Geometry) (items : List Item) (replies : List Reply) (first : D) (disk new : D) (x : Session B) (held : Option (List ℕ)) (starts : List ℕ)
    (s : State) (played : HasPlayed w m g first s items replies (at disk x held starts)) (closes : Closes w disk new x) where
  abbrev last : State
  last = last_state s played.states

  order : is_some (w.told disk) ≡ true → AreInOrder starts (moment (w.told disk))
  order told = (played.begins (played.on.tells ∙ told)).1

  closed : (b : Bool) → last.down ≡ b → HasPlayedOut w.told w.faults m g first s items replies starts new
  closed false up =
      let run = closes.leaves m last played.now up in
      record {
        states = played.states;
        plays = Plays-since m g (Rose (w.faults first) (w.faults disk)) (Rose (w.faults first) (w.faults new))
            (λ rose. Rose-before (w.faults first) (w.faults disk) (w.faults new) rose closes.later) s items replies played.states played.plays;
        until = moment (w.told disk);
        within = run.later;
        on = GoesOn-then (w.told first) (w.told disk) (w.told new) (λ image. HoldsDatabase m image (committed last)) played.on run;
        begins = played.begins;
        leaves = LeavesAlong-closed m g (Rose (w.faults first) (w.faults disk)) (w.told disk) (w.told new) s items replies played.states starts order
            played.plays run played.leaves;
        last = λ still t image late left. run.since t image late left;
        end = λ down. absurd (false≢true (sym up ∙ down));
      }
  closed true down =
      subst (λ (d : D). HasPlayedOut w.told w.faults m g first s items replies starts d) (sym (closes.ended (played.now.stands.is.down ∙ down)))
      (record {
        states = played.states;
        plays = played.plays;
        until = moment (w.told disk);
        within = omega arith;
        on = played.on;
        begins = played.begins;
        leaves = played.leaves;
        last = λ up t image late left. absurd (false≢true (sym up ∙ down));
        end = λ is. refl;
      })

pub PlaysOut-closed : {B D : Type 0} (w : World B D) (m : Meanings) (items : List Item) (replies : List Reply) (first : At B D) (disk new : D) (x y : Session B) (held held' : Option (List ℕ)) (starts : List ℕ)
    → PlaysOn w m items replies first (at disk x held starts) → Closes w disk new x → PlaysOut w m items replies first (at new y held' starts)
PlaysOut-closed w m items replies first disk new x y held held' starts plays closes s now single =
    let played = plays s now single in
    closed w m (sizes_of first.session) items replies first.disk disk new x held starts s played closes (last_state s played.states).down refl
