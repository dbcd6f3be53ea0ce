-- What a driver makes of a call that keeps its promise.
use Rattle.std.proofs.Common.{◌≡◌, ◌⊎◌, ℕ, true, Result, IfOk, IfErr, refl, sym, subst, ◌∙◌}
use Rattle.sb_ctx.specs.Pages.{Pages}
use Rattle.sb_ctx.specs.declared.moves.Move.{Move}
use Rattle.sb_ctx.specs.declared.moves.Move.TheVariants.{Need, Fresh, After, Find, Broken, NoMemory}
use Rattle.sb_ctx.specs.AttachAnswers.{AsksFor}
use Rattle.sb_ctx.specs.Sized.{IsCtx}
use Rattle.sb_ctx.specs.View.{View, IsClean, dropped, edits_of}
use Rattle.sb_drive.specs.declared.space.SpaceFault.{SpaceFault}
use Rattle.sb_drive.specs.declared.space.SpaceFault.TheVariants as fault
use Rattle.sb_drive.specs.declared.turns.Turn.TheVariants.{Stop}
use Rattle.sb_drive.specs.AttachCalls.{HandsUpIn}
use Rattle.sb_drive.specs.Promises.{Promise, KeepsPromise, HasBoxCause, StoresEnd, CostsAsPromised}
use Rattle.sb_drive.specs.Slots.{Slots, owned}
use Rattle.sb_drive.specs.Spaces.{HoldsOf, LeadsWithin, Leaves, Wanted}
use Rattle.sb_drive.specs.Turns.{turn_of, is_find, OnFind}

-- it stops at Damaged only where the box called that page broken
pub HasBoxCause-stop : (p : Promise) (P : Pages) (move : Move) (e : SpaceFault) → turn_of move ≡ Stop e → ((n : ℕ) → move ≡ Broken n → p.IsDamaged P n) → HasBoxCause p P e
HasBoxCause-stop p P (Need n) e is broken = cc
HasBoxCause-stop p P Fresh e is broken = cc
HasBoxCause-stop p P (After low) e is broken = cc
HasBoxCause-stop p P (Broken n) e is broken = let same : fault.Damaged n ≡ e = cc in subst (λ (x : SpaceFault). HasBoxCause p P x) same (broken n refl)
HasBoxCause-stop p P NoMemory e is broken = let same : fault.NoMemory ≡ e = cc in subst (λ (x : SpaceFault). HasBoxCause p P x) same tt
HasBoxCause-stop p P move e is broken = cc

-- the end of a call, once its edits are stored
pub Answers-end : (p : Promise) (P stored after : Pages) (move end : Move) → move ≡ end → after ≡ stored → p.Answers P stored move → p.Answers P after end
Answers-end p P stored after move end is same answers = subst (λ (Q : Pages). p.Answers P Q end) (sym same) (subst (λ (e : Move). p.Answers P stored e) is answers)

-- and a find, with which nothing is stored
pub Leaves-find : {S : Type 0} (Has : Wanted → Slots → S → Type 0) (owner : ℕ) (want : Wanted) (s : Slots) (space : S) (p : Promise) (old c : View) (move end : Move) → move ≡ end → is_find end ≡ true → KeepsPromise p old c move →
    Has want s space → Leaves Has owner want s space (λ after. p.Answers (owned s owner) after end)
Leaves-find Has owner want s space p old c move end is find keeps has = record {
  slots = s;
  has = has;
  others = λ o other. refl;
  own =
      let P = owned s owner in
      let found : is_find move ≡ true = subst (λ (e : Move). is_find e ≡ true) (sym is) find in
      subst (λ (e : Move). p.Answers P P e) is (keeps.find P P found);
}

-- its Ctx may be given the answer, once what the call made is dropped
pub OnFind-handed : {S : Type 0} (Has : Wanted → Slots → S → Type 0) (Leads : ℕ → S → S → Type 0) (owner : ℕ) (before after : S) (p : Promise) (old c new : View) (move end : Move) → move ≡ end → KeepsPromise p old c move →
    new ≡ dropped c → IsClean old → Leads 0 before after → ((want : Wanted) (s : Slots) → Has want s before → Has want s after) → ((want : Wanted) (s : Slots) → Has want s before → HoldsOf s owner old) →
    OnFind end (HandsUpIn Has Leads owner before after new end)
OnFind-handed Has Leads owner before after p old c new move end is keeps without clean leads has holds =
    subst (λ (e : Move). OnFind e (HandsUpIn Has Leads owner before after new e)) is (by move keeps.asks)
  where
    same : new ≡ old
    same = without ∙ keeps.given

    by : (to : Move) → AsksFor c to → OnFind to (HandsUpIn Has Leads owner before after new to)
    by (Find relation columns values) asks = record {
      same = leads;
      clean = subst (λ (v : View). IsClean v) (sym same) clean;
      has = has;
      holds = λ want s had. subst (λ (v : View). HoldsOf s owner v) (sym same) (holds want s had);
      asks = subst (λ (v : View). AsksFor v (Find relation columns values)) (sym without) asks;
    }
    by to asks = tt

-- a call makes no more changes than it promises
pub CostsAsPromised-made : {S : Type 0} (Has : Wanted → Slots → S → Type 0) (Leads : ℕ → S → S → Type 0) (owner : ℕ) (p : Promise) (before after : S) (result : Result Move SpaceFault) (old c : View) (move : Move) → IsCtx c → KeepsPromise p old c move →
    ((want : Wanted) (s : Slots) → Has want s before → HoldsOf s owner old) → LeadsWithin Leads (edits_of c) before after → IfOk result (λ end. move ≡ end)
    → IfErr result (λ e. Leads 0 before after ⊎ StoresEnd Has owner p before c move) → CostsAsPromised Has Leads owner p before after result
CostsAsPromised-made Has Leads owner p before after result old c move is_ctx keeps holds leads ends refused = record {
  ctx = c;
  move = move;
  ends = ends;
  refused = refused;
  leads = leads;
  spends = λ want s has. keeps.spends is_ctx (owned s owner) (holds want s has).part;
}
