-- What reading calls before a changing one leave, and answers to finds.
use Rattle.std.proofs.Common.{◌≡◌, inl, inr, ℕ, ◌+◌, ◌-◌, ◌<◌, ◌≤◌, Bool, true, false, true≢false, List, [], ◌∷◌, ◌++◌, length, length-append, suc, All, Result, Ok, Err, IfErr, refl, sym, ap, subst, ◌∙◌, arith}
use Rattle.std.specs.Result.{IsErrAnd}
use Rattle.std.proofs.lemmas.List.Elements.{All-nil, All-cons, All-head, All-tail}
use Rattle.sb_value.specs.declared.value.Value.{Value}
use Rattle.sb_relation.specs.Db.{Db, Name}
use Rattle.sb_relation.specs.Keys.{is_record_key}
use Rattle.sb_ctx.specs.Pages.{Pages, ArePages}
use Rattle.sb_ctx.specs.View.{View, FoundIn, HoldsPart, IsClean, edits_of, keys_with, holds_fresh}
use Rattle.sb_ctx.specs.declared.instance.Instance.{Instance}
use Rattle.sb_ctx.specs.declared.calls.AttachCall.{AttachCall}
use Rattle.sb_ctx.specs.declared.moves.Move.{Move}
use Rattle.sb_ctx.specs.declared.moves.Move.TheVariants.{Find, Fresh}
use Rattle.sb_ctx.specs.Attachment.{Attachment}
use Rattle.sb_ctx.specs.AttachAnswers.{Answers, Spends}
use Rattle.sb_ctx.proofs.DrivingLaws.{FoundIn-nothing, FoundIn-with_found, HoldsPart-nothing, HoldsPart-with_found, IsClean-nothing, IsClean-with_found}
use Rattle.sb_drive.specs.declared.space.SpaceFault.{SpaceFault}
use Rattle.sb_drive.specs.declared.space.SpaceFault.TheVariants.{Fault, DataFull, TempFull, LogFull, GatesFull, Damaged, Down, NoMemory}
use Rattle.sb_drive.specs.AttachCalls.{CostsIn, IsAsking}
use Rattle.sb_drive.specs.Slots.{AreWhole, Slots, owned}
use Rattle.sb_drive.specs.Spaces.{HoldsOf, IsFullFor, IsReadFault, IsRefused, Leaves, UnlessDown, Wanted, WhereFull}
use Rattle.sb_drive.specs.Turns.{IsEnd}
use Rattle.sb_drive.proofs.SpacesLemmas.{ArePages-few, GoesOn, LeadsWithin-on}
use Rattle.sb_registry.specs.Runs.{IsFullOf, Looks, WasFull, Works}
use Rattle.sb_opened.specs.Lacking.{WhereShort}
use Rattle.sb_opened.proofs.CallsLemmas.{FailsOn, Works-passed}
use Rattle.sb_opened.proofs.LackingLemmas.{used_by}
use Rattle.sb_asking.specs.declared.calls.Answer.{Answer}
use Rattle.sb_asking.specs.Calls.{CostsOver, IsAsked, IsLast, LacksOver, found_of, knowing}

-- ---- a changing call behind reading ones
IsRefused-later : {A B C D : Type 0} (e : SpaceFault) → (A → C) → (B → D) → IsRefused A B e → IsRefused C D e
IsRefused-later (Damaged page) same fails is = same is
IsRefused-later NoMemory same fails (inl is) = inl (same is)
IsRefused-later NoMemory same fails (inr is) = inr (fails is)
IsRefused-later e same fails is = fails is

-- no change is made before it, and the space keeps the pages that it has
pub Works-later : {S T : Type 0} (Has : Wanted → Slots → S → Type 0) (Leads : ℕ → S → S → Type 0) (Fails : SpaceFault → S → S → Type 0) (Durable : S → Bool) (Total : S → ℕ) (owner : ℕ)
    (a b c : S) (r : Result T SpaceFault) → GoesOn Leads → FailsOn Leads Fails → Leads 0 a b → ((want : Wanted) (s : Slots) → Has want s a → Has want s b) →
    Works Has Leads Fails Durable Total owner b c r → Works Has Leads Fails Durable Total owner a c r
Works-later {S} {T} Has Leads Fails Durable Total owner a b c r goes_on fails_on first has works = record {
  others = then r works.others;
  leads = (0 + works.leads.0, goes_on 0 works.leads.0 a b c first works.leads.1);
  full = full r works.full;
  refused = refused r works.refused;
}
  where
    Left : S → Type 0
    Left old = (want : Wanted) (s : Slots) → Has want s old → Leaves Has owner want s c (λ after. Unit {0})

    then : (r : Result T SpaceFault) → UnlessDown r (Left b) → UnlessDown r (Left a)
    then (Ok x) left = λ want s there. left want s (has want s there)
    then (Err Fault) left = tt
    then (Err Down) left = tt
    then (Err e) left = λ want s there. left want s (has want s there)

    full : (r : Result T SpaceFault) → IfErr r (λ e. (want : Wanted) (s : Slots) → Has want s b → WasFull Leads Durable Total b e) → IfErr r (λ e. (want : Wanted) (s : Slots) → Has want s a → WasFull Leads Durable Total a e)
    full (Ok x) is = tt
    full (Err e) is = λ want s there. let at = is want s (has want s there) in record { space = at.space; leads = goes_on 0 0 a b at.space first at.leads; full = at.full }

    refused : (r : Result T SpaceFault) → IfErr r (λ e. IsRefused (Leads 0 b c) (Fails e b c) e) → IfErr r (λ e. IsRefused (Leads 0 a c) (Fails e a c) e)
    refused (Ok x) is = tt
    refused (Err e) is = IsRefused-later e (λ leads. goes_on 0 0 a b c first leads) (λ fails. fails_on e a b c first fails) is

IsFullOf-read : (durable : Bool) (total : ℕ) (e : SpaceFault) → IsReadFault e → IsFullOf durable total e
IsFullOf-read durable total (DataFull used of) is = absurd is
IsFullOf-read durable total (TempFull used of) is = absurd is
IsFullOf-read durable total e is = tt

-- a reading call that is refused
pub Works-looked : {S T : Type 0} (Has : Wanted → Slots → S → Type 0) (Leads : ℕ → S → S → Type 0) (Fails : SpaceFault → S → S → Type 0) (Durable : S → Bool) (Total : S → ℕ) (owner : ℕ)
    (old new : S) (e : SpaceFault) → Leads 0 old old → Looks {T = T} Has Leads Fails old new (Err e) → Works {T = T} Has Leads Fails Durable Total owner old new (Err e)
Works-looked {S} {T} Has Leads Fails Durable Total owner old new e stays looks = record {
  others = others e looks.same;
  leads = (0, looks.leads);
  full = λ want s has. record { space = old; leads = stays; full = IsFullOf-read (Durable old) (Total old) e looks.fault };
  refused = looks.refused;
}
  where
    left : ((want : Wanted) (s : Slots) → Has want s old → Has want s new) → (want : Wanted) (s : Slots) → Has want s old → Leaves Has owner want s new (λ after. Unit {0})
    left same want s has = record { slots = s; has = same want s has; others = λ o apart. refl; own = tt }

    others : (e : SpaceFault) → UnlessDown {T = T} (Err e) ((want : Wanted) (s : Slots) → Has want s old → Has want s new) →
        UnlessDown {T = T} (Err e) ((want : Wanted) (s : Slots) → Has want s old → Leaves Has owner want s new (λ after. Unit {0}))
    others Fault same = tt
    others Down same = tt
    others e same = left same

-- memory is wanting behind reading calls
pub Works-no_memory : {S T : Type 0} (Has : Wanted → Slots → S → Type 0) (Leads : ℕ → S → S → Type 0) (Fails : SpaceFault → S → S → Type 0) (Durable : S → Bool) (Total : S → ℕ) (owner : ℕ)
    (old new : S) (r : Result T SpaceFault) → IsErrAnd r (λ x. x ≡ NoMemory) → Leads 0 old old → Leads 0 old new → ((want : Wanted) (s : Slots) → Has want s old → Has want s new) →
    Works Has Leads Fails Durable Total owner old new r
Works-no_memory {S} {T} Has Leads Fails Durable Total owner old new r is stays leads has =
    Works-passed {T = T} Has Leads Fails Durable Total owner old new r NoMemory is
    (Works-looked {T = T} Has Leads Fails Durable Total owner old new NoMemory stays (record { same = has; leads = leads; fault = tt; refused = inl leads }))

-- ---- answers to finds
-- the keys of an answer are record keys
abbrev pub AreKeys : Answer → Type 0
AreKeys a = All (λ k. is_record_key k ≡ true) a.keys

-- they are those of the database
abbrev pub IsOver : Db → Answer → Type 0
IsOver db a = a.keys ≡ keys_with db a.relation a.columns a.values

pub length-knowing : (answers : List Answer) → length (knowing answers).found ≡ length answers
length-knowing [] = refl
length-knowing (a ∷ answers) = ap suc (length-knowing answers)

pub IsClean-knowing : (answers : List Answer) → All AreKeys answers → IsClean (knowing answers)
IsClean-knowing [] keys = IsClean-nothing
IsClean-knowing (a ∷ answers) keys = IsClean-with_found (knowing answers) (found_of a) (All-head AreKeys a answers keys) (IsClean-knowing answers (All-tail AreKeys a answers keys))

pub HoldsPart-knowing : (answers : List Answer) (P : Pages) → ArePages P → HoldsPart (knowing answers) P
HoldsPart-knowing [] P are = HoldsPart-nothing P are
HoldsPart-knowing (a ∷ answers) P are = HoldsPart-with_found (knowing answers) P (found_of a) (HoldsPart-knowing answers P are)

pub FoundIn-knowing : (answers : List Answer) (db : Db) → All (IsOver db) answers → FoundIn (knowing answers) db
FoundIn-knowing [] db over = FoundIn-nothing db
FoundIn-knowing (a ∷ answers) db over = FoundIn-with_found (knowing answers) db (found_of a) (All-head (IsOver db) a answers over) (FoundIn-knowing answers db (All-tail (IsOver db) a answers over))

-- what is so of all of them is so of all with one more
pub All-pushed : (P : Answer → Type 0) (old new : List Answer) (a : Answer) → new ≡ old ++ a ∷ [] → All P old → P a → All P new
All-pushed P old new a is all one = subst (All P) (sym is) (by old all)
  where
    by : (xs : List Answer) → All P xs → All P (xs ++ a ∷ [])
    by [] all = All-cons P a [] one (All-nil P)
    by (x ∷ xs) all = All-cons P x (xs ++ a ∷ []) (All-head P x xs all) (by xs (All-tail P x xs all))

-- ---- a call that knows them
-- its Ctx holds a part of all pages that the space has, and no fresh one
holds_fresh-knowing : (answers : List Answer) (n : ℕ) → holds_fresh (knowing answers) n ≡ false
holds_fresh-knowing [] n = refl
holds_fresh-knowing (a ∷ answers) n = holds_fresh-knowing answers n

pub HoldsOf-known : (answers : List Answer) (ctx : View) (s : Slots) (owner : ℕ) → ctx ≡ knowing answers → AreWhole s → ((n : ℕ) → 65536 ≤ n → (s n).0 ≡ 0) → HoldsOf s owner ctx
HoldsOf-known answers ctx s owner is whole few = subst (HoldsOf s owner) (sym is) (record {
  part = HoldsPart-knowing answers (owned s owner) (ArePages-few s owner whole few);
  free = λ n fresh. absurd (true≢false (sym fresh ∙ holds_fresh-knowing answers n));
})

pub IsClean-known : (answers : List Answer) (ctx : View) → ctx ≡ knowing answers → All AreKeys answers → IsClean ctx
IsClean-known answers ctx is keys = subst IsClean (sym is) (IsClean-knowing answers keys)

-- it asks for one find more only where fewer than eight are answered
pub few-known : (answers : List Answer) (ctx after : View) → ctx ≡ knowing answers → after.found ≡ ctx.found → length after.found < 8 → length answers < 8
few-known answers ctx after is same few = omega (arith, few, ap length same, ap (λ (c : View). length c.found) is, length-knowing answers)

-- with one more answer fewer finds are left
pub fewer-left : (old new : List Answer) (a : Answer) → new ≡ old ++ a ∷ [] → length old < 8 → 8 - length new < 8 - length old
fewer-left old new a is few = omega (arith, few, ap length is ∙ length-append old (a ∷ []))

-- what it answers is what it says over the database
pub IsAsked-known : (box : Attachment) (inst : Instance) (call : AttachCall) (answers : List Answer) (ctx : View) (db : Db) (P after : Pages) (move : Move) → ctx ≡ knowing answers → All (IsOver db) answers →
    Answers box inst call ctx P after move → IsAsked box inst call db P after move
IsAsked-known box inst call answers ctx db P after move is over says = record { view = ctx; found = subst (λ (c : View). FoundIn c db) (sym is) (FoundIn-knowing answers db over); answers = says }

-- no page was left for it
module _ {S : Type 0} (Leads : ℕ → S → S → Type 0) (Durable : S → Bool) (Total : S → ℕ) (box : Attachment) (inst : Instance) (call : AttachCall)
    (answers : List Answer) (ctx : View) (db : Db) (old : S) (s : Slots) (is : ctx ≡ knowing answers) (over : All (IsOver db) answers) where
  abbrev Full : SpaceFault → Type 0
  Full e = IsFullFor Leads Durable Total inst.owner (IsAsking box inst call ctx) (λ c. Spends box inst call ctx (owned s inst.owner) c Fresh) old s e

  lacks_of : (e : SpaceFault) (total : ℕ) (full : Full e) → ((m : ℕ) → m < total → (s m).0 ≡ 0 → holds_fresh full.ctx m ≡ true) → LacksOver box inst call db s total
  lacks_of e total full used = record {
    view = ctx;
    found = subst (λ (c : View). FoundIn c db) (sym is) (FoundIn-knowing answers db over);
    ctx = full.ctx;
    used = used;
    spends = full.within;
  }

  pub lacks_known : (e : SpaceFault) → WhereFull e (Full e) → WhereShort e (LacksOver box inst call db s)
  lacks_known (DataFull used total) full = lacks_of (DataFull used total) total full (used_by s full.ctx (Total full.space) used total full.full.1)
  lacks_known (TempFull used total) full = lacks_of (TempFull used total) total full (used_by s full.ctx (Total full.space) used total full.full.1)
  lacks_known Fault full = tt
  lacks_known (LogFull used more total) full = tt
  lacks_known (GatesFull used total) full = tt
  lacks_known (Damaged page) full = tt
  lacks_known Down full = tt
  lacks_known NoMemory full = tt

-- nor was more changed than it may spend
pub costs_known : {S : Type 0} (Has : Wanted → Slots → S → Type 0) (Leads : ℕ → S → S → Type 0) (box : Attachment) (inst : Instance) (call : AttachCall) (answers : List Answer) (ctx : View) (db : Db)
    (first old new : S) (want : Wanted) (s : Slots) → ctx ≡ knowing answers → All (IsOver db) answers → GoesOn Leads → Leads 0 first old → Has want s old → CostsIn Has Leads box inst call old new ctx
    → CostsOver Leads box inst call db s first new
costs_known Has Leads box inst call answers ctx db first old new want s is over goes_on leads has costs = record {
  view = ctx;
  found = subst (λ (c : View). FoundIn c db) (sym is) (FoundIn-knowing answers db over);
  ctx = costs.ctx;
  move = costs.move;
  leads = LeadsWithin-on Leads (edits_of costs.ctx) first old new goes_on leads costs.leads;
  spends = costs.spends want s has;
}

-- the end of a call that is no find
pub IsLast-end : (move : Move) → IsEnd move → ((relation : Name) (columns : List Name) (values : List Value) → move ≡ Find relation columns values → ⊥) → IsLast move
IsLast-end (Find relation columns values) end other = other relation columns values refl
IsLast-end move end other = end
