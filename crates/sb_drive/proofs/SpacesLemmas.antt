-- What calls over a space leave, whatever the space is.
use Rattle.std.proofs.Common.{◌≡◌, inr, ℕ, ◌+◌, ◌≤◌, Bool, Result, Ok, Err, IfErr, IfOk, refl, sym, subst, arith}
use Rattle.std.specs.Result.{IsErrAnd}
use Rattle.sb_ctx.specs.Pages.{Pages, ArePages}
use Rattle.sb_drive.specs.declared.space.SpaceFault.{SpaceFault}
use Rattle.sb_ctx.specs.View.{View, dropped}
use Rattle.sb_drive.specs.declared.space.SpaceFault.TheVariants.{Fault, DataFull, TempFull, Damaged, Down, NoMemory}
use Rattle.sb_drive.specs.declared.turns.Ask.{Ask}
use Rattle.sb_drive.specs.declared.turns.Ask.TheVariants.{Page, Fresh, After}
use Rattle.sb_drive.specs.Slots.{AreWhole, Slots, owned}
use Rattle.sb_drive.specs.Spaces.{HoldsOf, IsFull, IsFullFor, IsRefused, IsStoreFault, Leaves, LeadsWithin, UnlessDown, Wanted, WhereFull}
use Rattle.sb_drive.proofs.OwnedLemmas.{bytes_for-free}
use Rattle.sb_drive.proofs.WholeLemmas.{bytes_for-whole}

-- each owner's pages are pages
pub ArePages-few : (s : Slots) (owner : ℕ) → AreWhole s → ((n : ℕ) → 65536 ≤ n → (s n).0 ≡ 0) → ArePages (owned s owner)
ArePages-few s owner whole few = record {
  below = λ n far. bytes_for-free owner (s n) (few n far);
  whole = λ n some. bytes_for-whole owner (s n) (whole n) some;
}

-- ---- what is left
pub Leaves-so : {S : Type 0} (Has : Wanted → Slots → S → Type 0) (owner : ℕ) (want : Wanted) (s : Slots) (new : S) (IsSo IsThen : Pages → Type 0) → ((after : Pages) → IsSo after → IsThen after) → Leaves Has owner want s new IsSo → Leaves Has owner want s new IsThen
Leaves-so Has owner want s new IsSo IsThen then left = record { slots = left.slots; has = left.has; others = left.others; own = then (owned left.slots owner) left.own }

-- ---- how many changes are made
-- what a space says of calls that follow one another
abbrev pub GoesOn : {S : Type 0} → (ℕ → S → S → Type 0) → Type 0
GoesOn {S} Leads = (k l : ℕ) (a b c : S) → Leads k a b → Leads l b c → Leads (k + l) a c

pub LeadsWithin-none : {S : Type 0} (Leads : ℕ → S → S → Type 0) (most : ℕ) (old new : S) → Leads 0 old new → LeadsWithin Leads most old new
LeadsWithin-none Leads most old new leads = record { changes = 0; within = omega arith; leads = leads }

pub LeadsWithin-zero : {S : Type 0} (Leads : ℕ → S → S → Type 0) (most : ℕ) (old new : S) → most ≡ 0 → LeadsWithin Leads most old new → Leads 0 old new
LeadsWithin-zero Leads most old new none within =
    let same : within.changes ≡ 0 = omega (arith, within.within, none) in
    subst (λ k. Leads k old new) same within.leads

pub LeadsWithin-more : {S : Type 0} (Leads : ℕ → S → S → Type 0) (few most : ℕ) (old new : S) → few ≤ most → LeadsWithin Leads few old new → LeadsWithin Leads most old new
LeadsWithin-more Leads few most old new le within = record { changes = within.changes; within = omega (arith, le, within.within); leads = within.leads }

-- where none is made first
pub LeadsWithin-on : {S : Type 0} (Leads : ℕ → S → S → Type 0) (most : ℕ) (a b c : S) → GoesOn Leads → Leads 0 a b → LeadsWithin Leads most b c → LeadsWithin Leads most a c
LeadsWithin-on Leads most a b c goes_on first then =
    let sum : 0 + then.changes ≡ then.changes = omega arith in
    record { changes = then.changes; within = then.within; leads = subst (λ k. Leads k a c) sum (goes_on 0 then.changes a b c first then.leads) }

-- ---- refusals
pub IsRefused-store : (Same Fails : Type 0) (e : SpaceFault) → IsStoreFault e → Fails → IsRefused Same Fails e
IsRefused-store Same Fails (Damaged n) is fails = absurd is
IsRefused-store Same Fails NoMemory is fails = inr fails
IsRefused-store Same Fails e is fails = fails

-- no page is wanting but where a fresh one is asked for
pub WhereFull-asked : {S : Type 0} (Leads : ℕ → S → S → Type 0) (durable : S → Bool) (total : S → ℕ) (owner : ℕ) (Asks IsWithin : View → Type 0) (old space : S) (s : Slots) (c : View) (ask : Ask) (e : SpaceFault) → Leads 0 old space →
    HoldsOf s owner (dropped c) → (ask ≡ Fresh → Asks c) → (ask ≡ Fresh → IsWithin c) → IsFull (durable space) (total space) s (dropped c) ask e → WhereFull e (IsFullFor Leads durable total owner Asks IsWithin old s e)
WhereFull-asked Leads durable total owner Asks IsWithin old space s c ask e leads holds asks within full = by ask e asks within full
  where
    so : (e : SpaceFault) → Asks c → IsWithin c → IsFull (durable space) (total space) s (dropped c) Fresh e → IsFullFor Leads durable total owner Asks IsWithin old s e
    so e asks within full = record { space = space; ctx = c; leads = leads; holds = holds; asks = asks; within = within; full = full }

    by : (ask : Ask) (e : SpaceFault) → (ask ≡ Fresh → Asks c) → (ask ≡ Fresh → IsWithin c) → IsFull (durable space) (total space) s (dropped c) ask e → WhereFull e (IsFullFor Leads durable total owner Asks IsWithin old s e)
    by Fresh (DataFull used of) asks within full = so (DataFull used of) (asks refl) (within refl) full
    by Fresh (TempFull used of) asks within full = so (TempFull used of) (asks refl) (within refl) full
    by Fresh e asks within full = tt
    by (Page n) (DataFull used of) asks within full = absurd full
    by (Page n) (TempFull used of) asks within full = absurd full
    by (Page n) e asks within full = tt
    by (After low) (DataFull used of) asks within full = absurd full
    by (After low) (TempFull used of) asks within full = absurd full
    by (After low) e asks within full = tt

-- what was within one room is within another
pub WhereFull-within : {S : Type 0} (Leads : ℕ → S → S → Type 0) (durable : S → Bool) (total : S → ℕ) (owner : ℕ) (Asks IsWithin IsThen : View → Type 0) (old : S) (s : Slots) (e : SpaceFault) → ((c : View) → IsWithin c → IsThen c) →
    WhereFull e (IsFullFor Leads durable total owner Asks IsWithin old s e) → WhereFull e (IsFullFor Leads durable total owner Asks IsThen old s e)
WhereFull-within Leads durable total owner Asks IsWithin IsThen old s e then full = by e full
  where
    so : (e : SpaceFault) → IsFullFor Leads durable total owner Asks IsWithin old s e → IsFullFor Leads durable total owner Asks IsThen old s e
    so e full = record { space = full.space; ctx = full.ctx; leads = full.leads; holds = full.holds; asks = full.asks; within = then full.ctx full.within; full = full.full }

    by : (e : SpaceFault) → WhereFull e (IsFullFor Leads durable total owner Asks IsWithin old s e) → WhereFull e (IsFullFor Leads durable total owner Asks IsThen old s e)
    by (DataFull used of) full = so (DataFull used of) full
    by (TempFull used of) full = so (TempFull used of) full
    by e full = tt

-- ---- what is left unless a call on the disk has failed
UnlessDown-err : (T U : Type 0) (e : SpaceFault) (A B : Type 0) → (A → B) → UnlessDown {T = T} (Err e) A → UnlessDown {T = U} (Err e) B
UnlessDown-err T U Fault A B then left = tt
UnlessDown-err T U Down A B then left = tt
UnlessDown-err T U e A B then left = then left

pub UnlessDown-so : {T : Type 0} (r : Result T SpaceFault) (A : Type 0) → A → UnlessDown r A
UnlessDown-so (Ok done) A so = so
UnlessDown-so (Err Fault) A so = tt
UnlessDown-so (Err Down) A so = tt
UnlessDown-so (Err e) A so = so

-- the same fault is passed on
pub UnlessDown-passed : (T U : Type 0) (r : Result U SpaceFault) (e : SpaceFault) (A B : Type 0) → IsErrAnd r (λ x. x ≡ e) → (A → B) → UnlessDown {T = T} (Err e) A → UnlessDown r B
UnlessDown-passed T U (Err x) e A B is then left = UnlessDown-err T U x A B then (subst (λ y. UnlessDown {T = T} (Err y) A) (sym is) left)
UnlessDown-passed T U (Ok x) e A B is then left = absurd is

pub IfErr-passed : {U : Type 0} (r : Result U SpaceFault) (e : SpaceFault) (P : SpaceFault → Type 0) → IsErrAnd r (λ x. x ≡ e) → P e → IfErr r P
IfErr-passed (Err x) e P is so = subst P (sym is) so
IfErr-passed (Ok x) e P is so = tt

-- a call that was refused came to no end
pub IfOk-passed : {U : Type 0} (r : Result U SpaceFault) (e : SpaceFault) (P : U → Type 0) → IsErrAnd r (λ x. x ≡ e) → IfOk r P
IfOk-passed (Err x) e P is = tt
IfOk-passed (Ok x) e P is = absurd is
