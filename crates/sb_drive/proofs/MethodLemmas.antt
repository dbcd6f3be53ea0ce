-- One call of a storage method, and what it promises to its driver.
use Rattle.std.proofs.Common.{◌≡◌, ◌⊎◌, ⊎_elim, inl, inr, ℕ, ◌≤◌, true, Option, Some, None, Result, Ok, Err, length, refl, sym, ap, subst, ◌∙◌, arith}
use Rattle.sb_ctx.specs.Db.{Key, Row, Rows, row_at, with_row, without_row}
use Rattle.sb_ctx.specs.Keys.{NewKeys, AnyOf, Just, Taken, NoGreater, keying_of, new_keys}
use Rattle.sb_ctx.specs.Pages.{Pages}
use Rattle.sb_ctx.specs.declared.instance.Instance.{Instance}
use Rattle.sb_ctx.specs.declared.calls.MethodCall.{MethodCall}
use Rattle.sb_ctx.specs.declared.calls.MethodCall.TheVariants as call
use Rattle.sb_ctx.specs.declared.moves.Move.{Move}
use Rattle.sb_ctx.specs.declared.moves.Move.TheVariants.{Need, Fresh, After, Find, Duplicate, Range, NoRecord, Broken, NoMemory}
use Rattle.sb_ctx.specs.AttachAnswers.{AsksFor as AsksForAny}
use Rattle.sb_ctx.specs.Method.{Method, code_of}
use Rattle.sb_ctx.specs.MethodAnswers.{Answers, AsksFor, Before, Changes, Ends, Gets, GetsKey, HasRoom, Holds, IsBroken, IsGiven, Looks, MayEnd, Reads, TakesFor, Updated, cost_of, most_pages}
use Rattle.sb_ctx.specs.View.{View, given_at, dropped, edits_of, stored, IsClean}
use Rattle.sb_ctx.proofs.PageLaws.{AreSomeOf-given}
use Rattle.sb_ctx.proofs.ViewLaws.{stored-clean}
use Rattle.sb_drive.specs.declared.space.SpaceFault.{SpaceFault}
use Rattle.sb_drive.specs.MethodCalls.{CostsBy, IsAsking, promise_of}
use Rattle.sb_drive.specs.Promises.{CostsAsPromised, KeepsPromise, StoresEnd}
use Rattle.sb_drive.specs.Slots.{Slots, owned}
use Rattle.sb_drive.specs.Spaces.{Wanted}
use Rattle.sb_drive.specs.Turns.{IsEnd, is_find}
use Rattle.sb_drive.proofs.SpacesLemmas.{LeadsWithin-more, LeadsWithin-zero}
use Rattle.sb_drive.proofs.StoresLemmas.{edits_of-clean}

-- a reading call asks for no fresh page
HasRoom-reads : (most : ℕ) (P : Pages) (c : View) (move : Move) → Reads move → HasRoom most P c move
HasRoom-reads most P c Fresh reads = absurd reads
HasRoom-reads most P c move reads = tt

TakesFor-reads : (m : Method) (inst : Instance) (call : MethodCall) (rows : Rows) (move : Move) → Reads move → TakesFor m inst call rows move
TakesFor-reads m inst call rows Fresh reads = absurd reads
TakesFor-reads m inst call rows move reads = tt

-- a reading call is one that changes nothing
pub Changes-Looks : (m : Method) (inst : Instance) (call : MethodCall) (old new : View) (move : Move) → ((P : Pages) (rows : Rows) → Before m inst call P rows → Holds m inst P rows) →
    IsClean old → Looks m inst call old new move → Changes m inst call old new move
Changes-Looks m inst call old new move before clean looks = record {
  given = ap dropped looks.same ∙ clean.unchanged;
  asks = subst (λ (c : View). AsksFor c move) (sym looks.same) looks.asks;
  broken = looks.broken;
  ends = looks.ends;
  answers = λ P part. subst (λ (Q : Pages). Answers m inst call P Q move) (sym (ap (λ (c : View). stored c P) looks.same ∙ stored-clean old P clean.unchanged part)) (looks.answers P part);
  spends = λ ctx P part rows hold. record {
    path = looks.path P part rows (before P rows hold);
    room = HasRoom-reads (most_pages m call (length rows)) P new move looks.reads;
    gets = TakesFor-reads m inst call rows move looks.reads;
    edits = subst (λ n. n ≤ cost_of m call rows move) (sym (edits_of-clean new ctx.sound (ap dropped looks.same ∙ clean.unchanged ∙ sym looks.same))) (omega arith);
  };
}

-- the same of a call that is known by its kind
pub Changes-Looks-is : (m : Method) (inst : Instance) (call kind : MethodCall) (old new : View) (move : Move) → call ≡ kind → ((P : Pages) (rows : Rows) → Before m inst kind P rows → Holds m inst P rows) →
    IsClean old → Looks m inst kind old new move → Changes m inst call old new move
Changes-Looks-is m inst call kind old new move is before clean looks =
    subst (λ (c : MethodCall). Changes m inst c old new move) (sym is) (Changes-Looks m inst kind old new move before clean looks)

-- ---- a fresh page that is asked for
pub IsAsking-asked : (m : Method) (inst : Instance) (call : MethodCall) (old c : View) (move : Move) → move ≡ Fresh → Changes m inst call old c move → IsAsking m inst call c
IsAsking-asked m inst call old c move fresh changes =
    subst (λ (v : View). Changes m inst call v c Fresh) (sym changes.given) (subst (λ (to : Move). Changes m inst call old c to) fresh changes)

-- ---- what a call promises
-- no find answers it, so it asks as any box may
AsksFor-method : (inst : Instance) (call : MethodCall) (c : View) (move : Move) → MayEnd inst call move → AsksFor c move → AsksForAny c move
AsksFor-method inst call c (Find relation columns values) may asks = absurd may
AsksFor-method inst call c move may asks = asks

no_find : (inst : Instance) (call : MethodCall) (move : Move) → MayEnd inst call move → is_find move ≡ true → ⊥
no_find inst call (Find relation columns values) may is = may
no_find inst call move may is = cc

pub KeepsPromise-changes : (m : Method) (inst : Instance) (call : MethodCall) (old new : View) (move : Move) → Changes m inst call old new move → KeepsPromise (promise_of m inst call) old new move
KeepsPromise-changes m inst call old new move changes = record {
  given = changes.given;
  asks = AsksFor-method inst call new move changes.ends changes.asks;
  ends = changes.ends;
  answers = changes.answers;
  find = λ P after is. absurd (no_find inst call move changes.ends is);
  broken = λ P n part is. record {
    held = given_at old;
    given = AreSomeOf-given old P part;
    may = subst (λ (to : Move). IsBroken m inst old to) is changes.broken;
    not_new = subst (λ (to : Move). Answers m inst call P (stored new P) to) is (changes.answers P part);
  };
  spends = changes.spends;
  fresh = λ is. IsAsking-asked m inst call old new move is changes;
}

-- ---- what a call costs
pub cost_of-most : (m : Method) (call : MethodCall) (rows : Rows) (move : Move) → cost_of m call rows move ≤ m.cost call rows
cost_of-most m call rows Duplicate = omega arith
cost_of-most m call rows Range = omega arith
cost_of-most m call rows NoRecord = omega arith
cost_of-most m call rows move = omega arith

-- an end of it is free, or its row gets a key
given_or_free : (m : Method) (inst : Instance) (call : MethodCall) (keys : NewKeys) (rows held : Rows) (with_key : Key → Rows) (after : Pages) (move : Move)
    → Gets m inst keys held with_key after move → (cost_of m call rows move ≡ 0) ⊎ IsGiven keys
given_or_free m inst call (AnyOf may) rows held with_key after move gets = inr tt
given_or_free m inst call (Just given) rows held with_key after move gets = inr tt
given_or_free m inst call Taken rows held with_key after Duplicate gets = inl refl
given_or_free m inst call Taken rows held with_key after move gets = absurd gets
given_or_free m inst call NoGreater rows held with_key after Range gets = inl refl
given_or_free m inst call NoGreater rows held with_key after move gets = absurd gets

updated_or_free : (m : Method) (inst : Instance) (key : Key) (row : Row) (found : Option Row) (rows : Rows) (after : Pages) (move : Move) → Updated m inst key row found rows after move
    → (cost_of m (call.Update key row) rows move ≡ 0) ⊎ GetsKey m inst (call.Update key row) rows
updated_or_free m inst key row None rows after NoRecord updated = inl refl
updated_or_free m inst key row None rows after move updated = absurd updated
updated_or_free m inst key row (Some old) rows after move updated =
    given_or_free m inst (call.Update key row) (new_keys (keying_of m.rules.code) rows (Some key) (code_of inst row)) rows rows (λ new. with_row (without_row rows key) new row) after move updated

ends_or_free : (m : Method) (inst : Instance) (call : MethodCall) (P after : Pages) (rows : Rows) (move : Move) → Before m inst call P rows → Ends m inst call P after move
    → (cost_of m call rows move ≡ 0) ⊎ GetsKey m inst call rows
ends_or_free m inst (call.Insert row) P after rows move before ends =
    given_or_free m inst (call.Insert row) (new_keys (keying_of m.rules.code) rows None (code_of inst row)) rows rows (λ key. with_row rows key row) after move (ends rows before)
ends_or_free m inst (call.Update key row) P after rows move before ends = updated_or_free m inst key row (row_at rows key) rows after move (ends rows before)
ends_or_free m inst call.Prepare P after rows move before ends = inr tt
ends_or_free m inst (call.Delete key) P after rows move before ends = inr tt
ends_or_free m inst (call.Get key) P after rows move before ends = inr tt
ends_or_free m inst (call.Next low) P after rows move before ends = inr tt

stored_or_free : (m : Method) (inst : Instance) (call : MethodCall) (P after : Pages) (rows : Rows) (move : Move) → Before m inst call P rows → IsEnd move → Answers m inst call P after move
    → (cost_of m call rows move ≡ 0) ⊎ GetsKey m inst call rows
stored_or_free m inst call P after rows (Need n) before end answers = absurd end
stored_or_free m inst call P after rows Fresh before end answers = absurd end
stored_or_free m inst call P after rows (After n) before end answers = absurd end
stored_or_free m inst call P after rows (Broken n) before end answers = absurd end
stored_or_free m inst call P after rows NoMemory before end answers = absurd end
stored_or_free m inst call P after rows move before end answers = ends_or_free m inst call P after rows move before answers

-- by what it comes to
pub CostsBy-promised : {S : Type 0} (Has : Wanted → Slots → S → Type 0) (Leads : ℕ → S → S → Type 0) (m : Method) (inst : Instance) (call : MethodCall) (old new : S) (result : Result Move SpaceFault)
    → CostsAsPromised Has Leads inst.owner (promise_of m inst call) old new result → (want : Wanted) (s : Slots) (rows : Rows) → Has want s old → Before m inst call (owned s inst.owner) rows
    → CostsBy Leads m inst call rows old new result
CostsBy-promised Has Leads m inst call old new (Ok end) costs want s rows has before =
    LeadsWithin-more Leads (edits_of costs.ctx) (cost_of m call rows end) old new
    (subst (λ (move : Move). edits_of costs.ctx ≤ cost_of m call rows move) costs.ends (costs.spends want s has rows before).edits) costs.leads
CostsBy-promised Has Leads m inst call old new (Err e) costs want s rows has before =
    ⊎_elim (λ none. inl none)
    (λ (stores : StoresEnd Has inst.owner (promise_of m inst call) old costs.ctx costs.move).
    let few = (costs.spends want s has rows before).edits in
    ⊎_elim
    (λ (free : cost_of m call rows costs.move ≡ 0). inl (LeadsWithin-zero Leads (edits_of costs.ctx) old new (omega (arith, few, free)) costs.leads))
    (λ (given : GetsKey m inst call rows).
    inr (given, LeadsWithin-more Leads (edits_of costs.ctx) (m.cost call rows) old new (omega (arith, few, cost_of-most m call rows costs.move)) costs.leads))
    (stored_or_free m inst call (owned s inst.owner) (stored costs.ctx (owned s inst.owner)) rows costs.move before stores.end (stores.answers want s has)))
    costs.refused
