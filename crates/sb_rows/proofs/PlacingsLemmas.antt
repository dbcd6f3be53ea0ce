-- What the ends of calls say.
use Rattle.std.proofs.Common.{◌≡◌, Bool, true, [], Option, Some, None, IfSome, IsTrue, refl, sym, ap, subst}
use Rattle.sb_relation.specs.Db.{Key, Row, Rows, row_at, with_row, without_row}
use Rattle.sb_relation.specs.Keys.{NewKeys, AnyOf, Just, Taken, NoGreater, keying_of, new_keys, is_record_key}
use Rattle.sb_relation.specs.Lawful.{IsRow}
use Rattle.sb_treemethod.specs.Pages.{Pages, new_pages}
use Rattle.sb_treemethod.specs.Instance.{Instance}
use Rattle.sb_treemethod.specs.MethodCall.TheVariants as call
use Rattle.sb_treemethod.specs.Move.{Move}
use Rattle.sb_treemethod.specs.Move.TheVariants as move
use Rattle.sb_treemethod.specs.Method.{Method, code_of}
use Rattle.sb_treemethod.specs.MethodAnswers.{Answers, Deleted, Gets, Got, Holds, Inserted, IsRowOf, MayEnd, NextIs, Updated, is_above, row_above}
use Rattle.sb_registry.specs.Boxes.{Meanings}
use Rattle.sb_registry.specs.Slots.{Slots, owned}
use Rattle.sb_registry.specs.Spaces.{Leaves, Wanted}
use Rattle.sb_registry.specs.Turns.{IsEnd}
use Rattle.sb_rows.specs.declared.changes.Placing.{Placing}
use Rattle.sb_registry.specs.Live.{IsLive}
use Rattle.sb_rows.specs.Live.{HasRows, LeavesRows}
use Rattle.sb_rows.specs.Placings.{IsDoneOrNone, IsGone, IsPlaced, IsPlacing, IsReplaced, IsReplacing, OfKey, is_gone, placing_in, replacing_in}
use Rattle.sb_rows.specs.Scans.{IsRowOrEnd, IsRowOrNone, is_move_above, row_in, tuple_in}
use Rattle.sb_rows.proofs.ScansLemmas.{is_above-found}

-- ---- how calls end
pub IsRowOrNone-ended : (inst : Instance) (key : Key) (m : Move) → MayEnd inst (call.Get key) m → IsEnd m → IsRowOrNone m
IsRowOrNone-ended inst key (move.Row k r) may end = tt
IsRowOrNone-ended inst key move.NoRecord may end = tt
IsRowOrNone-ended inst key (move.Need n) may end = absurd end
IsRowOrNone-ended inst key move.Fresh may end = absurd end
IsRowOrNone-ended inst key (move.After n) may end = absurd end
IsRowOrNone-ended inst key (move.Broken n) may end = absurd end
IsRowOrNone-ended inst key move.NoMemory may end = absurd end
IsRowOrNone-ended inst key m may end = absurd may

pub IsRowOrEnd-ended : (inst : Instance) (low : Option Key) (m : Move) → MayEnd inst (call.Next low) m → IsEnd m → IsRowOrEnd m
IsRowOrEnd-ended inst low (move.Row k r) may end = tt
IsRowOrEnd-ended inst low move.End may end = tt
IsRowOrEnd-ended inst low (move.Need n) may end = absurd end
IsRowOrEnd-ended inst low move.Fresh may end = absurd end
IsRowOrEnd-ended inst low (move.After n) may end = absurd end
IsRowOrEnd-ended inst low (move.Broken n) may end = absurd end
IsRowOrEnd-ended inst low move.NoMemory may end = absurd end
IsRowOrEnd-ended inst low m may end = absurd may

pub IsPlacing-ended : (inst : Instance) (row : Row) (m : Move) → MayEnd inst (call.Insert row) m → IsEnd m → IsPlacing m
IsPlacing-ended inst row (move.Key k) may end = tt
IsPlacing-ended inst row move.Duplicate may end = tt
IsPlacing-ended inst row move.Range may end = tt
IsPlacing-ended inst row (move.Need n) may end = absurd end
IsPlacing-ended inst row move.Fresh may end = absurd end
IsPlacing-ended inst row (move.After n) may end = absurd end
IsPlacing-ended inst row (move.Broken n) may end = absurd end
IsPlacing-ended inst row move.NoMemory may end = absurd end
IsPlacing-ended inst row m may end = absurd may

pub IsReplacing-ended : (inst : Instance) (key : Key) (row : Row) (m : Move) → MayEnd inst (call.Update key row) m → IsEnd m → IsReplacing m
IsReplacing-ended inst key row (move.Key k) may end = tt
IsReplacing-ended inst key row move.Duplicate may end = tt
IsReplacing-ended inst key row move.NoRecord may end = tt
IsReplacing-ended inst key row (move.Need n) may end = absurd end
IsReplacing-ended inst key row move.Fresh may end = absurd end
IsReplacing-ended inst key row (move.After n) may end = absurd end
IsReplacing-ended inst key row (move.Broken n) may end = absurd end
IsReplacing-ended inst key row move.NoMemory may end = absurd end
IsReplacing-ended inst key row m may end = absurd may

pub IsDoneOrNone-ended : (inst : Instance) (key : Key) (m : Move) → MayEnd inst (call.Delete key) m → IsEnd m → IsDoneOrNone m
IsDoneOrNone-ended inst key move.Done may end = tt
IsDoneOrNone-ended inst key move.NoRecord may end = tt
IsDoneOrNone-ended inst key (move.Need n) may end = absurd end
IsDoneOrNone-ended inst key move.Fresh may end = absurd end
IsDoneOrNone-ended inst key (move.After n) may end = absurd end
IsDoneOrNone-ended inst key (move.Broken n) may end = absurd end
IsDoneOrNone-ended inst key move.NoMemory may end = absurd end
IsDoneOrNone-ended inst key m may end = absurd may

-- ---- what they may end with, whatever the pages hold
pub IsRow-ended : (inst : Instance) (key : Key) (m : Move) → MayEnd inst (call.Get key) m → IfSome (tuple_in m) (IsRow inst.schema)
IsRow-ended inst key (move.Row k r) may = may.is_row
IsRow-ended inst key m may = tt

pub IsRowOf-ended : (inst : Instance) (low : Option Key) (m : Move) → MayEnd inst (call.Next low) m → IfSome (row_in m) (λ r. IsRowOf inst r.0 r.1)
IsRowOf-ended inst low (move.Row k r) may = may
IsRowOf-ended inst low m may = tt

pub is_above-ended : (low : Option Key) (m : Move) → is_move_above low m ≡ true → IfSome (row_in m) (λ r. IsTrue (is_above low r.0))
is_above-ended low (move.Row k r) is = is
is_above-ended low m is = tt

pub OfKey-placed : (inst : Instance) (row : Row) (m : Move) → MayEnd inst (call.Insert row) m → OfKey (placing_in m) (λ key. is_record_key key ≡ true)
OfKey-placed inst row (move.Key k) may = may
OfKey-placed inst row m may = tt

pub OfKey-replaced : (inst : Instance) (key : Key) (row : Row) (m : Move) → MayEnd inst (call.Update key row) m → IfSome (replacing_in m) (λ new. OfKey new (λ k. is_record_key k ≡ true))
OfKey-replaced inst key row (move.Key k) may = may
OfKey-replaced inst key row m may = tt

-- ---- what is read
got : (key : Key) (found : Option Row) (m : Move) → Got key found m → tuple_in m ≡ found
got key (Some row) m is = ap tuple_in is
got key None m is = ap tuple_in is

pub tuple_in-answered : (box : Method) (inst : Instance) (key : Key) (P after : Pages) (rows : Rows) (m : Move) → IsRowOrNone m → Answers box inst (call.Get key) P after m → Holds box inst P rows → tuple_in m ≡ row_at rows key
tuple_in-answered box inst key P after rows (move.Row k r) is answers holds = got key (row_at rows key) (move.Row k r) (answers rows holds)
tuple_in-answered box inst key P after rows move.NoRecord is answers holds = got key (row_at rows key) move.NoRecord (answers rows holds)
tuple_in-answered box inst key P after rows m is answers holds = absurd is

next : (found : Option (Key × Row)) (m : Move) → NextIs found m → row_in m ≡ found
next (Some row) m is = ap row_in is
next None m is = ap row_in is

pub row_in-answered : (box : Method) (inst : Instance) (low : Option Key) (P after : Pages) (rows : Rows) (m : Move) → IsRowOrEnd m → Answers box inst (call.Next low) P after m → Holds box inst P rows → row_in m ≡ row_above low rows
row_in-answered box inst low P after rows (move.Row k r) is answers holds = next (row_above low rows) (move.Row k r) (answers rows holds)
row_in-answered box inst low P after rows move.End is answers holds = next (row_above low rows) move.End (answers rows holds)
row_in-answered box inst low P after rows m is answers holds = absurd is

-- over pages with rows the next row is above the key
pub is_move_above-found : (low : Option Key) (rows : Rows) (m : Move) → row_in m ≡ row_above low rows → is_move_above low m ≡ true
is_move_above-found low rows (move.Row k r) is = is_above-found low rows (k, r) (sym is)
is_move_above-found low rows m is = refl

-- ---- what is left
pub LeavesRows-own : {S : Type 0} (Has : Wanted → Slots → S → Type 0) (m : Meanings) (inst : Instance) (want : Wanted) (s : Slots) (new : S) (IsSo : Pages → Type 0) (left : Leaves Has inst.owner want s new IsSo)
    (live : IsLive m inst) (rows : Rows) → Holds live.box inst (owned left.slots inst.owner) rows → LeavesRows Has m inst want s new rows
LeavesRows-own Has m inst want s new IsSo left live rows holds = record {
  slots = left.slots;
  has = left.has;
  others = left.others;
  own = record { live = live; holds = holds };
}

placed : (box : Method) (inst : Instance) (keys : NewKeys) (rows : Rows) (with_key : Key → Rows) (after : Pages) (m : Move) (LeavesWith : Key → Type 0) (Same : Type 0) →
    ((key : Key) → Holds box inst after (with_key key) → LeavesWith key) → (Holds box inst after rows → Same) → IsPlacing m → Gets box inst keys rows with_key after m → IsPlaced keys (placing_in m) LeavesWith Same
placed box inst (AnyOf may) rows with_key after (move.Key key) LeavesWith Same then same is gets = (gets.0, then key gets.1)
placed box inst (Just given) rows with_key after (move.Key key) LeavesWith Same then same is gets = (gets.0, then key gets.1)
placed box inst Taken rows with_key after move.Duplicate LeavesWith Same then same is gets = same gets
placed box inst NoGreater rows with_key after move.Range LeavesWith Same then same is gets = same gets
placed box inst keys rows with_key after m LeavesWith Same then same is gets = absurd gets

inserted : (box : Method) (inst : Instance) (row : Row) (P after : Pages) (rows : Rows) (m : Move) → IsPlacing m → Answers box inst (call.Insert row) P after m → Holds box inst P rows → Inserted box inst row rows after m
inserted box inst row P after rows (move.Key key) is answers holds = answers rows holds
inserted box inst row P after rows move.Duplicate is answers holds = answers rows holds
inserted box inst row P after rows move.Range is answers holds = answers rows holds
inserted box inst row P after rows m is answers holds = absurd is

pub IsPlaced-left : {S : Type 0} (Has : Wanted → Slots → S → Type 0) (m : Meanings) (inst : Instance) (row : Row) (want : Wanted) (s : Slots) (new : S) (rows : Rows) (made : Move) (said : Placing) (h : HasRows m s inst rows) →
    said ≡ placing_in made → IsPlacing made → Leaves Has inst.owner want s new (λ after. Answers h.live.box inst (call.Insert row) (owned s inst.owner) after made) →
    IsPlaced (new_keys (keying_of inst.code) rows None (code_of inst row)) said (λ key. LeavesRows Has m inst want s new (with_row rows key row)) (LeavesRows Has m inst want s new rows)
IsPlaced-left Has m inst row want s new rows made said h says is left =
    let box = h.live.box in
    let after = owned left.slots inst.owner in
    let leaves = LeavesRows-own Has m inst want s new (λ after. Answers box inst (call.Insert row) (owned s inst.owner) after made) left h.live in
    subst (λ (x : Placing). IsPlaced (new_keys (keying_of inst.code) rows None (code_of inst row)) x (λ key. LeavesRows Has m inst want s new (with_row rows key row)) (LeavesRows Has m inst want s new rows)) (sym says)
    (subst (λ code. IsPlaced (new_keys (keying_of code) rows None (code_of inst row)) (placing_in made) (λ key. LeavesRows Has m inst want s new (with_row rows key row)) (LeavesRows Has m inst want s new rows)) (sym h.live.may.code)
    (placed box inst (new_keys (keying_of box.rules.code) rows None (code_of inst row)) rows (λ key. with_row rows key row) after made _ _ (λ key holds. leaves (with_row rows key row) holds) (λ holds. leaves rows holds) is
    (inserted box inst row (owned s inst.owner) after rows made is left.own h.holds)))

-- ---- an update
no_record : (box : Method) (inst : Instance) (keys : NewKeys) (rows : Rows) (with_key : Key → Rows) (after : Pages) → Gets box inst keys rows with_key after move.NoRecord → ⊥
no_record box inst (AnyOf may) rows with_key after gets = gets
no_record box inst (Just given) rows with_key after gets = gets
no_record box inst Taken rows with_key after gets = gets
no_record box inst NoGreater rows with_key after gets = gets

replaced : (box : Method) (inst : Instance) (key : Key) (row : Row) (old : Option Row) (rows : Rows) (after : Pages) (m : Move) (LeavesWith : Key → Type 0) (Same : Type 0) →
    ((new : Key) → Holds box inst after (with_row (without_row rows key) new row) → LeavesWith new) → (Holds box inst after rows → Same) → IsReplacing m → Updated box inst key row old rows after m →
    IsReplaced old (new_keys (keying_of box.rules.code) rows (Some key) (code_of inst row)) (replacing_in m) LeavesWith Same
replaced box inst key row None rows after move.NoRecord LeavesWith Same then same is updated = same updated
replaced box inst key row None rows after m LeavesWith Same then same is updated = absurd updated
replaced box inst key row (Some old) rows after (move.Key k) LeavesWith Same then same is updated =
    placed box inst (new_keys (keying_of box.rules.code) rows (Some key) (code_of inst row)) rows (λ new. with_row (without_row rows key) new row) after (move.Key k) LeavesWith Same then same tt updated
replaced box inst key row (Some old) rows after move.Duplicate LeavesWith Same then same is updated =
    placed box inst (new_keys (keying_of box.rules.code) rows (Some key) (code_of inst row)) rows (λ new. with_row (without_row rows key) new row) after move.Duplicate LeavesWith Same then same tt updated
replaced box inst key row (Some old) rows after move.NoRecord LeavesWith Same then same is updated =
    absurd (no_record box inst (new_keys (keying_of box.rules.code) rows (Some key) (code_of inst row)) rows (λ new. with_row (without_row rows key) new row) after updated)
replaced box inst key row (Some old) rows after m LeavesWith Same then same is updated = absurd is

updated : (box : Method) (inst : Instance) (key : Key) (row : Row) (P after : Pages) (rows : Rows) (m : Move) → IsReplacing m → Answers box inst (call.Update key row) P after m → Holds box inst P rows → Updated box inst key row (row_at rows key) rows after m
updated box inst key row P after rows (move.Key k) is answers holds = answers rows holds
updated box inst key row P after rows move.Duplicate is answers holds = answers rows holds
updated box inst key row P after rows move.NoRecord is answers holds = answers rows holds
updated box inst key row P after rows m is answers holds = absurd is

pub IsReplaced-left : {S : Type 0} (Has : Wanted → Slots → S → Type 0) (m : Meanings) (inst : Instance) (key : Key) (row : Row) (want : Wanted) (s : Slots) (new : S) (rows : Rows) (made : Move) (said : Option Placing) (h : HasRows m s inst rows) →
    said ≡ replacing_in made → IsReplacing made → Leaves Has inst.owner want s new (λ after. Answers h.live.box inst (call.Update key row) (owned s inst.owner) after made) →
    IsReplaced (row_at rows key) (new_keys (keying_of inst.code) rows (Some key) (code_of inst row)) said (λ k. LeavesRows Has m inst want s new (with_row (without_row rows key) k row)) (LeavesRows Has m inst want s new rows)
IsReplaced-left Has m inst key row want s new rows made said h says is left =
    let box = h.live.box in
    let after = owned left.slots inst.owner in
    let leaves = LeavesRows-own Has m inst want s new (λ after. Answers box inst (call.Update key row) (owned s inst.owner) after made) left h.live in
    subst (λ (x : Option Placing). IsReplaced (row_at rows key) (new_keys (keying_of inst.code) rows (Some key) (code_of inst row)) x (λ k. LeavesRows Has m inst want s new (with_row (without_row rows key) k row)) (LeavesRows Has m inst want s new rows)) (sym says)
    (subst (λ code. IsReplaced (row_at rows key) (new_keys (keying_of code) rows (Some key) (code_of inst row)) (replacing_in made) (λ k. LeavesRows Has m inst want s new (with_row (without_row rows key) k row)) (LeavesRows Has m inst want s new rows)) (sym h.live.may.code)
    (replaced box inst key row (row_at rows key) rows after made _ _ (λ k holds. leaves (with_row (without_row rows key) k row) holds) (λ holds. leaves rows holds) is
    (updated box inst key row (owned s inst.owner) after rows made is left.own h.holds)))

-- ---- a delete
gone : (box : Method) (inst : Instance) (key : Key) (old : Option Row) (rows : Rows) (after : Pages) (m : Move) (LeavesWithout Same : Type 0) →
    (Holds box inst after (without_row rows key) → LeavesWithout) → (Holds box inst after rows → Same) → Deleted box inst key old rows after m → IsGone old (is_gone m) LeavesWithout Same
gone box inst key (Some old) rows after move.Done LeavesWithout Same then same deleted = then deleted
gone box inst key None rows after move.NoRecord LeavesWithout Same then same deleted = same deleted
gone box inst key old rows after m LeavesWithout Same then same deleted = absurd deleted

deleted : (box : Method) (inst : Instance) (key : Key) (P after : Pages) (rows : Rows) (m : Move) → IsDoneOrNone m → Answers box inst (call.Delete key) P after m → Holds box inst P rows → Deleted box inst key (row_at rows key) rows after m
deleted box inst key P after rows move.Done is answers holds = answers rows holds
deleted box inst key P after rows move.NoRecord is answers holds = answers rows holds
deleted box inst key P after rows m is answers holds = absurd is

pub IsGone-left : {S : Type 0} (Has : Wanted → Slots → S → Type 0) (m : Meanings) (inst : Instance) (key : Key) (want : Wanted) (s : Slots) (new : S) (rows : Rows) (made : Move) (said : Bool) (h : HasRows m s inst rows) →
    said ≡ is_gone made → IsDoneOrNone made → Leaves Has inst.owner want s new (λ after. Answers h.live.box inst (call.Delete key) (owned s inst.owner) after made) →
    IsGone (row_at rows key) said (LeavesRows Has m inst want s new (without_row rows key)) (LeavesRows Has m inst want s new rows)
IsGone-left Has m inst key want s new rows made said h says is left =
    let box = h.live.box in
    let after = owned left.slots inst.owner in
    let leaves = LeavesRows-own Has m inst want s new (λ after. Answers box inst (call.Delete key) (owned s inst.owner) after made) left h.live in
    subst (λ (b : Bool). IsGone (row_at rows key) b (LeavesRows Has m inst want s new (without_row rows key)) (LeavesRows Has m inst want s new rows)) (sym says)
    (gone box inst key (row_at rows key) rows after made _ _ (λ holds. leaves (without_row rows key) holds) (λ holds. leaves rows holds)
    (deleted box inst key (owned s inst.owner) after rows made is left.own h.holds))

-- ---- a relation is made
pub prepared : (box : Method) (inst : Instance) (P after : Pages) (m : Move) → MayEnd inst call.Prepare m → IsEnd m → Answers box inst call.Prepare P after m → ((n : _) → P n ≡ new_pages inst.root n) → Holds box inst after []
prepared box inst P after move.Done may end answers new = answers new
prepared box inst P after (move.Need n) may end answers new = absurd end
prepared box inst P after move.Fresh may end answers new = absurd end
prepared box inst P after (move.After n) may end answers new = absurd end
prepared box inst P after (move.Broken n) may end answers new = absurd end
prepared box inst P after move.NoMemory may end answers new = absurd end
prepared box inst P after m may end answers new = absurd may
