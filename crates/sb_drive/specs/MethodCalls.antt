-- Driven calls of a storage method.
use Rattle.std.specs.Prelude.{◌≡◌, ◌⊎◌, ℕ, true, Result, Ok, Err}
use Rattle.sb_ctx.specs.Db.{Rows}
use Rattle.sb_ctx.specs.Pages.{Pages}
use Rattle.sb_ctx.specs.declared.instance.Instance.{Instance}
use Rattle.sb_ctx.specs.declared.calls.MethodCall.{MethodCall}
use Rattle.sb_ctx.specs.declared.calls.MethodCall.TheVariants as call
use Rattle.sb_ctx.specs.declared.moves.Move.{Move}
use Rattle.sb_ctx.specs.declared.moves.Move.TheVariants.{Fresh}
use Rattle.sb_ctx.specs.View.{View, HeldPages, AreSomeOf, dropped}
use Rattle.sb_ctx.specs.Method.{Method, MayHold}
use Rattle.sb_ctx.specs.MethodAnswers.{Answers, Before, Changes, GetsKey, MayEnd, NotNew, Spends, cost_of}
use Rattle.sb_drive.specs.declared.space.SpaceFault.{SpaceFault}
use Rattle.sb_drive.specs.declared.space.SpaceFault.TheVariants as space
use Rattle.sb_drive.specs.Promises.{Promise}
use Rattle.sb_drive.specs.Spaces.{LeadsWithin}

-- what the box wants of the arguments of its call
abbrev pub Fits : Method → Instance → MethodCall → Type 0
Fits m inst (call.Insert row) = MayHold m inst row
Fits m inst (call.Update key row) = MayHold m inst row
Fits m inst c = Unit {0}

-- a call that makes nothing of the pages
abbrev pub IsReading : MethodCall → Type 0
IsReading (call.Get key) = Unit {0}
IsReading (call.Next low) = Unit {0}
IsReading c = ⊥

-- the box, made to answer with what it was given, asks for a fresh page
abbrev pub IsAsking : Method → Instance → MethodCall → View → Type 0
IsAsking m inst call c = Changes m inst call (dropped c) c Fresh

-- over pages that hold rows a fresh page is within the room of the call, and a new row gets a key
abbrev pub HasRoomFor : Method → Instance → MethodCall → Pages → View → Type 0
HasRoomFor m inst call P c = (rows : Rows) → Before m inst call P rows → Spends m inst call P rows c Fresh

-- A page that the box may call broken, of some of these pages that it was given; when an instance is prepared, they aren't those of a new one.
pub record IsDamaged (m : Method) (inst : Instance) (c : MethodCall) (P : Pages) (n : ℕ) : Type 0 where
  pub held : HeldPages
  pub given : AreSomeOf held P
  pub may : m.may_break inst held n ≡ true
  pub not_new : NotNew inst c P

-- Damaged names such a page
abbrev pub HasSpaceCause : Method → Instance → MethodCall → Pages → SpaceFault → Type 0
HasSpaceCause m inst c P (space.Damaged n) = IsDamaged m inst c P n
HasSpaceCause m inst c P e = Unit {0}

-- what a call promises: what it spends, over pages that hold rows
abbrev pub promise_of : Method → Instance → MethodCall → Promise
promise_of m inst c = record {
  MayEnd = MayEnd inst c;
  Answers = Answers m inst c;
  IsDamaged = IsDamaged m inst c;
  Spends = λ P new move. (rows : Rows) → Before m inst c P rows → Spends m inst c P rows new move;
  IsAsking = IsAsking m inst c;
}

-- What a call costs that comes to this. One that refuses its row changes nothing; one that the space refuses has changed nothing, or the row that it
-- puts in gets a key.
abbrev pub CostsBy : {S : Type 0} → (ℕ → S → S → Type 0) → Method → Instance → MethodCall → Rows → S → S → Result Move SpaceFault → Type 0
CostsBy Leads m inst c rows old new (Ok move) = LeadsWithin Leads (cost_of m c rows move) old new
CostsBy Leads m inst c rows old new (Err e) = Leads 0 old new ⊎ (GetsKey m inst c rows × LeadsWithin Leads (m.cost c rows) old new)
