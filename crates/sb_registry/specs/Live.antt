-- Instances whose box is live, and the rows that their calls take.
use Rattle.std.specs.Prelude.{◌≡◌, false, Some}
use Rattle.sb_drive.specs.Db.{Row}
use Rattle.sb_drive.specs.Keys.{keying_of, Coded}
use Rattle.sb_drive.specs.Lawful.{IsRow, is_long_code}
use Rattle.sb_drive.specs.Instance.{Instance}
use Rattle.sb_drive.specs.MethodCall.{MethodCall}
use Rattle.sb_drive.specs.MethodCall.TheVariants.{Insert, Update}
use Rattle.sb_drive.specs.Method.{Method, IsInstance}
use Rattle.sb_drive.specs.Attachment.{Attachment, IsInstance as IsAttached}
use Rattle.sb_drive.specs.Laws.{IsMethod, IsAttachment}
use Rattle.sb_registry.specs.Boxes.{Meanings, method_of, attachment_of}

-- a live storage method of the instance's code keeps it
pub record IsLive (m : Meanings) (inst : Instance) : Type 0 where
  pub box : Method
  pub live : method_of inst.code m.methods ≡ Some box
  pub may : IsInstance box inst
  pub law : IsMethod box

-- the same of an attachment
pub record IsLiveRule (m : Meanings) (inst : Instance) : Type 0 where
  pub box : Attachment
  pub live : attachment_of inst.code m.attachments ≡ Some box
  pub may : IsAttached box inst
  pub law : IsAttachment box

-- a row that the relation doesn't refuse as too long
pub record MayTake (inst : Instance) (row : Row) : Type 0 where
  pub is_row : IsRow inst.schema row
  pub code : keying_of inst.code ≡ Coded → is_long_code inst.schema inst.key row ≡ false

-- the row of a call is one that the relation may take
abbrev pub MayAsk : Instance → MethodCall → Type 0
MayAsk inst (Insert row) = MayTake inst row
MayAsk inst (Update key row) = MayTake inst row
MayAsk inst call = Unit {0}
