-- What opening a relation leaves of an engine at work.
use Rattle.std.proofs.Common.{◌≡◌, ℕ, List, subst}
use Rattle.std.specs.declared.vec.Vec.{Vec}
use Rattle.std.specs.declared.alloc.Global.{Global}
use Rattle.sb_value.specs.declared.schema.Column.{Column}
use Rattle.sb_rule.specs.declared.action.Action.{Action}
use Rattle.sb_relation.specs.Db.{Name, Db, schema_at}
use Rattle.sb_fold.specs.Outcome.{Going}
use Rattle.sb_fold.specs.Wishes.{Wish, Put, Remove, Replace, Raise}
use Rattle.sb_cascade.specs.Fitting.{IsFitting, IsFittingWish, WishFits}
use Rattle.sb_registry.specs.Boxes.{Meanings}
use Rattle.sb_drive.specs.Slots.{Slots}
use Rattle.sb_drive.specs.Spaces.{Wanted}
use Rattle.sb_building.specs.Tables.{db_of}
use Rattle.sb_building.specs.OpenRelation.{OpenRelation}
use Rattle.sb_building.specs.Wished.{MayBeWished}
use Rattle.sb_building.specs.Work.{Work}
use Rattle.sb_building.specs.Working.{AreOpened, IsPaid, Stands}

-- a row that fits its relation may be wished
as_wished : (schema : List Column) (wish : Wish) → WishFits schema wish → MayBeWished schema wish
as_wished schema (Put row) fits = fits
as_wished schema (Remove key) fits = tt
as_wished schema (Replace key row) fits = fits
as_wished schema (Raise key column by) fits = fits

pub wished_there : (db : Db) (name : Name) (wish : Wish) (schema : List Column) → schema_at db name ≡ schema → IsFittingWish db name wish → MayBeWished schema wish
wished_there db name wish schema same fits = as_wished schema wish (subst (λ (columns : List Column). WishFits columns wish) same fits.fits)

module _ {S : Type 0} (Has : Wanted → Slots → S → Type 0) (Spent : ℕ → S → Type 0) (m : Meanings) (root : ℕ) (g : Going) (old new : S) (w : Work) (stands : Stands Has Spent m root g old w) where
  -- more relations are open
  pub stands_opened : (o : Vec OpenRelation Global) → ((want : Wanted) (s : Slots) → Has want s old → Has want s new) → IsPaid Spent 0 g.trail.spent new → AreOpened m stands.kept o.items
      → Stands Has Spent m root g new (record w { opened = o })
  stands_opened o later paid opened = record {
    want = stands.want;
    slots = stands.slots;
    kept = stands.kept;
    has = later stands.want stands.slots stands.has;
    db = stands.db;
    keeps = stands.keeps;
    lasting = stands.lasting;
    mirrored = stands.mirrored;
    paired = stands.paired;
    complete = stands.complete;
    opened = opened;
    waits = stands.waits;
    picked = stands.picked;
    gone = stands.gone;
    aside = stands.aside;
    paid = paid;
    apart = stands.apart;
    rules = stands.rules;
    fit = stands.fit;
  }

  pub wish_kept : (name : Name) (wish : Wish) → IsFittingWish g.db name wish → IsFittingWish (db_of stands.kept) name wish
  wish_kept name wish fits = subst (λ (db : Db). IsFittingWish db name wish) stands.db fits

  pub action_kept : (a : Action) → IsFitting g.db a → IsFitting (db_of stands.kept) a
  action_kept a fits = subst (λ (db : Db). IsFitting db a) stands.db fits
