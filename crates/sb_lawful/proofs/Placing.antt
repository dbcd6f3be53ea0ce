-- Lawful databases by places: what holds of each relation for itself, and of each attachment under its name.
use Rattle.std.proofs.Common.{◌≡◌, ℕ, Bool, true, false, not, T, List, [], map, Option, Some, None, is_some, refl, sym, ap, ◌∙◌}
use Rattle.std.specs.Prelude.{All, cond}
use Rattle.std.specs.Option.{option_or}
use Rattle.std.specs.FinMap.Entries.{is_sorted}
use Rattle.sb_value.specs.declared.schema.Column.{Column}
use Rattle.sb_value.specs.Order.{bytes_cmp}
use Rattle.sb_relation.specs.Build.{mirror_name, mirror_of}
use Rattle.sb_relation.specs.Db.{Name, Attached, Relation, Db, relation_at}
use Rattle.sb_fold.specs.Building.{rule_at, without_mirrors, without_relation, HasMirror}
use Rattle.sb_fold.specs.Extensions.{Extensions}
use Rattle.sb_fold.specs.Fold.{attachments_at}
use Rattle.sb_plain.specs.declared.command.Command.TheVariants as command
use Rattle.sb_plain.specs.Lawful.{MayBe, MayBeAttached, IsMirrorOf, is_in_order, IsRowOf, IsLawfulRelation, IsLawful}
use Rattle.sb_plain.specs.Printing.{is_mirror}
use Rattle.sb_plain.specs.Refusing.{some_where, first_twice}
use Rattle.sb_plain.proofs.SoundLemmas.{all_at}
use Rattle.sb_lawful.proofs.Items.{itself, AreApart, of_twice, to_twice}
use Rattle.sb_lawful.proofs.Places.{relation_without, all_places, items_in, rule_found, each_rule}
use Rattle.sb_lawful.proofs.Attachable.{Stands, to_stands, from_stands}

-- ---- a relation for itself
pub record IsMade (ext : Extensions) (name : Name) (r : Relation) : Type 0 where
  pub created : MayBe ext [] (command.Create name r.method r.schema r.key)
  pub in_order : is_in_order r.attachments ≡ true
  pub apart : AreApart r.attachments
  pub rising : T (is_sorted bytes_cmp r.rows)
  pub rows : All (λ row. IsRowOf r row.0 row.1) r.rows

-- a relation's columns may be so in each database in which its name is new
pub may_create : (ext : Extensions) (db db' : Db) (name : Name) (method : ℕ) (schema : List Column) (key : List Name) → relation_at db name ≡ None → relation_at db' name ≡ None
    → MayBe ext db (command.Create name method schema key) → MayBe ext db' (command.Create name method schema key)
may_create ext db db' name method schema key old new may = record {
  there = refl;
  new = ap (λ (o : Option Relation). option_or (some_where (is_some o) name) (option_or (first_twice (map (λ c. c.name) schema)) (first_twice key))) (new ∙ sym old) ∙ may.new;
  named = may.named;
  fits = may.fits;
  alike = may.alike;
  within = may.within;
}

gone : (db : Db) (name : Name) → relation_at (without_relation db name) name ≡ None
gone db name =
    let others : Db = without_mirrors name (attachments_at db name) db in
    relation_without others name name ∙ ap (λ (b : Bool). cond (not b) (relation_at others name) None) (itself name)

-- ---- an attachment where it stands
pub record IsPlaced (ext : Extensions) (db : Db) (name : Name) (a : Attached) : Type 0 where
  pub stands : is_mirror a.rule ≡ false → Stands ext db name a.rule
  pub mirrored : HasMirror db (mirror_name name a.name) (mirror_of name a.rule)
  pub main : is_mirror a.rule ≡ true → IsMirrorOf db name a

pub record IsWellPlaced (ext : Extensions) (db : Db) : Type 0 where
  pub rising : T (is_sorted bytes_cmp db)
  pub made : (k : Name) (r : Relation) → relation_at db k ≡ Some r → IsMade ext k r
  pub placed : (k : Name) (a : Attached) → rule_at db k a.name ≡ Some a → IsPlaced ext db k a

pub all_apart : (ext : Extensions) (db : Db) → ((k : Name) (r : Relation) → relation_at db k ≡ Some r → IsMade ext k r) → (k : Name) → AreApart (attachments_at db k)
all_apart ext db made k = by (relation_at db k) refl
  where
    by : (o : Option Relation) → relation_at db k ≡ o → AreApart (items_in o)
    by None is = tt
    by (Some r) is = (made k r is).apart

-- ---- both ways
pub to_places : (ext : Extensions) (db : Db) → IsLawful ext db → IsWellPlaced ext db
to_places ext db lawful = record { rising = lawful.rising; made = made; placed = placed }
  where
    at : (k : Name) (r : Relation) → relation_at db k ≡ Some r → IsLawfulRelation ext db k r
    at k r there = all_at (IsLawfulRelation ext db) db k r lawful.relations there

    made : (k : Name) (r : Relation) → relation_at db k ≡ Some r → IsMade ext k r
    made k r there =
        let is : IsLawfulRelation ext db k r = at k r there in
        record {
          created = may_create ext (without_relation db k) [] k r.method r.schema r.key (gone db k) refl is.created;
          in_order = is.in_order;
          apart = of_twice r.attachments is.apart;
          rising = is.rising;
          rows = is.rows;
        }

    placed : (k : Name) (a : Attached) → rule_at db k a.name ≡ Some a → IsPlaced ext db k a
    placed k a found =
        let mirrored : HasMirror db (mirror_name k a.name) (mirror_of k a.rule) =
        rule_found (λ x. HasMirror db (mirror_name k x.name) (mirror_of k x.rule)) db k a.name a (λ r there. (at k r there).mirrored) found in
        record {
          stands = λ main. to_stands ext db k a (all_apart ext db made) found mirrored main (rule_found (MayBeAttached ext db k) db k a.name a (λ r there. (at k r there).attached) found);
          mirrored = mirrored;
          main = rule_found (λ x. is_mirror x.rule ≡ true → IsMirrorOf db k x) db k a.name a (λ r there. (at k r there).mirrors) found;
        }

pub of_places : (ext : Extensions) (db : Db) → IsWellPlaced ext db → IsLawful ext db
of_places ext db is = record { rising = is.rising; relations = all_places (IsLawfulRelation ext db) db is.rising relation }
  where
    attachable : (k : Name) (a : Attached) → rule_at db k a.name ≡ Some a → is_mirror a.rule ≡ false → MayBeAttached ext db k a
    attachable k a found main = from_stands ext db k a (all_apart ext db is.made) found (is.placed k a found).mirrored main ((is.placed k a found).stands main)

    relation : (k : Name) (r : Relation) → relation_at db k ≡ Some r → IsLawfulRelation ext db k r
    relation k r there =
        let own : IsMade ext k r = is.made k r there in
        record {
          created = may_create ext [] (without_relation db k) k r.method r.schema r.key refl (gone db k) own.created;
          attached = each_rule (MayBeAttached ext db k) db k r there own.apart (λ a found main. attachable k a found main main);
          mirrored = each_rule (λ a. HasMirror db (mirror_name k a.name) (mirror_of k a.rule)) db k r there own.apart (λ a found. (is.placed k a found).mirrored);
          mirrors = each_rule (λ a. is_mirror a.rule ≡ true → IsMirrorOf db k a) db k r there own.apart (λ a found. (is.placed k a found).main);
          in_order = own.in_order;
          apart = to_twice r.attachments own.apart;
          rising = own.rising;
          rows = own.rows;
        }
