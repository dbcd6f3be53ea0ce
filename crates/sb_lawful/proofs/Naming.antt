-- Names without dots: those of mirrors have one, so they are no name of a main instance, and building commands of the language never take one.
use Rattle.std.proofs.Common.{◌≡◌, ℕ, ◌==◌, Bool, true, false, not, ◌⊎◌, inl, inr, List, [], ◌∷◌, Option, Some, None, is_none, refl, sym, ap, subst, ◌∙◌}
use Rattle.std.specs.Prelude.{cond}
use Rattle.std.specs.List.{find, list_any}
use Rattle.std.specs.Str.{bytes_eq}
use Rattle.std.specs.FinMap.Entries.{where_key}
use Rattle.std.proofs.lemmas.Bool.{or_parts, or_right, true≢false}
use Rattle.sb_value.specs.Order.{bytes_cmp}
use Rattle.sb_rule.specs.declared.rule.Rule.{Rule}
use Rattle.sb_relation.specs.Build.{mirror_name, mirror_of, with_rule}
use Rattle.sb_relation.specs.Db.{Name, Attached, Relation, Db, relation_at, with_relation}
use Rattle.sb_fold.specs.Building.{rule_at, has_long_row, without_rule, without_mirrors, without_relation}
use Rattle.sb_fold.specs.Extensions.{Extensions}
use Rattle.sb_fold.specs.Fold.{attachments_at}
use Rattle.sb_plain.specs.declared.command.Command.TheVariants as command
use Rattle.sb_plain.specs.Lawful.{MayBe, IsMirrorOf, IsLawful}
use Rattle.sb_plain.specs.Printing.{is_mirror}
use Rattle.sb_plain.specs.Refusing.{rule_twice}
use Rattle.sb_lawful.specs.Laws.{IsFreeFor, IsMirrorFree, IsDotless, HasDotlessNames, IsWellNamed, DotlessIsNoMirror, DotlessIsMirrorFree, BuildingLeavesWellNamed}
use Rattle.sb_lawful.proofs.Items.{is_named, found_name, same_or_apart}
use Rattle.sb_lawful.proofs.Places.{relation_other, relation_without, items_in, alike_there, rule_there}
use Rattle.sb_lawful.proofs.Sparing.{Places, IsSpared, alike_spared, rule_spared, gone_rule, spared_rule, gone_mirrors, spared_mirrors}
use Rattle.sb_lawful.proofs.Attachable.{tied}
use Rattle.sb_lawful.proofs.Placing.{to_places}
use Rattle.sb_lawful.proofs.Mirrors.{placed_at}
use Rattle.sb_lawful.proofs.Creating.{unless_there, rule_same, created-lawful}
use Rattle.sb_lawful.proofs.Detaching.{detached-lawful}
use Rattle.sb_lawful.proofs.Dropping.{dropped-lawful}
use Rattle.sb_lawful.proofs.Attaching.{IsWith, both, alike, unless_taken, attached-lawful}
use Rattle.sb_lawful.proofs.Commands.{lawful_empty, created_step, detached_step, dropped_step}
use Rattle.sb_lawful.proofs.AttachSteps.{attached_step}

-- ---- dots
has_dot : (name label : Name) → list_any (λ b. b == 46) (mirror_name name label) ≡ true
has_dot [] label = refl
has_dot (b ∷ name) label = or_right (b == 46) (list_any (λ x. x == 46) (mirror_name name label)) (has_dot name label)

no_dot : (b : ℕ) (name : Name) → ◌≡◌ {A = ℕ} 46 b → IsDotless (b ∷ name) → ⊥
no_dot b name e dotless = true≢false (ap (λ (n : ℕ). n == 46) e ∙ (or_parts (b == 46) (list_any (λ x. x == 46) name) dotless).0)

-- the first dot parts the relation's name and the main instance's
parted : (name other label l : Name) → IsDotless name → IsDotless other → mirror_name name label ≡ mirror_name other l → (name ≡ other) × (label ≡ l)
parted [] [] label l d f e = let same : label ≡ l = cc in (refl, same)
parted [] (c ∷ other) label l d f e = let same : ◌≡◌ {A = ℕ} 46 c = cc in absurd (no_dot c other same f)
parted (b ∷ name) [] label l d f e = let same : ◌≡◌ {A = ℕ} 46 b = cc in absurd (no_dot b name same d)
parted (b ∷ name) (c ∷ other) label l d f e =
    let same : b ≡ c = cc in
    let rest : mirror_name name label ≡ mirror_name other l = cc in
    let parts : (name ≡ other) × (label ≡ l) =
    parted name other label l (or_parts (b == 46) (list_any (λ x. x == 46) name) d).1 (or_parts (c == 46) (list_any (λ x. x == 46) other) f).1 rest in
    ((λ i. same i ∷ parts.0 i), parts.1)

-- a mirror's name has a dot
mirror_dot : (ext : Extensions) (db : Db) → IsLawful ext db → (k label : Name) (a : Attached) → rule_at db k label ≡ Some a → is_mirror a.rule ≡ true → list_any (λ b. b == 46) label ≡ true
mirror_dot ext db lawful k label a found e =
    let it : IsMirrorOf db k a = (placed_at ext db (to_places ext db lawful) k label a found).main e in
    ap (list_any (λ b. b == 46)) (sym (found_name label (attachments_at db k) a found) ∙ it.label) ∙ has_dot it.other it.main.name

pub dotless-no-mirror : DotlessIsNoMirror
dotless-no-mirror ext db k label dotless lawful a found = by (is_mirror a.rule) refl
  where
    by : (b : Bool) → is_mirror a.rule ≡ b → b ≡ false
    by true e = absurd (true≢false (sym (mirror_dot ext db lawful k label a found e) ∙ dotless))
    by false e = refl

pub dotless-mirror-free : DotlessIsMirrorFree
dotless-mirror-free ext db name label rule plain dotless new is = by (mirror_of name rule)
  where
    taken : (other : Name) (a : Attached) → rule_at db other (mirror_name name label) ≡ Some a → (b : Bool) → is_mirror a.rule ≡ b → ⊥
    taken other a found false e = true≢false (sym (has_dot name label) ∙ is.names.mains other (mirror_name name label) a found e)
    taken other a found true e =
        let it : IsMirrorOf db other a = (placed_at ext db (to_places ext db is.lawful) other (mirror_name name label) a found).main e in
        let called : mirror_name name label ≡ mirror_name it.other it.main.name = sym (found_name (mirror_name name label) (attachments_at db other) a found) ∙ it.label in
        let parts : (name ≡ it.other) × (label ≡ it.main.name) = parted name it.other label it.main.name plain (is.names.relations it.other (rule_there db it.other it.main.name it.main it.stands)) called in
        let stands : rule_at db name label ≡ Some it.main = ap (λ (n : Name). rule_at db n label) parts.0 ∙ ap (rule_at db it.other) parts.1 ∙ it.stands in
        absurd (cc)

    free : (other : Name) (o : Option Attached) → rule_at db other (mirror_name name label) ≡ o → o ≡ None
    free other None e = refl
    free other (Some a) e = absurd (taken other a e (is_mirror a.rule) refl)

    by : (mirror : Option (Name × Rule)) → IsFreeFor db (mirror_name name label) mirror
    by None = tt
    by (Some (other, m)) = free other (rule_at db other (mirror_name name label)) refl

-- ---- names when relations and attachments come and go
created_names : (db : Db) (name : Name) (r : Relation) → relation_at db name ≡ None → r.attachments ≡ [] → (ext : Extensions) → IsDotless name → HasDotlessNames db → HasDotlessNames (with_relation db name r)
created_names db name r new empty ext dotless names = record {
  relations = λ k there. by k there (same_or_apart k name);
  mains = λ k l a found main. names.mains k l a (sym (rule_same ext db name r new empty k l) ∙ found) main;
}
  where
    by : (k : Name) → is_none (relation_at (with_relation db name r) k) ≡ false → (k ≡ name) ⊎ (bytes_eq k name ≡ false) → IsDotless k
    by k there (inl same) = subst IsDotless (sym same) dotless
    by k there (inr differs) = names.relations k (ap is_none (sym (relation_other db name r k differs)) ∙ there)

was_some : (g : Bool) (o : Option Attached) (a : Attached) → cond g None o ≡ Some a → o ≡ Some a
was_some true o a e = absurd (cc)
was_some false o a e = e

spared_names : (gone : Places) (db db' : Db) → IsSpared gone db db' → HasDotlessNames db → HasDotlessNames db'
spared_names gone db db' is names = record {
  relations = λ k there. names.relations k (alike_there db db' k (alike_spared gone db db' is k) ∙ there);
  mains = λ k l a found main. names.mains k l a (was_some (gone k l) (rule_at db k l) a (sym (rule_spared gone db db' is k l) ∙ found)) main;
}

left_names : (db : Db) (name : Name) → HasDotlessNames db → HasDotlessNames (where_key bytes_cmp (λ n. not (bytes_eq n name)) db)
left_names db name names = record {
  relations = λ k there. names.relations k (is_there (not (bytes_eq k name)) (relation_at db k) (ap is_none (sym (relation_without db name k)) ∙ there));
  mains = λ k l a found main.
      names.mains k l a (is_found (not (bytes_eq k name)) l (relation_at db k) a (ap (λ (o : Option Relation). find (is_named l) (items_in o)) (sym (relation_without db name k)) ∙ found)) main;
}
  where
    is_there : (b : Bool) (o : Option Relation) → is_none (cond b o None) ≡ false → is_none o ≡ false
    is_there true o e = e
    is_there false o e = absurd (cc)

    is_found : (b : Bool) (l : Name) (o : Option Relation) (a : Attached) → find (is_named l) (items_in (cond b o None)) ≡ Some a → find (is_named l) (items_in o) ≡ Some a
    is_found true l o a e = e
    is_found false l o a e = absurd (cc)

dropped_names : (db : Db) (name : Name) → HasDotlessNames db → HasDotlessNames (without_relation db name)
dropped_names db name names =
    let items : List Attached = attachments_at db name in
    left_names (without_mirrors name items db) name (spared_names (gone_mirrors name items) db (without_mirrors name items db) (spared_mirrors db name items) names)

module _ (ext : Extensions) (db : Db) (name label : Name) (rule : Rule) (dotless : IsDotless label) (main : is_mirror rule ≡ false) (may : MayBe ext db (command.Attach name label rule)) (is : IsWellNamed ext db) where
  new : rule_at db name label ≡ None
  new = unless_taken (rule_at db name label) label (rule_twice rule) may.new

  free : IsMirrorFree db name label rule
  free = dotless-mirror-free ext db name label rule (is.names.relations name (tied db name rule may.there).here) dotless new is

  abbrev after : Db
  after = with_rule db name label rule

  it : IsWith db after name label rule
  it = both ext db name label rule may main new free (to_places ext db is.lawful)

  main_names : (k l : Name) (a : Attached) → rule_at after k l ≡ Some a → is_mirror a.rule ≡ false
      → (rule_at db k l ≡ Some a) ⊎ (((k ≡ name) × (a ≡ record { name = label; rule = rule; buckets = it.buckets })) ⊎ (IsMirrorOf after k a × (is_mirror a.rule ≡ true))) → IsDotless l
  main_names k l a found own (inl stood) = is.names.mains k l a stood own
  main_names k l a found own (inr (inl one)) = subst IsDotless (sym (ap (λ (x : Attached). x.name) one.1) ∙ found_name l (attachments_at after k) a found) dotless
  main_names k l a found own (inr (inr mirror)) = absurd (true≢false (sym mirror.1 ∙ own))

  attached_named : has_long_row db name rule ≡ false → IsWellNamed ext after
  attached_named short = record {
    lawful = attached-lawful ext db name label rule may main free short is.lawful;
    names = record {
      relations = λ k there. is.names.relations k (alike_there db after k (alike ext db name label rule may main new free (to_places ext db is.lawful) k) ∙ there);
      mains = λ k l a found own. main_names k l a found own (it.was k l a found);
    };
  }

-- ---- steps
empty_named : (ext : Extensions) → IsWellNamed ext []
empty_named ext = record { lawful = lawful_empty ext; names = record { relations = λ k there. absurd (cc); mains = λ k l a found main. absurd (cc) } }

pub building-leaves : BuildingLeavesWellNamed
building-leaves ext s (command.Create name method schema key) picks dotless =
    created_step (IsWellNamed ext) (empty_named ext) ext s picks name method schema key (λ db may is. record {
      lawful = created-lawful ext db name method schema key may is.lawful;
      names = created_names db name (record { method = method; schema = schema; key = key; rows = []; attachments = [] }) (unless_there (relation_at db name) name _ may.new) refl ext dotless is.names;
    })
building-leaves ext s (command.Drop name) picks dotless =
    dropped_step (IsWellNamed ext) (empty_named ext) ext s picks name (λ db unused is. record { lawful = dropped-lawful ext db name unused is.lawful; names = dropped_names db name is.names })
building-leaves ext s (command.Attach name label rule) picks is =
    attached_step (IsWellNamed ext) (empty_named ext) ext s picks name label rule (λ db same may short named. attached_named ext db name label rule is.0 is.1 may named short)
building-leaves ext s (command.Detach name label) picks dotless =
    detached_step (IsWellNamed ext) (empty_named ext) ext s picks name label (λ db same a found is. record {
      lawful = detached-lawful ext db name label a found (dotless-no-mirror ext db name label dotless is.lawful a found) is.lawful;
      names = spared_names (gone_rule name a) db (without_rule db name a) (spared_rule db name a) is.names;
    })
building-leaves ext s _ picks is = absurd is
