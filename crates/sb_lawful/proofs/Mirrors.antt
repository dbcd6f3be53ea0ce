-- Main instances and their mirrors in a lawful database: each has its own.
use Rattle.std.proofs.Common.{◌≡◌, Bool, true, false, ◌||◌, ◌⊎◌, inl, inr, List, [], ◌∷◌, ◌++◌, Option, Some, None, refl, sym, ap, subst, ◌∙◌}
use Rattle.std.specs.Prelude.{All, cond}
use Rattle.std.specs.List.{find}
use Rattle.std.specs.Str.{bytes_eq}
use Rattle.std.proofs.lemmas.Bool.{and_parts, and_from, or_left, or_right}
use Rattle.std.proofs.lemmas.List.Elements.{All-head, All-tail}
use Rattle.std.proofs.lemmas.Option.{same_Some}
use Rattle.sb_value.specs.Equal.{bytes_same}
use Rattle.sb_rule.specs.declared.rule.Rule.{Rule}
use Rattle.sb_rule.specs.declared.rule.Rule.TheVariants.{TreeIndex, HashIndex, JoinIndex, Stats, Check, Refers, Trigger, Foreign}
use Rattle.sb_rule.specs.declared.rule.Side.TheVariants.{Main, Mirror}
use Rattle.sb_relation.specs.Build.{mirror_name, mirror_of, main_of}
use Rattle.sb_relation.specs.Db.{Name, Attached, Db}
use Rattle.sb_relation.proofs.RuleLaws.{mirrors-mirror}
use Rattle.sb_fold.specs.Building.{rule_at, HasMirror}
use Rattle.sb_fold.specs.Extensions.{Extensions}
use Rattle.sb_fold.specs.Fold.{attachments_at}
use Rattle.sb_plain.specs.Printing.{is_mirror}
use Rattle.sb_lawful.proofs.Items.{is_named, found_name}
use Rattle.sb_lawful.proofs.Sparing.{is_at, gone_mirror, gone_mirrors}
use Rattle.sb_lawful.proofs.Placing.{IsPlaced, IsWellPlaced}

-- ---- truth values
pub or_true : (a b : Bool) → (a || b) ≡ true → (a ≡ true) ⊎ (b ≡ true)
or_true true b e = inl refl
or_true false b e = inr e

pub same_bool : (a b : Bool) → (a ≡ true → b ≡ true) → (b ≡ true → a ≡ true) → a ≡ b
same_bool true b f g = sym (f refl)
same_bool false true f g = g refl
same_bool false false f g = refl

-- ---- rules of mirrors
pub mirror_is : (name : Name) (rule : Rule) (other : Name) (mirror : Rule) → mirror_of name rule ≡ Some (other, mirror) → is_mirror mirror ≡ true
mirror_is name (JoinIndex Main columns o others) other mirror e = ap (λ (m : Name × Rule). is_mirror m.1) (sym (same_Some (o, JoinIndex Mirror others name columns) (other, mirror) e))
mirror_is name (Refers Main columns o others mode deferred) other mirror e =
    ap (λ (m : Name × Rule). is_mirror m.1) (sym (same_Some (o, Refers Mirror others name columns mode deferred) (other, mirror) e))
mirror_is name (JoinIndex Mirror columns o others) other mirror e = absurd (cc)
mirror_is name (Refers Mirror columns o others mode deferred) other mirror e = absurd (cc)
mirror_is name (TreeIndex columns unique) other mirror e = absurd (cc)
mirror_is name (HashIndex columns) other mirror e = absurd (cc)
mirror_is name (Stats column low width) other mirror e = absurd (cc)
mirror_is name (Check pred deferred) other mirror e = absurd (cc)
mirror_is name (Trigger on pred act deferred) other mirror e = absurd (cc)
mirror_is name (Foreign code desc) other mirror e = absurd (cc)

-- a mirror has no mirror
pub mirror_none : (rule : Rule) → is_mirror rule ≡ true → (name : Name) → mirror_of name rule ≡ None
mirror_none (JoinIndex Mirror columns o others) e name = refl
mirror_none (Refers Mirror columns o others mode deferred) e name = refl
mirror_none (JoinIndex Main columns o others) e name = absurd (cc)
mirror_none (Refers Main columns o others mode deferred) e name = absurd (cc)
mirror_none (TreeIndex columns unique) e name = absurd (cc)
mirror_none (HashIndex columns) e name = absurd (cc)
mirror_none (Stats column low width) e name = absurd (cc)
mirror_none (Check pred deferred) e name = absurd (cc)
mirror_none (Trigger on pred act deferred) e name = absurd (cc)
mirror_none (Foreign code desc) e name = absurd (cc)

-- ---- names of mirrors
cancel : (name xs ys : Name) → name ++ xs ≡ name ++ ys → xs ≡ ys
cancel [] xs ys e = e
cancel (b ∷ name) xs ys e = let rest : name ++ xs ≡ name ++ ys = cc in cancel name xs ys rest

pub same_label : (name label other : Name) → mirror_name name label ≡ mirror_name name other → label ≡ other
same_label name label other e = let rest : 46 ∷ label ≡ 46 ∷ other = cancel name (46 ∷ label) (46 ∷ other) e in cc

-- ---- places
pub at_parts : (name label k l : Name) → is_at name label k l ≡ true → (k ≡ name) × (l ≡ label)
at_parts name label k l e = let parts = and_parts (bytes_eq k name) (bytes_eq l label) e in ((bytes_same k name).0 parts.0, (bytes_same l label).0 parts.1)

pub at_from : (name label k l : Name) → k ≡ name → l ≡ label → is_at name label k l ≡ true
at_from name label k l e f = and_from (bytes_eq k name) (bytes_eq l label) ((bytes_same k name).1 e) ((bytes_same l label).1 f)

pub gone_mirror_from : (name label : Name) (mirror : Option (Name × Rule)) (other : Name) (rule : Rule) (l : Name) → mirror ≡ Some (other, rule) → l ≡ mirror_name name label → gone_mirror name label mirror other l ≡ true
gone_mirror_from name label mirror other rule l e f = ap (λ (m : Option (Name × Rule)). gone_mirror name label m other l) e ∙ at_from other (mirror_name name label) other l refl f

-- the place is that of the mirror of this main instance on the named relation
pub record IsMirrorAt (db : Db) (name : Name) (main : Attached) (k l : Name) : Type 0 where
  pub found : rule_at db name main.name ≡ Some main
  pub rule : Rule
  pub mirror : mirror_of name main.rule ≡ Some (k, rule)
  pub label : l ≡ mirror_name name main.name

pub gone_mirror_is : (db : Db) (name : Name) (a : Attached) (k l : Name) → rule_at db name a.name ≡ Some a → gone_mirror name a.name (mirror_of name a.rule) k l ≡ true → IsMirrorAt db name a k l
gone_mirror_is db name a k l found e = by (mirror_of name a.rule) refl e
  where
    by : (mirror : Option (Name × Rule)) → mirror_of name a.rule ≡ mirror → gone_mirror name a.name mirror k l ≡ true → IsMirrorAt db name a k l
    by None is e' = absurd (cc)
    by (Some (other, rule)) is e' =
        let parts : (k ≡ other) × (l ≡ mirror_name name a.name) = at_parts other (mirror_name name a.name) k l e' in
        record { found = found; rule = rule; mirror = is ∙ ap (λ (n : Name). Some (n, rule)) (sym parts.0); label = parts.1 }

pub gone_mirrors_is : (db : Db) (name k l : Name) (items : List Attached) → All (λ a. rule_at db name a.name ≡ Some a) items → gone_mirrors name items k l ≡ true → (main : Attached) × IsMirrorAt db name main k l
gone_mirrors_is db name k l [] all e = absurd (cc)
gone_mirrors_is db name k l (a ∷ items) all e =
    by (or_true (gone_mirror name a.name (mirror_of name a.rule) k l) (gone_mirrors name items k l) e) (gone_mirrors_is db name k l items (All-tail (λ x. rule_at db name x.name ≡ Some x) a items all))
  where
    by : (gone_mirror name a.name (mirror_of name a.rule) k l ≡ true) ⊎ (gone_mirrors name items k l ≡ true) → (gone_mirrors name items k l ≡ true → (main : Attached) × IsMirrorAt db name main k l) → (main : Attached) × IsMirrorAt db name main k l
    by (inl this) rest = (a, gone_mirror_is db name a k l (All-head (λ x. rule_at db name x.name ≡ Some x) a items all) this)
    by (inr that) rest = rest that

pub gone_mirrors_from : (name label : Name) (items : List Attached) (a : Attached) (other : Name) (rule : Rule) → find (is_named label) items ≡ Some a → mirror_of name a.rule ≡ Some (other, rule)
    → gone_mirrors name items other (mirror_name name label) ≡ true
gone_mirrors_from name label [] a other rule found e = absurd (cc)
gone_mirrors_from name label (x ∷ items) a other rule found e = by (bytes_eq x.name label) refl found (λ later. gone_mirrors_from name label items a other rule later e)
  where
    by : (b : Bool) → bytes_eq x.name label ≡ b → cond b (Some x) (find (is_named label) items) ≡ Some a → (find (is_named label) items ≡ Some a → gone_mirrors name items other (mirror_name name label) ≡ true)
        → gone_mirrors name (x ∷ items) other (mirror_name name label) ≡ true
    by true same is rest =
        let it : x ≡ a = same_Some x a is in
        or_left (gone_mirror name x.name (mirror_of name x.rule) other (mirror_name name label)) (gone_mirrors name items other (mirror_name name label))
        (gone_mirror_from name x.name (mirror_of name x.rule) other rule (mirror_name name label) (ap (λ (y : Attached). mirror_of name y.rule) it ∙ e) (ap (mirror_name name) (sym ((bytes_same x.name label).0 same))))
    by false differs is rest = or_right (gone_mirror name x.name (mirror_of name x.rule) other (mirror_name name label)) (gone_mirrors name items other (mirror_name name label)) (rest is)

-- ---- in a lawful database
-- the mirror that stands
pub record Mirrored (db : Db) (other label : Name) (rule : Rule) : Type 0 where
  pub one : Attached
  pub stands : rule_at db other label ≡ Some one
  pub same : one.rule ≡ rule

module _ (ext : Extensions) (db : Db) (is : IsWellPlaced ext db) where
  pub placed_at : (k label : Name) (a : Attached) → rule_at db k label ≡ Some a → IsPlaced ext db k a
  placed_at k label a found = is.placed k a (ap (rule_at db k) (found_name label (attachments_at db k) a found) ∙ found)

  pub mirrored_at : (k label : Name) (main : Attached) (other : Name) (rule : Rule) → rule_at db k label ≡ Some main → mirror_of k main.rule ≡ Some (other, rule) → Mirrored db other (mirror_name k label) rule
  mirrored_at k label main other rule found e =
      let has : HasMirror db (mirror_name k main.name) (Some (other, rule)) = subst (HasMirror db (mirror_name k main.name)) e (placed_at k label main found).mirrored in
      record { one = has.0; stands = ap (λ (l : Name). rule_at db other (mirror_name k l)) (sym (found_name label (attachments_at db k) main found)) ∙ has.1; same = has.2 }

  -- no main instance stands where a mirror does
  pub never_main : (name : Name) (owner : Attached) (k label : Name) (a : Attached) (other : Name) (rule : Rule) → IsMirrorAt db name owner k label → rule_at db k label ≡ Some a → mirror_of k a.rule ≡ Some (other, rule) → ⊥
  never_main name owner k label a other rule mirror found e =
      let it : Mirrored db k (mirror_name name owner.name) mirror.rule = mirrored_at name owner.name owner k mirror.rule mirror.found mirror.mirror in
      let same : a ≡ it.one = same_Some a it.one (sym found ∙ ap (rule_at db k) mirror.label ∙ it.stands) in
      let none : mirror_of k mirror.rule ≡ None = mirror_none mirror.rule (mirror_is name owner.rule k mirror.rule mirror.mirror) k in
      let again : mirror_of k a.rule ≡ None = ap (λ (x : Attached). mirror_of k x.rule) same ∙ ap (mirror_of k) it.same ∙ none in
      absurd (cc)

  -- two main instances with one mirror are one
  pub one_main : (name : Name) (owner : Attached) (k label : Name) (main : Attached) (other : Name) (rule : Rule) → IsMirrorAt db name owner other (mirror_name k label) → rule_at db k label ≡ Some main → mirror_of k main.rule ≡ Some (other, rule)
      → (k ≡ name) × (label ≡ owner.name)
  one_main name owner k label main other rule mirror found e =
      let own : Mirrored db other (mirror_name k label) rule = mirrored_at k label main other rule found e in
      let its : Mirrored db other (mirror_name name owner.name) mirror.rule = mirrored_at name owner.name owner other mirror.rule mirror.found mirror.mirror in
      let one : own.one ≡ its.one = same_Some own.one its.one (sym own.stands ∙ ap (rule_at db other) mirror.label ∙ its.stands) in
      let rules : rule ≡ mirror.rule = sym own.same ∙ ap (λ (x : Attached). x.rule) one ∙ its.same in
      let first : main_of other rule ≡ Some (k, main.rule) = mirrors-mirror k other main.rule rule e in
      let second : main_of other mirror.rule ≡ Some (name, owner.rule) = mirrors-mirror name other owner.rule mirror.rule mirror.mirror in
      let both : (k, main.rule) ≡ (name, owner.rule) = same_Some (k, main.rule) (name, owner.rule) (sym first ∙ ap (main_of other) rules ∙ second) in
      let named : k ≡ name = ap (λ (m : Name × Rule). m.0) both in
      (named, same_label name label owner.name (ap (λ (n : Name). mirror_name n label) (sym named) ∙ mirror.label))
