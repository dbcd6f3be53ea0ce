-- Mirrors and main instances stand in pairs, when rules come and go.
use Rattle.std.proofs.Common.{◌≡◌, List, [], ◌∷◌, ◌++◌, All, Option, Some, None, bytes_eq, refl, sym, ap, subst, ◌∙◌}
use Rattle.std.proofs.lemmas.List.Elements.{All-weaker}
use Rattle.std.proofs.lemmas.Option.{same_Some}
use Rattle.sb_rule.specs.declared.rule.Side.TheVariants.{Main, Mirror}
use Rattle.sb_rule.specs.declared.rule.Rule.{Rule}
use Rattle.sb_rule.specs.declared.rule.Rule.TheVariants.{TreeIndex, HashIndex, JoinIndex, Stats, Check, Refers, Trigger, Foreign}
use Rattle.sb_relation.specs.Build.{main_of, mirror_name, mirror_of, with_attached}
use Rattle.sb_relation.specs.Db.{Name, Attached, Relation, Db, relation_at}
use Rattle.sb_relation.proofs.RuleLaws.{mirrors-mirror}
use Rattle.sb_fold.specs.Building.{rule_at, without_attached, without_mirror, without_rule, HasMirror}
use Rattle.sb_fold.specs.Fold.{attachments_at}
use Rattle.sb_deferred.specs.Complete.{AreMirrored}
use Rattle.sb_tables.specs.Working.{ArePaired, HasMainOf}
use Rattle.sb_building.specs.Attaching.{new_attached}
use Rattle.sb_building.proofs.NameLemmas.{All-attached, All-left, IsLeft, found-all, rule_at-left, rule_at-new, rule_at-still}

-- ---- rules of two sides
-- a mirror has no mirror
pub no_mirror : (name other relation : Name) (rule mirror : Rule) → mirror_of name rule ≡ Some (other, mirror) → mirror_of relation mirror ≡ None
no_mirror name other relation rule mirror is = by rule is
  where
    along : (p : Name × Rule) → mirror_of relation p.1 ≡ None → Some p ≡ Some (other, mirror) → mirror_of relation mirror ≡ None
    along p none same = ap (λ (q : Name × Rule). mirror_of relation q.1) (sym (same_Some p (other, mirror) same)) ∙ none

    by : (rule : Rule) → mirror_of name rule ≡ Some (other, mirror) → mirror_of relation mirror ≡ None
    by (JoinIndex Main columns o others) is = along (o, JoinIndex Mirror others name columns) refl is
    by (Refers Main columns o others mode deferred) is = along (o, Refers Mirror others name columns mode deferred) refl is
    by (JoinIndex Mirror columns o others) is = absurd (cc)
    by (Refers Mirror columns o others mode deferred) is = absurd (cc)
    by (TreeIndex columns unique) is = absurd (cc)
    by (HashIndex columns) is = absurd (cc)
    by (Stats column low width) is = absurd (cc)
    by (Check pred deferred) is = absurd (cc)
    by (Trigger on pred act deferred) is = absurd (cc)
    by (Foreign code desc) is = absurd (cc)

-- the mirror of a mirror's main instance is the mirror, and that is no mirror itself
pub record IsMain (name other : Name) (rule main : Rule) : Type 0 where
  pub mirror : mirror_of other main ≡ Some (name, rule)
  pub first : (relation : Name) → main_of relation main ≡ None

pub main-mirrors : (name other : Name) (rule main : Rule) → main_of name rule ≡ Some (other, main) → IsMain name other rule main
main-mirrors name other rule main is = by rule is
  where
    along : (rule : Rule) (p : Name × Rule) → IsMain name p.0 rule p.1 → Some p ≡ Some (other, main) → IsMain name other rule main
    along rule p so same = subst (λ (q : Name × Rule). IsMain name q.0 rule q.1) (same_Some p (other, main) same) so

    by : (rule : Rule) → main_of name rule ≡ Some (other, main) → IsMain name other rule main
    by (JoinIndex Mirror columns o others) is = along (JoinIndex Mirror columns o others) (o, JoinIndex Main others name columns) (record { mirror = refl; first = λ relation. refl }) is
    by (Refers Mirror columns o others mode deferred) is = along (Refers Mirror columns o others mode deferred) (o, Refers Main others name columns mode deferred) (record { mirror = refl; first = λ relation. refl }) is
    by (JoinIndex Main columns o others) is = absurd (cc)
    by (Refers Main columns o others mode deferred) is = absurd (cc)
    by (TreeIndex columns unique) is = absurd (cc)
    by (HashIndex columns) is = absurd (cc)
    by (Stats column low width) is = absurd (cc)
    by (Check pred deferred) is = absurd (cc)
    by (Trigger on pred act deferred) is = absurd (cc)
    by (Foreign code desc) is = absurd (cc)

-- ---- what was found still is
abbrev pub Finds : Db → Db → Type 0
Finds db after = (n l : Name) (a : Attached) → rule_at db n l ≡ Some a → rule_at after n l ≡ Some a

HasMirror-still : (db after : Db) → Finds db after → (label : Name) (mirror : Option (Name × Rule)) → HasMirror db label mirror → HasMirror after label mirror
HasMirror-still db after still label None has = tt
HasMirror-still db after still label (Some (other, rule)) has = (has.0, still other label has.0 has.1, has.2)

HasMainOf-still : (db after : Db) → Finds db after → (a : Attached) (main : Option (Name × Rule)) → HasMainOf db a main → HasMainOf after a main
HasMainOf-still db after still a None has = tt
HasMainOf-still db after still a (Some (other, rule)) has = record { main = has.main; at = still other has.main.name has.main has.at; is = has.is; named = has.named }

-- ---- one comes
-- a main instance without a mirror
module _ (db : Db) (relation label : Name) (rule : Rule) (r : Relation) (there : relation_at db relation ≡ Some r) (free : rule_at db relation label ≡ None) where
  pub still_found : Finds db (with_attached db relation label rule)
  still_found n l a is = rule_at-still db relation label rule r there free n l a is

  pub mirrored-alone : mirror_of relation rule ≡ None → AreMirrored db → AreMirrored (with_attached db relation label rule)
  mirrored-alone alone mirrored n =
      let after = with_attached db relation label rule in
      All-attached db relation label rule r there (λ a. HasMirror after (mirror_name n a.name) (mirror_of n a.rule)) n
      (λ on. subst (λ (o : Option (Name × Rule)). HasMirror after (mirror_name n label) o) (sym (ap (λ (x : Name). mirror_of x rule) on ∙ alone)) tt)
      (All-weaker (λ (a : Attached). HasMirror db (mirror_name n a.name) (mirror_of n a.rule)) (λ (a : Attached). HasMirror after (mirror_name n a.name) (mirror_of n a.rule))
      (λ a has. HasMirror-still db after still_found (mirror_name n a.name) (mirror_of n a.rule) has) (attachments_at db n) (mirrored n))

  pub paired-alone : main_of relation rule ≡ None → ArePaired db → ArePaired (with_attached db relation label rule)
  paired-alone main paired n =
      let after = with_attached db relation label rule in
      All-attached db relation label rule r there (λ a. HasMainOf after a (main_of n a.rule)) n
      (λ on. subst (λ (o : Option (Name × Rule)). HasMainOf after (new_attached label rule r) o) (sym (ap (λ (x : Name). main_of x rule) on ∙ main)) tt)
      (All-weaker (λ (a : Attached). HasMainOf db a (main_of n a.rule)) (λ (a : Attached). HasMainOf after a (main_of n a.rule))
      (λ a has. HasMainOf-still db after still_found a (main_of n a.rule) has) (attachments_at db n) (paired n))

-- a main instance with its mirror
module _ (db : Db) (relation label : Name) (rule : Rule) (r : Relation) (there : relation_at db relation ≡ Some r) (free : rule_at db relation label ≡ None) (other : Name) (mirror : Rule) (q : Relation)
    (is : mirror_of relation rule ≡ Some (other, mirror)) (there_too : relation_at (with_attached db relation label rule) other ≡ Some q)
    (free_too : rule_at (with_attached db relation label rule) other (mirror_name relation label) ≡ None) where
  abbrev first : Db
  first = with_attached db relation label rule

  abbrev both : Db
  both = with_attached first other (mirror_name relation label) mirror

  finds_first : Finds db first
  finds_first n l a at = rule_at-still db relation label rule r there free n l a at

  finds_both : Finds first both
  finds_both n l a at = rule_at-still first other (mirror_name relation label) mirror q there_too free_too n l a at

  finds_all : Finds db both
  finds_all n l a at = finds_both n l a (finds_first n l a at)

  pub mirrored-both : AreMirrored db → AreMirrored both
  mirrored-both mirrored n =
      All-attached first other (mirror_name relation label) mirror q there_too (λ a. HasMirror both (mirror_name n a.name) (mirror_of n a.rule)) n
      (λ on. subst (λ (o : Option (Name × Rule)). HasMirror both (mirror_name n (mirror_name relation label)) o) (sym (no_mirror relation other n rule mirror is)) tt)
      (All-attached db relation label rule r there (λ a. HasMirror both (mirror_name n a.name) (mirror_of n a.rule)) n
      (λ on. subst (λ (x : Name). HasMirror both (mirror_name x label) (mirror_of x rule)) (sym on)
      (subst (λ (o : Option (Name × Rule)). HasMirror both (mirror_name relation label) o) (sym is)
      (new_attached (mirror_name relation label) mirror q, rule_at-new first other (mirror_name relation label) mirror q there_too free_too, refl)))
      (All-weaker (λ (a : Attached). HasMirror db (mirror_name n a.name) (mirror_of n a.rule)) (λ (a : Attached). HasMirror both (mirror_name n a.name) (mirror_of n a.rule))
      (λ a has. HasMirror-still db both finds_all (mirror_name n a.name) (mirror_of n a.rule) has) (attachments_at db n) (mirrored n)))

  pub paired-both : main_of relation rule ≡ None → ArePaired db → ArePaired both
  paired-both main paired n =
      All-attached first other (mirror_name relation label) mirror q there_too (λ a. HasMainOf both a (main_of n a.rule)) n
      (λ on. subst (λ (o : Option (Name × Rule)). HasMainOf both (new_attached (mirror_name relation label) mirror q) o) (sym (ap (λ (x : Name). main_of x mirror) on ∙ mirrors-mirror relation other rule mirror is))
      (record {
        main = new_attached label rule r;
        at = finds_both relation label (new_attached label rule r) (rule_at-new db relation label rule r there free);
        is = refl;
        named = refl;
      }))
      (All-attached db relation label rule r there (λ a. HasMainOf both a (main_of n a.rule)) n
      (λ on. subst (λ (o : Option (Name × Rule)). HasMainOf both (new_attached label rule r) o) (sym (ap (λ (x : Name). main_of x rule) on ∙ main)) tt)
      (All-weaker (λ (a : Attached). HasMainOf db a (main_of n a.rule)) (λ (a : Attached). HasMainOf both a (main_of n a.rule))
      (λ a has. HasMainOf-still db both finds_all a (main_of n a.rule) has) (attachments_at db n) (paired n)))

-- ---- one goes, with its mirror
same_tail : {X : Type 0} (xs ys zs : List X) → xs ++ ys ≡ xs ++ zs → ys ≡ zs
same_tail [] ys zs is = is
same_tail (x ∷ xs) ys zs is = same_tail xs ys zs (cc)

-- names of mirrors tell those of main instances of one relation
mirror_names : (relation a b : Name) → mirror_name relation a ≡ mirror_name relation b → a ≡ b
mirror_names relation a b is = tails a b (same_tail relation (46 ∷ a) (46 ∷ b) is)
  where
    tails : (a b : Name) → 46 ∷ a ≡ 46 ∷ b → a ≡ b
    tails a b e = cc

-- this name is that of the mirror that goes
abbrev pub IsGone : Name → Name → Option (Name × Rule) → Name → Name → Type 0
IsGone relation label None n l = ⊥
IsGone relation label (Some (other, rule)) n l = (n ≡ other) × (l ≡ mirror_name relation label)

found-left : (db : Db) (relation label : Name) (mirror : Option (Name × Rule)) (n l : Name) (a : Attached) → (n ≡ relation → l ≡ label → ⊥) → (IsGone relation label mirror n l → ⊥) → rule_at db n l ≡ Some a
    → rule_at (without_mirror relation label mirror (without_attached db relation label)) n l ≡ Some a
found-left db relation label None n l a apart still is = rule_at-left db relation label n l a apart is
found-left db relation label (Some (other, rule)) n l a apart still is =
    rule_at-left (without_attached db relation label) other (mirror_name relation label) n l a (λ on same. still (on, same)) (rule_at-left db relation label n l a apart is)

-- an attachment that is left isn't one of the two
record IsBoth (P : Attached → Type 0) (relation label : Name) (mirror : Option (Name × Rule)) (n : Name) (a : Attached) : Type 0 where
  pub so : P a
  pub other : n ≡ relation → a.name ≡ label → ⊥
  pub still : IsGone relation label mirror n a.name → ⊥

all-left : (P : Attached → Type 0) (db : Db) (relation label : Name) (mirror : Option (Name × Rule)) (n : Name) → All P (attachments_at db n)
    → All (IsBoth P relation label mirror n) (attachments_at (without_mirror relation label mirror (without_attached db relation label)) n)
all-left P db relation label None n all =
    All-weaker (λ (a : Attached). P a × IsLeft relation label n a) (IsBoth P relation label None n) (λ a both. record { so = both.0; other = both.1; still = λ gone. gone })
    (attachments_at (without_attached db relation label) n) (All-left P db relation label n all)
all-left P db relation label (Some (other, rule)) n all =
    All-weaker (λ (a : Attached). (P a × IsLeft relation label n a) × IsLeft other (mirror_name relation label) n a) (IsBoth P relation label (Some (other, rule)) n)
    (λ a both. record { so = both.0.0; other = both.0.1; still = λ gone. both.1 gone.0 gone.1 })
    (attachments_at (without_attached (without_attached db relation label) other (mirror_name relation label)) n)
    (All-left (λ (a : Attached). P a × IsLeft relation label n a) (without_attached db relation label) other (mirror_name relation label) n (All-left P db relation label n all))

module _ (db : Db) (relation : Name) (a : Attached) (there : rule_at db relation a.name ≡ Some a) (main : main_of relation a.rule ≡ None) (mirrored : AreMirrored db) where
  abbrev left : Db
  left = without_rule db relation a

  -- its own mirror
  has_own : HasMirror db (mirror_name relation a.name) (mirror_of relation a.rule)
  has_own = found-all (λ b. HasMirror db (mirror_name relation b.name) (mirror_of relation b.rule)) (λ b. bytes_eq b.name a.name) (attachments_at db relation) a (mirrored relation) there

  one_found : (n m l k : Name) (b c : Attached) → n ≡ m → l ≡ k → rule_at db n l ≡ Some b → rule_at db m k ≡ Some c → b ≡ c
  one_found n m l k b c on same one two = same_Some b c (sym one ∙ (λ i. rule_at db (on i) (same i)) ∙ two)

  nothing : {X : Type 0} (x : X) → Some x ≡ None → ⊥
  nothing x e = absurd (cc)

  -- the mirror of another one isn't the attachment that goes
  not_it : (n : Name) (b : Attached) (o : Name) (mr : Rule) (c : Attached) → mirror_of n b.rule ≡ Some (o, mr) → rule_at db o (mirror_name n b.name) ≡ Some c → c.rule ≡ mr → o ≡ relation → mirror_name n b.name ≡ a.name → ⊥
  not_it n b o mr c is at same on named =
      let it : c ≡ a = one_found o relation (mirror_name n b.name) a.name c a on named at there in
      let rule : mr ≡ a.rule = sym same ∙ ap (λ (x : Attached). x.rule) it in
      nothing (n, b.rule) (sym (mirrors-mirror n o b.rule mr is) ∙ (λ i. main_of (on i) (rule i)) ∙ main)

  -- nor its mirror
  not_mirror : (n : Name) (b : Attached) (o : Name) (mr : Rule) (c : Attached) → (n ≡ relation → b.name ≡ a.name → ⊥) → mirror_of n b.rule ≡ Some (o, mr) → rule_at db o (mirror_name n b.name) ≡ Some c → c.rule ≡ mr
      → IsGone relation a.name (mirror_of relation a.rule) o (mirror_name n b.name) → ⊥
  not_mirror n b o mr c apart is at same = by (mirror_of relation a.rule) refl has_own
    where
      by : (mirror : Option (Name × Rule)) → mirror_of relation a.rule ≡ mirror → HasMirror db (mirror_name relation a.name) mirror → IsGone relation a.name mirror o (mirror_name n b.name) → ⊥
      by None own has gone = gone
      by (Some (other, mrule)) own has gone =
          let it : c ≡ has.0 = one_found o other (mirror_name n b.name) (mirror_name relation a.name) c has.0 gone.0 gone.1 at has.1 in
          let rule : mr ≡ mrule = sym same ∙ ap (λ (x : Attached). x.rule) it ∙ has.2 in
          let mains : Some (n, b.rule) ≡ Some (relation, a.rule) = sym (mirrors-mirror n o b.rule mr is) ∙ (λ i. main_of (gone.0 i) (rule i)) ∙ mirrors-mirror relation other a.rule mrule own in
          let on : n ≡ relation = ap (λ (p : Name × Rule). p.0) (same_Some (n, b.rule) (relation, a.rule) mains) in
          apart on (mirror_names relation b.name a.name (ap (λ (x : Name). mirror_name x b.name) (sym on) ∙ gone.1))

  pub mirrored-without : AreMirrored left
  mirrored-without n =
      All-weaker (IsBoth (λ b. HasMirror db (mirror_name n b.name) (mirror_of n b.rule)) relation a.name (mirror_of relation a.rule) n) (λ (b : Attached). HasMirror left (mirror_name n b.name) (mirror_of n b.rule))
      (λ b parts. by b parts (mirror_of n b.rule) refl parts.so) (attachments_at left n)
      (all-left (λ b. HasMirror db (mirror_name n b.name) (mirror_of n b.rule)) db relation a.name (mirror_of relation a.rule) n (mirrored n))
    where
      by : (b : Attached) → IsBoth (λ b. HasMirror db (mirror_name n b.name) (mirror_of n b.rule)) relation a.name (mirror_of relation a.rule) n b → (mirror : Option (Name × Rule)) → mirror_of n b.rule ≡ mirror
          → HasMirror db (mirror_name n b.name) mirror → HasMirror left (mirror_name n b.name) mirror
      by b parts None is has = tt
      by b parts (Some (o, mr)) is has = (
        has.0,
        found-left db relation a.name (mirror_of relation a.rule) o (mirror_name n b.name) has.0 (not_it n b o mr has.0 is has.1 has.2) (not_mirror n b o mr has.0 parts.other is has.1 has.2) has.1,
        has.2,
      )

  pub paired-without : ArePaired db → ArePaired left
  paired-without paired n =
      All-weaker (IsBoth (λ b. HasMainOf db b (main_of n b.rule)) relation a.name (mirror_of relation a.rule) n) (λ (b : Attached). HasMainOf left b (main_of n b.rule))
      (λ b parts. by b parts (main_of n b.rule) refl parts.so) (attachments_at left n)
      (all-left (λ b. HasMainOf db b (main_of n b.rule)) db relation a.name (mirror_of relation a.rule) n (paired n))
    where
      by : (b : Attached) → IsBoth (λ b. HasMainOf db b (main_of n b.rule)) relation a.name (mirror_of relation a.rule) n b → (o : Option (Name × Rule)) → main_of n b.rule ≡ o → HasMainOf db b o → HasMainOf left b o
      by b parts None is has = tt
      by b parts (Some (o, r)) is has = record {
        main = has.main;
        at = found-left db relation a.name (mirror_of relation a.rule) o has.main.name has.main own mirror has.at;
        is = has.is;
        named = has.named;
      }
        where
          two : IsMain n o b.rule r
          two = main-mirrors n o b.rule r is

          own : o ≡ relation → has.main.name ≡ a.name → ⊥
          own on named =
              let it : has.main ≡ a = one_found o relation has.main.name a.name has.main a on named has.at there in
              let rule : r ≡ a.rule = sym has.is ∙ ap (λ (x : Attached). x.rule) it in
              let mirrors : mirror_of relation a.rule ≡ Some (n, b.rule) = sym (λ i. mirror_of (on i) (rule i)) ∙ two.mirror in
              parts.still (subst (λ (m : Option (Name × Rule)). IsGone relation a.name m n b.name) (sym mirrors) (refl, has.named ∙ (λ i. mirror_name (on i) (named i))))

          mirror : IsGone relation a.name (mirror_of relation a.rule) o has.main.name → ⊥
          mirror = of_mirror (mirror_of relation a.rule) refl has_own
            where
              of_mirror : (m : Option (Name × Rule)) → mirror_of relation a.rule ≡ m → HasMirror db (mirror_name relation a.name) m → IsGone relation a.name m o has.main.name → ⊥
              of_mirror None owns has_it gone = gone
              of_mirror (Some (other, mrule)) owns has_it gone =
                  let it : has.main ≡ has_it.0 = one_found o other has.main.name (mirror_name relation a.name) has.main has_it.0 gone.0 gone.1 has.at has_it.1 in
                  let rule : r ≡ mrule = sym has.is ∙ ap (λ (x : Attached). x.rule) it ∙ has_it.2 in
                  nothing (relation, a.rule) (sym (mirrors-mirror relation other a.rule mrule owns) ∙ ap (main_of other) (sym rule) ∙ two.first other)
