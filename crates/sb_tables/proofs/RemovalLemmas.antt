-- What stands of a database without a relation that no main instance and no trigger of another one names.
use Rattle.std.proofs.Common.{◌≡◌, Bool, true, false, true≢false, [], Option, Some, None, get_or, refl, sym, ap, ◌∙◌, subst}
use Rattle.std.specs.Prelude.{All, bytes_eq}
use Rattle.std.specs.List.{find}
use Rattle.std.proofs.lemmas.List.Elements.{All-nil, All-same, All-weaker}
use Rattle.std.proofs.lemmas.Option.{same_Some}
use Rattle.sb_value.specs.Equal.{bytes_same}
use Rattle.sb_rule.specs.declared.rule.Rule.{Rule}
use Rattle.sb_relation.specs.Build.{main_of, mirror_name, mirror_of}
use Rattle.sb_relation.specs.Db.{Name, Attached, Relation, Db}
use Rattle.sb_fold.specs.Building.{rule_at, without_mirrors, without_relation, HasMirror}
use Rattle.sb_fold.specs.Fold.{attachments_at}
use Rattle.sb_fold.specs.Outcome.{Queue}
use Rattle.sb_plain.specs.Refusing.{ties_to}
use Rattle.sb_deferred.specs.Complete.{AreMirrored, IsComplete}
use Rattle.sb_deferred.specs.CompleteLaws.{is_child_of}
use Rattle.sb_deferred.proofs.CatalogLemmas.{without-relation-complete}
use Rattle.sb_deferred.proofs.RelationLemmas.{attachments_of, relation_gone, relation_left, rule_found}
use Rattle.sb_engine.specs.Working.{ArePaired, HasMain, HasMainOf}
use Rattle.sb_tables.specs.Removal.{IsUnnamedIn, MayDrop}
use Rattle.sb_tables.proofs.PairsLemmas.{child-untied, main-mirrored, main-parent, mirror-parent, mirror-tied, parent_of, unnamed-rule}
use Rattle.sb_tables.proofs.WithoutLemmas.{IfTied, IsGoneIn, IsNoneOf, all-mirrors, gone-mirrors, rule_at-mirrors}

differ : (n name : Name) → bytes_eq n name ≡ false → n ≡ name → ⊥
differ n name is same = true≢false (sym ((bytes_same n name).1 same) ∙ is)

module _ (db : Db) (q : Queue) (name : Name) (may : MayDrop db q name) (mirrored : AreMirrored db) (paired : ArePaired db) where
  untied : (n : Name) → bytes_eq n name ≡ false → All (λ a. ties_to name a.rule ≡ false) (attachments_at (without_mirrors name (attachments_at db name) db) n)
  untied n other = all-mirrors (λ a. ties_to name a.rule ≡ false) name (attachments_at db name) db n (may.untied n (differ n name other))

  -- ---- a mirror of one of the relation's own has gone
  taken : (n : Name) (a x : Attached) (mirror : Rule) → rule_at db name x.name ≡ Some x → mirror_of name x.rule ≡ Some (n, mirror)
      → All (λ b. bytes_eq b.name (mirror_name name x.name) ≡ false) (attachments_at (without_mirrors name (attachments_at db name) db) n)
  taken n a x mirror at is =
      subst (IfTied (λ other rule. All (λ b. bytes_eq b.name (mirror_name name x.name) ≡ false) (attachments_at (without_mirrors name (attachments_at db name) db) other))) is
      (rule_found (IsGoneIn (without_mirrors name (attachments_at db name) db) name) db name x.name x (gone-mirrors name (attachments_at db name) db) at).0

  -- so no mirror that is left on another relation is of one of them
  pub apart : (n : Name) → bytes_eq n name ≡ false
      → All (λ a. IfTied (λ other main. bytes_eq other name ≡ false) (main_of n a.rule)) (attachments_at (without_mirrors name (attachments_at db name) db) n)
  apart n other = λ k d below.
      let a : Attached = get_or (attachments_at (without_mirrors name (attachments_at db name) db) n) k d in
      let had : HasMainOf db a (main_of n a.rule) =
      all-mirrors (λ x. HasMainOf db x (main_of n x.rule)) name (attachments_at db name) db n (paired n) k d below in
      of_main a (λ x mirror at is. taken n a x mirror at is k d below) (main_of n a.rule) (main-mirrored n a.rule) had
    where
      of_name : (a x : Attached) (o : Name) (main : Rule) → ((x : Attached) (mirror : Rule) → rule_at db name x.name ≡ Some x → mirror_of name x.rule ≡ Some (n, mirror) → bytes_eq a.name (mirror_name name x.name) ≡ false)
          → mirror_of o main ≡ Some (n, a.rule) → HasMain db a o main → (b : Bool) → bytes_eq o name ≡ b → b ≡ false
      of_name a x o main gone turned has false is = refl
      of_name a x o main gone turned has true is =
          let named : o ≡ name = (bytes_same o name).0 is in
          let at : rule_at db name has.main.name ≡ Some has.main = ap (λ (r : Name). rule_at db r has.main.name) (sym named) ∙ has.at in
          let mirror : mirror_of name has.main.rule ≡ Some (n, a.rule) = ap (λ (r : Name). mirror_of r has.main.rule) (sym named) ∙ ap (λ (r : Rule). mirror_of o r) has.is ∙ turned in
          let label : a.name ≡ mirror_name name has.main.name = has.named ∙ ap (λ (r : Name). mirror_name r has.main.name) named in
          absurd (differ a.name (mirror_name name has.main.name) (gone has.main a.rule at mirror) label)

      of_main : (a : Attached) → ((x : Attached) (mirror : Rule) → rule_at db name x.name ≡ Some x → mirror_of name x.rule ≡ Some (n, mirror) → bytes_eq a.name (mirror_name name x.name) ≡ false)
          → (o : Option (Name × Rule)) → IfTied (λ other main. mirror_of other main ≡ Some (n, a.rule)) o → HasMainOf db a o → IfTied (λ other main. bytes_eq other name ≡ false) o
      of_main a gone None turned has = tt
      of_main a gone (Some (o, main)) turned has = of_name a a o main gone turned has (bytes_eq o name) refl

  -- no rule of another relation names it any more
  pub unnamed : IsUnnamedIn (without_mirrors name (attachments_at db name) db) name
  unnamed n other = λ k d below.
      let a : Attached = get_or (attachments_at (without_mirrors name (attachments_at db name) db) n) k d in
      unnamed-rule name n a.rule (untied n other k d below) (apart n other k d below)

  -- ---- an attachment of another relation that is no mirror of one of them is found as before
  clear : (o l : Name) (b : Attached) → rule_at db o l ≡ Some b → (parent_of b.rule ≡ Some name → ⊥) → All (IsNoneOf name o l) (attachments_at db name)
  clear o l b at stray =
      All-weaker (λ m. HasMirror db (mirror_name name m.name) (mirror_of name m.rule)) (IsNoneOf name o l)
      (λ m has. of_mirror m (mirror_of name m.rule) (mirror-parent name m.rule) has) (attachments_at db name) (mirrored name)
    where
      of_mirror : (m : Attached) (x : Option (Name × Rule)) → IfTied (λ other mirror. parent_of mirror ≡ Some name) x → HasMirror db (mirror_name name m.name) x
          → IfTied (λ other rule. o ≡ other → l ≡ mirror_name name m.name → ⊥) x
      of_mirror m None parent has = tt
      of_mirror m (Some (other, mirror)) parent has = λ same label.
          let one : b ≡ has.0 = same_Some b has.0 (sym at ∙ ap (λ (r : Name). rule_at db r l) same ∙ ap (λ (r : Name). rule_at db other r) label ∙ has.1) in
          stray (ap (λ (c : Attached). parent_of c.rule) one ∙ ap parent_of has.2 ∙ parent)

  found : (o l : Name) (b : Attached) → bytes_eq o name ≡ false → rule_at db o l ≡ Some b → (parent_of b.rule ≡ Some name → ⊥) → rule_at (without_relation db name) o l ≡ Some b
  found o l b other at stray =
      ap (λ (r : Option Relation). find (λ (a : Attached). bytes_eq a.name l) (attachments_of r)) (relation_left (without_mirrors name (attachments_at db name) db) name o other)
      ∙ rule_at-mirrors name (attachments_at db name) db o l (clear o l b at stray) ∙ at

  none_there : (n : Name) → bytes_eq n name ≡ true → attachments_at (without_relation db name) n ≡ []
  none_there n is =
      ap (λ (r : Name). attachments_at (without_relation db name) r) ((bytes_same n name).0 is) ∙ ap attachments_of (relation_gone (without_mirrors name (attachments_at db name) db) name)

  as_left : (n : Name) → bytes_eq n name ≡ false → attachments_at (without_relation db name) n ≡ attachments_at (without_mirrors name (attachments_at db name) db) n
  as_left n other = ap attachments_of (relation_left (without_mirrors name (attachments_at db name) db) name n other)

  -- ---- pairs stand in pairs
  pub mirrored-left : AreMirrored (without_relation db name)
  mirrored-left n = of_name (bytes_eq n name) refl
    where
      of_mirror : (a : Attached) → bytes_eq n name ≡ false → ties_to name a.rule ≡ false → (x : Option (Name × Rule)) → IfTied (λ other mirror. ties_to name a.rule ≡ bytes_eq other name) x
          → IfTied (λ other mirror. parent_of mirror ≡ Some n) x → HasMirror db (mirror_name n a.name) x → HasMirror (without_relation db name) (mirror_name n a.name) x
      of_mirror a other no_tie None tie parent has = tt
      of_mirror a other no_tie (Some (o, mirror)) tie parent has = (
        has.0,
        found o (mirror_name n a.name) has.0 (sym tie ∙ no_tie) has.1
            (λ is. differ n name other (same_Some n name (sym (ap parent_of has.2 ∙ parent) ∙ is))),
        has.2,
      )

      of_name : (b : Bool) → bytes_eq n name ≡ b → All (λ a. HasMirror (without_relation db name) (mirror_name n a.name) (mirror_of n a.rule)) (attachments_at (without_relation db name) n)
      of_name true is = All-same (λ a. HasMirror (without_relation db name) (mirror_name n a.name) (mirror_of n a.rule)) (attachments_at (without_relation db name) n) [] (none_there n is) (All-nil _)
      of_name false other =
          All-same (λ a. HasMirror (without_relation db name) (mirror_name n a.name) (mirror_of n a.rule)) (attachments_at (without_relation db name) n)
          (attachments_at (without_mirrors name (attachments_at db name) db) n) (as_left n other) (λ k d below.
          let a : Attached = get_or (attachments_at (without_mirrors name (attachments_at db name) db) n) k d in
          of_mirror a other (untied n other k d below) (mirror_of n a.rule) (mirror-tied name n a.rule) (mirror-parent n a.rule)
          (all-mirrors (λ x. HasMirror db (mirror_name n x.name) (mirror_of n x.rule)) name (attachments_at db name) db n (mirrored n) k d below))

  pub paired-left : ArePaired (without_relation db name)
  paired-left n = of_name (bytes_eq n name) refl
    where
      of_main : (a : Attached) (x : Option (Name × Rule)) → IfTied (λ other main. bytes_eq other name ≡ false) x → IfTied (λ other main. parent_of main ≡ None) x → HasMainOf db a x
          → HasMainOf (without_relation db name) a x
      of_main a None other parent has = tt
      of_main a (Some (o, main)) other parent has = record {
        main = has.main;
        at = found o has.main.name has.main other has.at (λ is. none_some (sym (ap parent_of has.is ∙ parent) ∙ is));
        is = has.is;
        named = has.named;
      }
        where
          none_some : ◌≡◌ {A = Option Name} None (Some name) → ⊥
          none_some e = cc

      of_name : (b : Bool) → bytes_eq n name ≡ b → All (λ a. HasMainOf (without_relation db name) a (main_of n a.rule)) (attachments_at (without_relation db name) n)
      of_name true is = All-same (λ a. HasMainOf (without_relation db name) a (main_of n a.rule)) (attachments_at (without_relation db name) n) [] (none_there n is) (All-nil _)
      of_name false other =
          All-same (λ a. HasMainOf (without_relation db name) a (main_of n a.rule)) (attachments_at (without_relation db name) n)
          (attachments_at (without_mirrors name (attachments_at db name) db) n) (as_left n other) (λ k d below.
          let a : Attached = get_or (attachments_at (without_mirrors name (attachments_at db name) db) n) k d in
          of_main a (main_of n a.rule) (apart n other k d below) (main-parent n a.rule)
          (all-mirrors (λ x. HasMainOf db x (main_of n x.rule)) name (attachments_at db name) db n (paired n) k d below))

  -- ---- what waits still tells all
  pub complete-left : IsComplete db q → IsComplete (without_relation db name) q
  complete-left complete =
      without-relation-complete db q name
      (λ n other. All-weaker (λ a. ties_to name a.rule ≡ false) (λ a. is_child_of name a.rule ≡ false) (λ a no_tie. child-untied name a.rule no_tie) (attachments_at db n) (may.untied n other)) complete
