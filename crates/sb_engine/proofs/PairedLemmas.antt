-- Mirrors have their main instances after a change of a relation's rows.
use Rattle.std.proofs.Common.{◌≡◌, ℕ, suc, ◌≤◌, length, Bool, true, false, cond, List, [], ◌∷◌, map, All, Option, Some, None, option_map, bytes_eq, refl, sym, ap, ◌∙◌, subst}
use Rattle.std.specs.List.{find}
use Rattle.std.specs.Prelude.{filter}
use Rattle.std.proofs.lemmas.List.Elements.{All-map, All-weaker}
use Rattle.std.proofs.lemmas.Option.{same_Some}
use Rattle.sb_rule.specs.declared.change.Change.{Change}
use Rattle.sb_rule.specs.declared.rule.Rule.{Rule}
use Rattle.sb_relation.specs.Buckets.{grown}
use Rattle.sb_relation.specs.Build.{main_of, mirror_name}
use Rattle.sb_relation.specs.Changes.{changed, changed_rows, with_change}
use Rattle.sb_relation.specs.Db.{Name, Rows, Attached, Relation, Db, relation_at}
use Rattle.sb_fold.specs.Building.{rule_at}
use Rattle.sb_fold.specs.Fold.{attachments_at}
use Rattle.sb_cascade.proofs.Staying.{after_put, changed_in}
use Rattle.sb_standing.proofs.FrameLemmas.{All-unmap}
use Rattle.sb_engine.specs.Working.{AreNamedApart, ArePaired, HasMainOf}

-- ---- names and rules
abbrev head : Attached → Name × Rule
head a = (a.name, a.rule)

abbrev items_of : Option Relation → List Attached
items_of o = elim o as (λ _. List Attached) [ None ↦ [] | Some r ↦ r.attachments ]

abbrev heads_of : Option Relation → List (Name × Rule)
heads_of o = map head (items_of o)

abbrev head_at : Name → Option Relation → Option (Name × Rule)
head_at label o = option_map head (find (λ a. bytes_eq a.name label) (items_of o))

heads-grown : (c : Change) (rows : Rows) (items : List Attached) → map head items ≡ map head (map (grown c rows) items)
heads-grown c rows [] = refl
heads-grown c rows (a ∷ items) = ap (λ (l : List (Name × Rule)). head a ∷ l) (heads-grown c rows items)

head-grown : (label : Name) (c : Change) (rows : Rows) (items : List Attached)
    → option_map head (find (λ a. bytes_eq a.name label) items) ≡ option_map head (find (λ a. bytes_eq a.name label) (map (grown c rows) items))
head-grown label c rows [] = refl
head-grown label c rows (a ∷ items) = of_test (bytes_eq a.name label) (head-grown label c rows items)
  where
    of_test : (b : Bool) → option_map head (find (λ x. bytes_eq x.name label) items) ≡ option_map head (find (λ x. bytes_eq x.name label) (map (grown c rows) items))
        → option_map head (cond b (Some a) (find (λ x. bytes_eq x.name label) items)) ≡ option_map head (cond b (Some (grown c rows a)) (find (λ x. bytes_eq x.name label) (map (grown c rows) items)))
    of_test true rest = refl
    of_test false rest = rest

-- what doesn't see rows and buckets is the same after a change
seen : {A : Type 0} (F : Option Relation → A) → ((r : Relation) (c : Change) (rows : Rows) → F (Some r) ≡ F (Some (with_change r c rows))) → (db : Db) (name : Name) (c : Change) (other : Name)
    → F (relation_at db other) ≡ F (relation_at (changed db name c) other)
seen {A = A} F blind db name c other = of_relation (relation_at db name) refl
  where
    of_relation : (o : Option Relation) → relation_at db name ≡ o → F (relation_at db other) ≡ F (relation_at (changed_in db name c o) other)
    of_relation None there = refl
    of_relation (Some r) there = after_put F db name r (with_change r c (changed_rows r.rows c)) there (blind r c (changed_rows r.rows c)) other

-- ---- the attachment of a name
record IsFound (o : Option Attached) (a : Attached) : Type 0 where
  one : Attached
  at : o ≡ Some one
  name : one.name ≡ a.name
  rule : one.rule ≡ a.rule

found_of : (o : Option Attached) (a : Attached) → option_map head o ≡ Some (head a) → IsFound o a
found_of None a is = absurd (cc)
found_of (Some one) a is =
    let same : head one ≡ head a = same_Some (head one) (head a) is in
    record { one = one; at = refl; name = ap (λ (t : Name × Rule). t.0) same; rule = ap (λ (t : Name × Rule). t.1) same }

main_stays : (db : Db) (name : Name) (c : Change) (a : Attached) (main : Option (Name × Rule)) → HasMainOf db a main → HasMainOf (changed db name c) a main
main_stays db name c a None has = tt
main_stays db name c a (Some (other, rule)) has =
    let label = has.main.name in
    let is : head_at label (relation_at (changed db name c) other) ≡ Some (head has.main) =
    sym (seen (head_at label) (λ r change rows. head-grown label change rows r.attachments) db name c other) ∙ ap (λ (o : Option Attached). option_map head o) has.at in
    let found = found_of (rule_at (changed db name c) other label) has.main is in
    record {
      main = found.one;
      at = ap (λ (n : Name). rule_at (changed db name c) other n) found.name ∙ found.at;
      is = found.rule ∙ has.is;
      named = has.named ∙ ap (λ (n : Name). mirror_name other n) (sym found.name);
    }

-- ---- all of a relation
-- an attachment of this name and this rule
abbrev with_head : Name × Rule → Attached
with_head e = record { name = e.0; rule = e.1; buckets = 0 }

same_name : (db : Db) (a b : Attached) → b.name ≡ a.name → (main : Option (Name × Rule)) → HasMainOf db a main → HasMainOf db b main
same_name db a b same None has = tt
same_name db a b same (Some (other, rule)) has = record { main = has.main; at = has.at; is = has.is; named = same ∙ has.named }

pub changed-paired : (db : Db) (name : Name) (c : Change) → ArePaired db → ArePaired (changed db name c)
changed-paired db name c paired = λ relation.
    let after : Db = changed db name c in
    let IsPaired : (Name × Rule) → Type 0 = λ e. HasMainOf after (with_head e) (main_of relation e.1) in
    let heads : map head (attachments_at db relation) ≡ map head (attachments_at after relation) = seen heads_of (λ r change rows. heads-grown change rows r.attachments) db name c relation in
    let stay : All (λ a. IsPaired (head a)) (attachments_at db relation) =
    All-weaker (λ (a : Attached). HasMainOf db a (main_of relation a.rule)) (λ (a : Attached). IsPaired (head a))
    (λ a has. same_name after a (with_head (head a)) refl (main_of relation a.rule) (main_stays db name c a (main_of relation a.rule) has)) (attachments_at db relation) (paired relation) in
    All-weaker (λ (a : Attached). IsPaired (head a)) (λ (a : Attached). HasMainOf after a (main_of relation a.rule)) (λ a has. same_name after (with_head (head a)) a refl (main_of relation a.rule) has)
    (attachments_at after relation) (All-unmap IsPaired head (attachments_at after relation) (subst (All IsPaired) heads (All-map IsPaired head (attachments_at db relation) stay)))

-- ---- names
named-grown : (label : Name) (c : Change) (rows : Rows) (items : List Attached)
    → length (filter (λ a. bytes_eq a.name label) (map (grown c rows) items)) ≡ length (filter (λ a. bytes_eq a.name label) items)
named-grown label c rows [] = refl
named-grown label c rows (a ∷ items) = of_test (bytes_eq a.name label) (named-grown label c rows items)
  where
    of_test : (b : Bool) → length (filter (λ x. bytes_eq x.name label) (map (grown c rows) items)) ≡ length (filter (λ x. bytes_eq x.name label) items)
        → length (cond b (grown c rows a ∷ filter (λ x. bytes_eq x.name label) (map (grown c rows) items)) (filter (λ x. bytes_eq x.name label) (map (grown c rows) items)))
        ≡ length (cond b (a ∷ filter (λ x. bytes_eq x.name label) items) (filter (λ x. bytes_eq x.name label) items))
    of_test true rest = ap suc rest
    of_test false rest = rest

-- no name comes to stand twice by a change of rows
pub changed-apart : (db : Db) (name : Name) (c : Change) → AreNamedApart db → AreNamedApart (changed db name c)
changed-apart db name c apart relation label =
    subst (λ (n : ℕ). n ≤ 1)
    (seen (λ o. length (filter (λ a. bytes_eq a.name label) (items_of o))) (λ r d rows. sym (named-grown label d rows r.attachments)) db name c relation)
    (apart relation label)
