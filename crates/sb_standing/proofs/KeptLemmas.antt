-- The relation of a name among those that are kept.
use Rattle.std.proofs.Common.{◌≡◌, Bool, true, false, cond, List, [], ◌∷◌, map, All, Option, Some, None, option_map, bytes_eq, refl, sym, ap, subst, ◌∙◌}
use Rattle.std.specs.Cmp.Lexicographic.{nat_list_eq_equiv}
use Rattle.std.specs.FinMap.Entries.{find}
use Rattle.std.specs.Ordering.{is_eq}
use Rattle.std.proofs.lemmas.List.Elements.{All-head, All-tail}
use Rattle.std.proofs.lemmas.Map.Text.{is_eq-slice_cmp}
use Rattle.std.proofs.lemmas.Option.{same_Some}
use Rattle.sb_value.specs.Equal.{bytes_same}
use Rattle.sb_value.specs.Order.{bytes_cmp}
use Rattle.sb_node.specs.Entries.{key_cmp}
use Rattle.sb_relation.specs.Db.{Name, Relation, relation_at}
use Rattle.sb_catalog.specs.Descriptors.{descriptor_spelling}
use Rattle.sb_standing.specs.Tables.{Kept, entry_of, db_of, kept_at}

-- ---- names
-- names that tie are one, whichever comes first
pub tied_name : (a b : Name) → is_eq (bytes_cmp a b) ≡ bytes_eq b a
tied_name a b = is_eq-slice_cmp a b ∙ nat_list_eq_equiv.symm a b

pub itself_name : (a : Name) → bytes_eq a a ≡ true
itself_name a = (bytes_same a a).1 refl

-- ---- look-ups
-- what is kept of the relation of a name, in a list by names
pub find-kept : {X : Type 0} (of : Kept → X) (name : Name) (kept : List Kept) → find bytes_cmp name (map (λ k. (k.name, of k)) kept) ≡ option_map of (kept_at kept name)
find-kept of name [] = refl
find-kept of name (k ∷ kept) =
    let rest = find bytes_cmp name (map (λ k. (k.name, of k)) kept) in
    ap (λ b. cond b (Some (of k)) rest) (tied_name name k.name)
    ∙ elim (bytes_eq k.name name) as (λ b. cond b (Some (of k)) rest ≡ option_map of (cond b (Some k) (kept_at kept name))) [ true ↦ refl | false ↦ find-kept of name kept ]

pub relation_at-kept : (kept : List Kept) (name : Name) → relation_at (db_of kept) name ≡ option_map (λ k. k.relation) (kept_at kept name)
relation_at-kept kept name = find-kept (λ k. k.relation) name kept

pub entry_at-kept : (kept : List Kept) (name : Name) → find key_cmp name (map entry_of kept) ≡ option_map (λ k. descriptor_spelling k.descriptor) (kept_at kept name)
entry_at-kept kept name = find-kept (λ k. descriptor_spelling k.descriptor) name kept

-- what is kept under a name has that name
pub kept_at-name : (kept : List Kept) (name : Name) (k : Kept) → kept_at kept name ≡ Some k → k.name ≡ name
kept_at-name [] name k is = absurd (cc)
kept_at-name (o ∷ kept) name k is = by (bytes_eq o.name name) refl (kept_at-name kept name k) is
  where
    by : (b : Bool) → bytes_eq o.name name ≡ b → (kept_at kept name ≡ Some k → k.name ≡ name) → cond b (Some o) (kept_at kept name) ≡ Some k → k.name ≡ name
    by true same rest is = ap (λ (x : Kept). x.name) (sym (same_Some o k is)) ∙ (bytes_same o.name name).0 same
    by false other rest is = rest is

-- what is so of all of them is so of the one under a name
pub kept_at-all : (P : Kept → Type 0) (kept : List Kept) (name : Name) (k : Kept) → All P kept → kept_at kept name ≡ Some k → P k
kept_at-all P [] name k all is = absurd (cc)
kept_at-all P (o ∷ kept) name k all is = by (bytes_eq o.name name) (kept_at-all P kept name k (All-tail P o kept all)) is
  where
    by : (b : Bool) → (kept_at kept name ≡ Some k → P k) → cond b (Some o) (kept_at kept name) ≡ Some k → P k
    by true rest is = subst P (same_Some o k is) (All-head P o kept all)
    by false rest is = rest is

-- ---- the relation of a name
pub relation_at-there : (kept : List Kept) (name : Name) (k : Kept) → kept_at kept name ≡ Some k → relation_at (db_of kept) name ≡ Some k.relation
relation_at-there kept name k is = relation_at-kept kept name ∙ ap (option_map (λ (x : Kept). x.relation)) is

pub relation_at-none : (kept : List Kept) (name : Name) → kept_at kept name ≡ None → relation_at (db_of kept) name ≡ None
relation_at-none kept name is = relation_at-kept kept name ∙ ap (option_map (λ (x : Kept). x.relation)) is

pub entry_at-there : (kept : List Kept) (name : Name) (k : Kept) → kept_at kept name ≡ Some k → find key_cmp name (map entry_of kept) ≡ Some (descriptor_spelling k.descriptor)
entry_at-there kept name k is = entry_at-kept kept name ∙ ap (option_map (λ (x : Kept). descriptor_spelling x.descriptor)) is

pub entry_at-none : (kept : List Kept) (name : Name) → kept_at kept name ≡ None → find key_cmp name (map entry_of kept) ≡ None
entry_at-none kept name is = entry_at-kept kept name ∙ ap (option_map (λ (x : Kept). descriptor_spelling x.descriptor)) is

-- a relation of the database is kept under its name
pub record IsThere (kept : List Kept) (name : Name) (r : Relation) : Type 0 where
  pub kept_there : Kept
  pub at : kept_at kept name ≡ Some kept_there
  pub is : kept_there.relation ≡ r

pub kept_at-relation : (kept : List Kept) (name : Name) (r : Relation) → relation_at (db_of kept) name ≡ Some r → IsThere kept name r
kept_at-relation kept name r is = by (kept_at kept name) refl (sym (relation_at-kept kept name) ∙ is)
  where
    by : (o : Option Kept) → kept_at kept name ≡ o → option_map (λ (k : Kept). k.relation) o ≡ Some r → IsThere kept name r
    by None at is = absurd (cc)
    by (Some k) at is = record { kept_there = k; at = at; is = same_Some k.relation r is }

pub kept_at-no_relation : (kept : List Kept) (name : Name) → relation_at (db_of kept) name ≡ None → kept_at kept name ≡ None
kept_at-no_relation kept name is = by (kept_at kept name) (sym (relation_at-kept kept name) ∙ is)
  where
    by : (o : Option Kept) → option_map (λ (k : Kept). k.relation) o ≡ None → o ≡ None
    by None is = refl
    by (Some k) is = absurd (cc)
