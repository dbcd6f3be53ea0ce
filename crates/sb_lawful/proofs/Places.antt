-- Databases by places: what stands under a name when relations and attachments come and go.
use Rattle.std.proofs.Common.{◌≡◌, ℕ, ◌+◌, ◌≤◌, Bool, true, false, not, T, ◌⊎◌, inl, inr, List, [], ◌∷◌, length, Option, Some, None, option_map, is_none, refl, sym, ap, ◌∙◌, arith, nat_lt, ltb-false, le-ltb, get_or}
use Rattle.std.specs.Prelude.{All, cond, sum_by}
use Rattle.std.specs.List.{find}
use Rattle.std.specs.Str.{bytes_eq}
use Rattle.std.specs.Ordering.{eq_by_cmp, is_lt}
use Rattle.std.specs.FinMap.Entries.{is_sorted, below_all, where_key, find-put, find-where_key}
use Rattle.std.proofs.lemmas.Bool.{cond-true, cond-false}
use Rattle.std.proofs.lemmas.Cmp.{nat_list_cmp_total}
use Rattle.std.proofs.lemmas.List.Elements.{All-nil, All-cons}
use Rattle.std.proofs.lemmas.Map.Text.{is_eq-slice_cmp}
use Rattle.sb_value.specs.declared.schema.Column.{Column}
use Rattle.sb_value.specs.Order.{bytes_cmp}
use Rattle.sb_pred.specs.Spelling.{name_spelling}
use Rattle.sb_rule.specs.Spelling.{names_spelling, rule_spelling}
use Rattle.sb_relation.specs.Db.{Name, Attached, Relation, Db, relation_at, with_relation, schema_at}
use Rattle.sb_relation.specs.Limits.{attached_at, is_large_at, descriptor_len}
use Rattle.sb_fold.specs.Building.{rule_at}
use Rattle.sb_fold.specs.Extensions.{Extensions, is_durable_method, is_durable_at}
use Rattle.sb_fold.specs.Fold.{attachments_at}
use Rattle.sb_plain.proofs.SoundLemmas.{all_found}
use Rattle.sb_plain.proofs.UniqueLemmas.{head_of, rest_of, differs_less, tied}
use Rattle.sb_lawful.proofs.Items.{apart_turned, itself, same_or_apart, is_named, AreApart, each_found, Weight, weight, weight-sum_by, weight-length}

-- ---- relations under their names
pub relation_same : (db : Db) (name : Name) (q : Relation) → relation_at (with_relation db name q) name ≡ Some q
relation_same db name q =
    find-put bytes_cmp nat_list_cmp_total name name q db ∙ cond-true (eq_by_cmp bytes_cmp name name) (Some q) (relation_at db name) (is_eq-slice_cmp name name ∙ itself name)

pub relation_other : (db : Db) (name : Name) (q : Relation) (other : Name) → bytes_eq other name ≡ false → relation_at (with_relation db name q) other ≡ relation_at db other
relation_other db name q other differs =
    find-put bytes_cmp nat_list_cmp_total other name q db ∙ cond-false (eq_by_cmp bytes_cmp other name) (Some q) (relation_at db other) (is_eq-slice_cmp other name ∙ differs)

pub relation_without : (db : Db) (name other : Name) → relation_at (where_key bytes_cmp (λ n. not (bytes_eq n name)) db) other ≡ cond (not (bytes_eq other name)) (relation_at db other) None
relation_without db name other = find-where_key bytes_cmp (λ n. not (bytes_eq n name)) other (λ n tie. ap (λ (x : Name). not (bytes_eq x name)) (sym (tied other n tie))) db

none_below : (k : Name) (db : Db) → T (below_all bytes_cmp k db) → relation_at db k ≡ None
none_below k [] below = refl
none_below k (e ∷ db) below =
    cond-false (eq_by_cmp bytes_cmp k e.0) (Some e.1) (relation_at db k)
    (is_eq-slice_cmp k e.0 ∙ apart_turned e.0 k (differs_less k e.0 (head_of (is_lt (bytes_cmp k e.0)) (below_all bytes_cmp k db) below)))
    ∙ none_below k db (rest_of (is_lt (bytes_cmp k e.0)) (below_all bytes_cmp k db) below)

-- what holds of each relation that is there holds of all
pub all_places : (P : Name → Relation → Type 0) (db : Db) → T (is_sorted bytes_cmp db) → ((k : Name) (r : Relation) → relation_at db k ≡ Some r → P k r) → All (λ e. P e.0 e.1) db
all_places P [] rises at = All-nil _
all_places P (e ∷ db) rises at =
    All-cons (λ x. P x.0 x.1) e db (at e.0 e.1 (cond-true (eq_by_cmp bytes_cmp e.0 e.0) (Some e.1) (relation_at db e.0) (is_eq-slice_cmp e.0 e.0 ∙ itself e.0)))
    (all_places P db (rest_of (below_all bytes_cmp e.0 db) (is_sorted bytes_cmp db) rises) (λ k r there. at k r (later k r there (same_or_apart k e.0))))
  where
    later : (k : Name) (r : Relation) → relation_at db k ≡ Some r → (k ≡ e.0) ⊎ (bytes_eq k e.0 ≡ false) → relation_at (e ∷ db) k ≡ Some r
    later k r there (inl same) =
        let none : relation_at db k ≡ None = ap (relation_at db) same ∙ none_below e.0 db (head_of (below_all bytes_cmp e.0 db) (is_sorted bytes_cmp db) rises) in
        absurd (cc)
    later k r there (inr differs) = cond-false (eq_by_cmp bytes_cmp k e.0) (Some e.1) (relation_at db k) (is_eq-slice_cmp k e.0 ∙ differs) ∙ there

-- ---- what is read of a relation that may be there
abbrev pub items_in : Option Relation → List Attached
items_in None = []
items_in (Some r) = r.attachments

abbrev pub with_items : List Attached → Relation → Relation
with_items items r = record r { attachments = items }

abbrev pub bare_at : Db → Name → Option Relation
bare_at db k = option_map (with_items []) (relation_at db k)

-- the two databases have the same there, but for attachments
abbrev pub IsAlike : Db → Db → Name → Type 0
IsAlike db db' k = bare_at db k ≡ bare_at db' k

through : {A : Type 0} (F : Option Relation → A) → ((o : Option Relation) → F (option_map (with_items []) o) ≡ F o) → (db db' : Db) (k : Name) → IsAlike db db' k → F (relation_at db k) ≡ F (relation_at db' k)
through F same db db' k e = sym (same (relation_at db k)) ∙ ap F e ∙ same (relation_at db' k)

pub alike_there : (db db' : Db) (k : Name) → IsAlike db db' k → is_none (relation_at db k) ≡ is_none (relation_at db' k)
alike_there db db' k = through is_none of_one db db' k
  where
    of_one : (o : Option Relation) → is_none (option_map (with_items []) o) ≡ is_none o
    of_one None = refl
    of_one (Some r) = refl

pub alike_schema : (db db' : Db) (k : Name) → IsAlike db db' k → schema_at db k ≡ schema_at db' k
alike_schema db db' k = through (λ o. elim o [ None ↦ [] | Some r ↦ r.schema ]) of_one db db' k
  where
    of_one : (o : Option Relation) → (elim (option_map (with_items []) o) as (λ _. List Column) [ None ↦ [] | Some r ↦ r.schema ]) ≡ (elim o as (λ _. List Column) [ None ↦ [] | Some r ↦ r.schema ])
    of_one None = refl
    of_one (Some r) = refl

pub alike_life : (ext : Extensions) (db db' : Db) (k : Name) → IsAlike db db' k → is_durable_at ext db k ≡ is_durable_at ext db' k
alike_life ext db db' k = through (λ o. elim o [ None ↦ true | Some r ↦ is_durable_method ext r.method ]) of_one db db' k
  where
    of_one : (o : Option Relation) → (elim (option_map (with_items []) o) as (λ _. Bool) [ None ↦ true | Some r ↦ is_durable_method ext r.method ]) ≡ (elim o as (λ _. Bool) [ None ↦ true | Some r ↦ is_durable_method ext r.method ])
    of_one None = refl
    of_one (Some r) = refl

-- a relation that isn't none is some
pub record IsThere (o : Option Relation) : Type 0 where
  pub one : Relation
  pub is : o ≡ Some one

pub there_in : (o : Option Relation) → is_none o ≡ false → IsThere o
there_in None e = absurd (cc)
there_in (Some r) e = record { one = r; is = refl }

-- ---- sums over the attachments of a relation
abbrev pub weight_at : Weight → Db → Name → ℕ
weight_at w db k = weight w (attachments_at db k)

abbrev pub one : Weight
one name rule = 1

abbrev pub size : Weight
size name rule = 10 + length (name_spelling name) + length (rule_spelling rule)

pub attached_is : (db : Db) (k : Name) → attached_at db k ≡ weight_at one db k
attached_is db k = by (relation_at db k)
  where
    by : (o : Option Relation) → (elim o as (λ _. ℕ) [ None ↦ 0 | Some r ↦ length r.attachments ]) ≡ weight one (items_in o)
    by None = refl
    by (Some r) = weight-length r.attachments

abbrev base : Relation → ℕ
base r = 10 + sum_by (λ c. length (name_spelling c.name) + 2) r.schema + length (names_spelling r.key)

abbrev is_large_with : Option Relation → ℕ → Bool
is_large_with None n = false
is_large_with (Some r) n = nat_lt 1900 (base r + n)

large_is : (db : Db) (k : Name) → is_large_at db k ≡ is_large_with (bare_at db k) (weight_at size db k)
large_is db k = by (relation_at db k)
  where
    by : (o : Option Relation) → (elim o as (λ _. Bool) [ None ↦ false | Some r ↦ nat_lt 1900 (descriptor_len r) ]) ≡ is_large_with (option_map (with_items []) o) (weight size (items_in o))
    by None = refl
    by (Some r) = ap (λ (n : ℕ). nat_lt 1900 (base r + n)) (weight-sum_by size r.attachments)

lighter : (o : Option Relation) (n m : ℕ) → n ≤ m → is_large_with o m ≡ false → is_large_with o n ≡ false
lighter None n m le e = refl
lighter (Some r) n m le e = let most = ltb-false 1900 (base r + m) e in le-ltb 1900 (base r + n) (omega arith)

-- a relation with no more attachments has no larger descriptor
pub no_larger : (db db' : Db) (k : Name) → IsAlike db db' k → weight_at size db' k ≤ weight_at size db k → is_large_at db k ≡ false → is_large_at db' k ≡ false
no_larger db db' k alike le e =
    large_is db' k ∙ ap (λ (o : Option Relation). is_large_with o (weight_at size db' k)) (sym alike)
    ∙ lighter (bare_at db k) (weight_at size db' k) (weight_at size db k) le (sym (large_is db k) ∙ e)

-- ---- attachments under their names
pub attachments_in : (db : Db) (k : Name) (r : Relation) → relation_at db k ≡ Some r → attachments_at db k ≡ r.attachments
attachments_in db k r there = ap items_in there

-- what holds of all of a relation's holds of the one that is found
pub rule_found : (P : Attached → Type 0) (db : Db) (k label : Name) (a : Attached) → ((r : Relation) → relation_at db k ≡ Some r → All P r.attachments) → rule_at db k label ≡ Some a → P a
rule_found P db k label a each found = by (relation_at db k) refl found
  where
    by : (o : Option Relation) → relation_at db k ≡ o → find (is_named label) (items_in o) ≡ Some a → P a
    by None is e = absurd (cc)
    by (Some r) is e = all_found P (is_named label) r.attachments a (each r is) e

-- what holds of each that is found under its name holds of all
pub each_rule : (P : Attached → Type 0) (db : Db) (k : Name) (r : Relation) → relation_at db k ≡ Some r → AreApart r.attachments → ((a : Attached) → rule_at db k a.name ≡ Some a → P a) → All P r.attachments
each_rule P db k r there apart at = λ j d below.
    let a : Attached = get_or r.attachments j d in
    at a (ap (find (is_named a.name)) (attachments_in db k r there) ∙ each_found r.attachments apart j d below)

-- the relation of an attachment that is found is there
pub rule_there : (db : Db) (k label : Name) (a : Attached) → rule_at db k label ≡ Some a → is_none (relation_at db k) ≡ false
rule_there db k label a found = by (relation_at db k) found
  where
    by : (o : Option Relation) → find (is_named label) (items_in o) ≡ Some a → is_none o ≡ false
    by None e = absurd (cc)
    by (Some r) e = refl
