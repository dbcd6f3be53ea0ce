-- What waits tells which deferred rules may fail after a change, and mirrors stand in pairs.
use Rattle.std.proofs.Common.{◌≡◌, ℕ, Bool, true, false, ◌||◌, T, List, [], ◌∷◌, map, cond, Option, Some, None, option_map, refl, sym, ap, subst, ◌∙◌, inl, inr, get_or}
use Rattle.std.specs.Prelude.{All}
use Rattle.std.specs.List.{find, list_any, list_all}
use Rattle.std.specs.Str.{bytes_eq}
use Rattle.std.specs.FinMap.Entries.{is_sorted}
use Rattle.std.proofs.lemmas.Bool.{or_left, or_right}
use Rattle.std.proofs.lemmas.List.Elements.{All-map, All-same, All-weaker}
use Rattle.sb_value.specs.declared.value.Value.{Value}
use Rattle.sb_value.specs.declared.schema.Column.{Column}
use Rattle.sb_value.specs.Equal.{bytes_same, tuple_same}
use Rattle.sb_value.specs.Order.{bytes_cmp}
use Rattle.sb_codec.specs.Tuples.{tuple_spelling}
use Rattle.sb_rule.specs.Bound.{row_before, row_after}
use Rattle.sb_rule.specs.declared.change.Change.{Change}
use Rattle.sb_rule.specs.declared.rule.Mode.{Mode}
use Rattle.sb_rule.specs.declared.rule.Side.TheVariants.{Main, Mirror}
use Rattle.sb_rule.specs.declared.rule.Rule.{Rule}
use Rattle.sb_rule.specs.declared.rule.Rule.TheVariants.{Check, Refers}
use Rattle.sb_relation.specs.Buckets.{grown}
use Rattle.sb_relation.specs.Build.{mirror_name, mirror_of}
use Rattle.sb_relation.specs.Changes.{changed, changed_rows, with_change}
use Rattle.sb_relation.specs.Db.{Name, Key, Row, Rows, Attached, Relation, Db, relation_at, with_relation, schema_at, values_in}
use Rattle.sb_relation.specs.Rules.{has_values, has_row_with, values_at, late_checks, entry_of}
use Rattle.sb_fold.specs.Building.{rule_at, HasMirror}
use Rattle.sb_fold.specs.Fold.{attachments_at, queue_late}
use Rattle.sb_fold.specs.Outcome.{Queue}
use Rattle.sb_deferred.specs.Complete.{is_waiting, IsWaiting, is_either_waiting, tells_of, AreMirrored, IsChangeOf}
use Rattle.sb_deferred.specs.CompleteLaws.{CompleteAfterAChange, MirroredAfterAChange}
use Rattle.sb_deferred.proofs.RelationLemmas.{rows_of, schema_of, attachments_of, relation_same, relation_other, rule_found, changed_is}
use Rattle.sb_deferred.proofs.RowLemmas.{IsOfOld, any_changed, all_changed}
use Rattle.sb_deferred.proofs.TellingLemmas.{GoesOn, NewWaits, ParentsStay, tells_on, SameAt, same_goes_on, same_parents}
use Rattle.sb_deferred.proofs.WaitingLemmas.{keeps_late, PutsOff, each_puts_off}

-- ---- a database before and after a change
record Turns (before after : Db) (name : Name) (r : Relation) (c : Change) : Type 0 where
  there : relation_at before name ≡ Some r
  now : relation_at after name ≡ Some (with_change r c (changed_rows r.rows c))
  others : (n : Name) → bytes_eq n name ≡ false → relation_at after n ≡ relation_at before n

turns : (before after : Db) (name : Name) (r : Relation) (c : Change) → relation_at before name ≡ Some r → after ≡ changed before name c → Turns before after name r c
turns before after name r c there is =
    let q : Relation = with_change r c (changed_rows r.rows c) in
    let put : after ≡ with_relation before name q = is ∙ changed_is before name r c there in
    record {
      there = there;
      now = ap (λ (d : Db). relation_at d name) put ∙ relation_same before name q;
      others = λ n differs. ap (λ (d : Db). relation_at d n) put ∙ relation_other before name q n differs;
    }

same_at : (before after : Db) (name : Name) (r : Relation) (c : Change) → Turns before after name r c → (n : Name) → bytes_eq n name ≡ false → SameAt before after n
same_at before after name r c turned n differs = record { rows = ap rows_of (turned.others n differs); schema = ap schema_of (turned.others n differs) }

own_schema : (before after : Db) (name : Name) (r : Relation) (c : Change) → Turns before after name r c → schema_at after name ≡ schema_at before name
own_schema before after name r c turned = ap schema_of turned.now ∙ sym (ap schema_of turned.there)

-- ---- rows of the changed relation
own_goes_on : (before after : Db) (name : Name) (r : Relation) (c : Change) → Turns before after name r c → GoesOn before after name (λ new. row_after c ≡ Some new)
own_goes_on before after name r c turned = record {
  schema = own_schema before after name r c turned;
  rows = λ test all comes.
      ap (list_all (λ (e : Key × Row). test e.1)) (ap rows_of turned.now)
      ∙ all_changed test r.rows c (ap (list_all (λ (e : Key × Row). test e.1)) (sym (ap rows_of turned.there)) ∙ all) comes;
}

new_waits : (after : Db) (later : Queue) (name : Name) (c : Change) (label : Name) (rule : Rule) → ((entry : List ℕ) → late_checks after name rule c ≡ entry ∷ [] → IsWaiting later name label entry) → (new : Row)
    → row_after c ≡ Some new → NewWaits after later name label rule new
new_waits after later name c label (Check pred true) puts new is = puts (tuple_spelling new) (ap entry_of is)
new_waits after later name c label (Refers Main columns other others mode true) puts new is =
    puts (tuple_spelling (values_at after name columns new)) (ap (λ (o : Option Row). entry_of (option_map (values_at after name columns) o)) is)
new_waits after later name c label _ puts new is = tt

-- ---- parents that go
-- the old row had these values, so its entry is theirs
old_entry : (before after : Db) (name : Name) (c : Change) (others : List Name) (values : List Value) → schema_at after name ≡ schema_at before name
    → IsOfOld (has_values (schema_at before name) others values) c → entry_of (option_map (values_at after name others) (row_before c)) ≡ tuple_spelling values ∷ []
old_entry before after name c others values same old =
    ap (λ (o : Option Row). entry_of (option_map (values_at after name others) o)) old.stood
    ∙ ap (λ (vs : List Value). tuple_spelling vs ∷ []) (ap (λ (schema : List Column). values_in schema old.old others) same ∙ (tuple_same (values_in (schema_at before name) old.old others) values).0 old.passes)

-- the mirror of a refers to the changed relation puts off what it is to
mirror_puts_off : (after : Db) (later : Queue) (name : Name) (c : Change) → All (PutsOff after later name c) (attachments_at after name) → (label : Name) (rule : Rule) (entry : List ℕ)
    → HasMirror after label (Some (name, rule)) → late_checks after name rule c ≡ entry ∷ [] → IsWaiting later name label entry
mirror_puts_off after later name c puts label rule entry has is =
    let mirror : PutsOff after later name c has.0 × (has.0.name ≡ label) = rule_found (PutsOff after later name c) after name label has.0 puts has.1 in
    ap (λ (n : Name). is_waiting later name n entry) (sym mirror.1) ∙ mirror.0 entry (ap (λ (rule' : Rule). late_checks after name rule' c) has.2 ∙ is)

parent_of_own : (before after : Db) (name : Name) (r : Relation) (c : Change) → Turns before after name r c → T (is_sorted bytes_cmp r.rows) → IsChangeOf r.rows c → (later : Queue)
    → All (PutsOff after later name c) (attachments_at after name) → (child label : Name) (columns others : List Name) (mode : Mode)
    → HasMirror after (mirror_name child label) (Some (name, Refers Mirror others child columns mode true)) → (values : List Value) → has_row_with before name others values ≡ true
    → (has_row_with after name others values || is_either_waiting later child label name (tuple_spelling values)) ≡ true
parent_of_own before after name r c turned rises is later puts child label columns others mode has values parent =
    elim (any_changed (has_values (schema_at before name) others values) r.rows c rises is (ap (list_any (λ (e : Key × Row). has_values (schema_at before name) others values e.1)) (sym (ap rows_of turned.there)) ∙ parent)) [
      | inl old ↦ or_right (has_row_with after name others values) _ (or_right (is_waiting later child label (tuple_spelling values)) _
          (mirror_puts_off after later name c puts (mirror_name child label) (Refers Mirror others child columns mode true) (tuple_spelling values) has
          (old_entry before after name c others values (own_schema before after name r c turned) old)))
      | inr some ↦ or_left (has_row_with after name others values) _
          ((λ i. list_any (λ (e : Key × Row). has_values (own_schema before after name r c turned i) others values e.1) (ap rows_of turned.now i)) ∙ some)
    ]

parents_stay : (before after : Db) (name : Name) (r : Relation) (c : Change) → Turns before after name r c → T (is_sorted bytes_cmp r.rows) → IsChangeOf r.rows c → (later : Queue)
    → All (PutsOff after later name c) (attachments_at after name) → (child label : Name) (rule : Rule) → HasMirror after (mirror_name child label) (mirror_of child rule)
    → ParentsStay before after later child label rule
parents_stay before after name r c turned rises is later puts child label (Refers Main columns other others mode true) has = λ values parent. by values parent (bytes_eq other name) refl
  where
    by : (values : List Value) → has_row_with before other others values ≡ true → (b : Bool) → bytes_eq other name ≡ b
        → (has_row_with after other others values || is_either_waiting later child label other (tuple_spelling values)) ≡ true
    by values parent true same =
        let named : name ≡ other = sym ((bytes_same other name).0 same) in
        subst (λ (n : Name). HasMirror after (mirror_name child label) (Some (n, Refers Mirror others child columns mode true)) → has_row_with before n others values ≡ true
        → (has_row_with after n others values || is_either_waiting later child label n (tuple_spelling values)) ≡ true) named
        (λ has' parent'. parent_of_own before after name r c turned rises is later puts child label columns others mode has' values parent') has parent
    by values parent false differs =
        or_left (has_row_with after other others values) _ (same_parents before after other others values (same_at before after name r c turned other differs) ∙ parent)
parents_stay before after name r c turned rises is later puts child label _ has = tt

-- ---- mirrors
find-grown : (c : Change) (rows : Rows) (label : Name) (items : List Attached) → find (λ a. bytes_eq a.name label) (map (grown c rows) items) ≡ option_map (grown c rows) (find (λ a. bytes_eq a.name label) items)
find-grown c rows label [] = refl
find-grown c rows label (a ∷ items) = by (bytes_eq a.name label) (find-grown c rows label items)
  where
    by : (b : Bool) → find (λ x. bytes_eq x.name label) (map (grown c rows) items) ≡ option_map (grown c rows) (find (λ x. bytes_eq x.name label) items)
        → cond b (Some (grown c rows a)) (find (λ x. bytes_eq x.name label) (map (grown c rows) items)) ≡ option_map (grown c rows) (cond b (Some a) (find (λ x. bytes_eq x.name label) items))
    by true rest = refl
    by false rest = rest

mirror_stays : (before after : Db) (name : Name) (r : Relation) (c : Change) → Turns before after name r c → (label : Name) (mirror : Option (Name × Rule)) → HasMirror before label mirror → HasMirror after label mirror
mirror_stays before after name r c turned label None has = tt
mirror_stays before after name r c turned label (Some (other, rule)) has = by (bytes_eq other name) refl
  where
    by : (b : Bool) → bytes_eq other name ≡ b → HasMirror after label (Some (other, rule))
    by true same =
        let named : other ≡ name = (bytes_same other name).0 same in
        let rows : Rows = changed_rows r.rows c in (
          grown c rows has.0,
          ap (λ (n : Name). rule_at after n label) named ∙ ap (λ (o : Option Relation). find (λ x. bytes_eq x.name label) (attachments_of o)) turned.now ∙ find-grown c rows label r.attachments
              ∙ ap (option_map (grown c rows)) (ap (λ (o : Option Relation). find (λ x. bytes_eq x.name label) (attachments_of o)) (sym turned.there) ∙ ap (λ (n : Name). rule_at before n label) (sym named) ∙ has.1),
          has.2,
        )
    by false differs = (has.0, ap (λ (o : Option Relation). find (λ x. bytes_eq x.name label) (attachments_of o)) (turned.others other differs) ∙ has.1, has.2)

-- what holds of each attachment before, as its name and rule say, holds after
each_after : (P Q : Name → Name → Rule → Type 0) (before after : Db) (name : Name) (r : Relation) (c : Change) → Turns before after name r c
    → ((n label : Name) (rule : Rule) → bytes_eq n name ≡ false → P n label rule → Q n label rule) → All (λ a. P name a.name a.rule → Q name a.name a.rule) (attachments_at after name)
    → ((n : Name) → All (λ a. P n a.name a.rule) (attachments_at before n)) → (n : Name) → All (λ a. Q n a.name a.rule) (attachments_at after n)
each_after P Q before after name r c turned other own all n = by (bytes_eq n name) refl
  where
    by : (b : Bool) → bytes_eq n name ≡ b → All (λ a. Q n a.name a.rule) (attachments_at after n)
    by false differs =
        All-same (λ (a : Attached). Q n a.name a.rule) (attachments_at after n) (attachments_at before n) (ap attachments_of (turned.others n differs))
        (All-weaker (λ (a : Attached). P n a.name a.rule) (λ (a : Attached). Q n a.name a.rule) (λ a it. other n a.name a.rule differs it) (attachments_at before n) (all n))
    by true same =
        let named : name ≡ n = sym ((bytes_same n name).0 same) in
        let grew : attachments_at after name ≡ map (grown c (changed_rows r.rows c)) r.attachments = ap attachments_of turned.now in
        let stood : r.attachments ≡ attachments_at before name = sym (ap attachments_of turned.there) in
        let before' : All (λ (a : Attached). P name a.name a.rule) (attachments_at after name) =
        All-same (λ (a : Attached). P name a.name a.rule) (attachments_at after name) (map (grown c (changed_rows r.rows c)) r.attachments) grew
        (All-map (λ (a : Attached). P name a.name a.rule) (grown c (changed_rows r.rows c)) r.attachments (All-same (λ (a : Attached). P name a.name a.rule) r.attachments (attachments_at before name) stood (all name))) in
        subst (λ (m : Name). All (λ (a : Attached). Q m a.name a.rule) (attachments_at after m)) named (λ k d below. own k d below (before' k d below))

abbrev Paired : Db → Name → Name → Rule → Type 0
Paired db n label rule = HasMirror db (mirror_name n label) (mirror_of n rule)

mirrored_then : (before after : Db) (name : Name) (r : Relation) (c : Change) → Turns before after name r c → AreMirrored before → AreMirrored after
mirrored_then before after name r c turned mirrored =
    each_after (Paired before) (Paired after) before after name r c turned (λ n label rule differs has. mirror_stays before after name r c turned (mirror_name n label) (mirror_of n rule) has)
    (λ k d below has. mirror_stays before after name r c turned _ _ has) mirrored

pub changed-mirrored : MirroredAfterAChange
changed-mirrored before name c mirrored = by (relation_at before name) refl
  where
    by : (o : Option Relation) → relation_at before name ≡ o → AreMirrored (changed before name c)
    by None is = subst AreMirrored (sym (ap (λ (o : Option Relation). elim o as (λ _. Db) [ None ↦ before | Some s ↦ with_relation before name (with_change s c (changed_rows s.rows c)) ]) is)) mirrored
    by (Some r) is = mirrored_then before (changed before name c) name r c (turns before (changed before name c) name r c is refl) mirrored

-- ---- all attachments
abbrev Tells : Db → Queue → Name → Name → Rule → Type 0
Tells db q n label rule = tells_of db q n label rule ≡ true

pub changed-complete : CompleteAfterAChange
changed-complete before name r c g there rises is mirrored after complete =
    each_after (λ n label rule. Paired g.db n label rule × Tells before g.queue n label rule) (Tells g.db later) before g.db name r c turned other own both
  where
    later : Queue
    later = (queue_late name c g).queue

    turned : Turns before g.db name r c
    turned = turns before g.db name r c there after

    puts : All (PutsOff g.db later name c) (attachments_at g.db name)
    puts = each_puts_off name c g

    stay : (n label : Name) (rule : Rule) → Paired g.db n label rule → ParentsStay before g.db later n label rule
    stay n label rule has = parents_stay before g.db name r c turned rises is later puts n label rule has

    other : (n label : Name) (rule : Rule) → bytes_eq n name ≡ false → Paired g.db n label rule × Tells before g.queue n label rule → Tells g.db later n label rule
    other n label rule differs it =
        tells_on before g.db g.queue later n label rule (λ new. ⊥) (same_goes_on before g.db n (same_at before g.db name r c turned n differs)) (keeps_late name c g) (λ new none. absurd none)
        (stay n label rule it.0) it.1

    own : All (λ a. Paired g.db name a.name a.rule × Tells before g.queue name a.name a.rule → Tells g.db later name a.name a.rule) (attachments_at g.db name)
    own = λ k d below it.
        let a : Attached = get_or (attachments_at g.db name) k d in
        tells_on before g.db g.queue later name a.name a.rule (λ new. row_after c ≡ Some new) (own_goes_on before g.db name r c turned) (keeps_late name c g)
        (new_waits g.db later name c a.name a.rule (puts k d below)) (stay name a.name a.rule it.0) it.1

    both : (n : Name) → All (λ a. Paired g.db n a.name a.rule × Tells before g.queue n a.name a.rule) (attachments_at before n)
    both n = λ k d below.
        let a : Attached = get_or (attachments_at before n) k d in
        (mirror_stays before g.db name r c turned (mirror_name n a.name) (mirror_of n a.rule) (mirrored n k d below), complete n k d below)
