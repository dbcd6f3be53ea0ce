-- Databases that aren't lawful, one for each thing that a lawful one has, and such as are sound or not.
use Rattle.std.proofs.Common.{◌≡◌, Bool, true, false, List, [], ◌∷◌, ◌++◌, map, refl, Some, None}
use Rattle.std.specs.Prelude.{codes, All, replicate, not, ◌&&◌}
use Rattle.std.proofs.lemmas.List.Elements.{All-nil, All-cons, All-head, All-tail}
use Rattle.sb_pred.specs.declared.predicate.Op.TheVariants.{Lt}
use Rattle.sb_pred.specs.declared.predicate.Term.TheVariants.{Const, New}
use Rattle.sb_pred.specs.Tree.{Always, Compare}
use Rattle.sb_rule.specs.declared.action.Action.TheVariants as action
use Rattle.sb_rule.specs.declared.rule.Event.TheVariants as event
use Rattle.sb_rule.specs.declared.rule.Mode.TheVariants.{Restrict}
use Rattle.sb_rule.specs.declared.rule.Side.TheVariants.{Main, Mirror}
use Rattle.sb_rule.specs.declared.rule.Rule.{Rule}
use Rattle.sb_rule.specs.declared.rule.Rule.TheVariants.{TreeIndex, HashIndex, JoinIndex, Check, Refers, Trigger, Foreign}
use Rattle.sb_relation.specs.Build.{mirror_name, mirror_of}
use Rattle.sb_relation.specs.Db.{Name, Key, Row, Attached, Relation, Db, int_column}
use Rattle.sb_relation.specs.Rules.{holds}
use Rattle.sb_relation.specs.Laws.{is_foreign}
use Rattle.sb_fold.specs.Building.{without_rule, HasMirror}
use Rattle.sb_fold.specs.Extensions.{box_of}
use Rattle.sb_plain.specs.declared.command.Command.TheVariants as command
use Rattle.sb_plain.specs.Lawful.{MayBe, MayBeAttached, IsMirrorOf, IsRowOf, IsLawfulRelation, IsLawful, IsSound, IsSoundNow, AllHold, IsLawfulPoint, IsLawfulState, is_in_order, is_deferred}
use Rattle.sb_plain.specs.Printing.{is_mirror}
use Rattle.sb_plain.specs.State.{State, no_queue, none_gone}
use Rattle.sb_pinned.proofs.Samples.{int, letters, one, two, slot, key, a, b, r, t, z, numbers, text_column, named, relation, heap, tree}
use Rattle.sb_pinned.proofs.Scripts.{none, over}

-- ---- what can't be
pub untrue : false ≡ true → ⊥
untrue e = cc

pub unfalse : true ≡ false → ⊥
unfalse e = cc

pub some_is_not_none : {X : Type 0} (x : X) → Some x ≡ None → ⊥
some_is_not_none x e = cc

none_is_not_some : {X : Type 0} (x : X) → None ≡ Some x → ⊥
none_is_not_some x e = cc

abbrev i : Name
i = codes "i"

-- ---- call order
abbrev index : Rule
index = TreeIndex (a ∷ []) false

abbrev hash : Rule
hash = HashIndex (a ∷ [])

abbrev check : Rule
check = Check Always false

abbrev order_of : List Rule → Bool
order_of rules = is_in_order (map (named i) rules)

which_are_in_order :
    map order_of
    ([]
    ∷ (hash ∷ [])
    ∷ (index ∷ index ∷ hash ∷ check ∷ check ∷ Foreign 1000 [] ∷ [])
    ∷ (hash ∷ index ∷ [])
    ∷ (index ∷ hash ∷ index ∷ [])
    ∷ (index ∷ check ∷ hash ∷ check ∷ [])
    ∷ [])
    ≡ true ∷ true ∷ true ∷ false ∷ false ∷ false ∷ []
which_are_in_order = refl

-- ---- a relation t beside r, which is empty
abbrev beside : Relation → Db
beside x = (r, heap [] []) ∷ (t, x) ∷ []

abbrev Lawful : Relation → Type 0
Lawful x = IsLawfulRelation none (beside x) t x

-- ---- as create would have it
a_heap_has_no_key : Lawful (relation 1 numbers (a ∷ []) [] []) → ⊥
a_heap_has_no_key is = untrue is.created.fits

a_tree_has_a_key : Lawful (relation 2 numbers [] [] []) → ⊥
a_tree_has_a_key is = untrue is.created.fits

no_two_columns_have_one_name : Lawful (relation 1 (int_column a ∷ int_column a ∷ []) [] [] []) → ⊥
no_two_columns_have_one_name is = some_is_not_none a is.created.new

key_columns_are_there : Lawful (relation 2 numbers (z ∷ []) [] []) → ⊥
key_columns_are_there is = some_is_not_none z is.created.named

-- ---- as attach would have it
abbrev with_rule : Rule → Relation
with_rule rule = heap (named i rule ∷ []) []

its_rule : (rule : Rule) → is_mirror rule ≡ false → Lawful (with_rule rule) → MayBe none (without_rule (beside (with_rule rule)) t (named i rule)) (command.Attach t i rule)
its_rule rule main is = All-head (MayBeAttached none (beside (with_rule rule)) t) (named i rule) [] is.attached main

relations_of_rules_are_there : Lawful (with_rule (Trigger event.Insert Always (action.Delete z []) false)) → ⊥
relations_of_rules_are_there is = some_is_not_none z ((its_rule (Trigger event.Insert Always (action.Delete z []) false) refl is).there)

columns_of_rules_stand_once : Lawful (with_rule (HashIndex (a ∷ a ∷ []))) → ⊥
columns_of_rules_stand_once is = some_is_not_none a ((its_rule (HashIndex (a ∷ a ∷ [])) refl is).new)

columns_of_rules_are_there : Lawful (with_rule (HashIndex (z ∷ []))) → ⊥
columns_of_rules_are_there is = some_is_not_none z ((its_rule (HashIndex (z ∷ [])) refl is).named)

abbrev less_than_a_text : Rule
less_than_a_text = Check (Compare Lt (New a) (Const (letters 1))) false

rules_are_well_typed : Lawful (with_rule less_than_a_text) → ⊥
rules_are_well_typed is = untrue ((its_rule less_than_a_text refl is).fits)

no_relation_is_joined_with_itself : Lawful (with_rule (JoinIndex Main (a ∷ []) t (b ∷ []))) → ⊥
no_relation_is_joined_with_itself is = unfalse ((its_rule (JoinIndex Main (a ∷ []) t (b ∷ [])) refl is).alike)

abbrev long_text : Rule
long_text = Check (Compare Lt (Const (letters 256)) (Const (letters 1))) false

rules_are_within_limits : Lawful (with_rule long_text) → ⊥
rules_are_within_limits is = unfalse ((its_rule long_text refl is).within)

-- ---- mirrors
abbrev refers : Rule
refers = Refers Main (a ∷ []) r (a ∷ []) Restrict false

a_main_instance_has_its_mirror : Lawful (with_rule refers) → ⊥
a_main_instance_has_its_mirror is =
    let mirror = All-head (λ x. HasMirror (beside (with_rule refers)) (mirror_name t x.name) (mirror_of t x.rule)) (named i refers) [] is.mirrored in
    none_is_not_some mirror.0 mirror.1

-- a mirror bears the name of its main instance, behind that of its relation and a dot, which no empty name has
abbrev mirror : Attached
mirror = named [] (Refers Mirror (a ∷ []) r (a ∷ []) Restrict false)

no_dot : (other name : Name) → [] ≡ other ++ 46 ∷ name → ⊥
no_dot [] name e = cc
no_dot (x ∷ other) name e = cc

abbrev with_mirror : Relation
with_mirror = heap (mirror ∷ []) []

a_mirror_has_its_main_instance : Lawful with_mirror → ⊥
a_mirror_has_its_main_instance is =
    let main : IsMirrorOf (beside with_mirror) t mirror = All-head (λ x. is_mirror x.rule ≡ true → IsMirrorOf (beside with_mirror) t x) mirror [] is.mirrors refl in
    no_dot main.other main.main.name main.label

-- ---- order of attachments and of rows
attachments_are_in_call_order : Lawful (heap (named i hash ∷ named (codes "j") index ∷ []) []) → ⊥
attachments_are_in_call_order is = untrue is.in_order

no_two_attachments_have_one_name : Lawful (heap (named i index ∷ named i index ∷ []) []) → ⊥
no_two_attachments_have_one_name is = some_is_not_none i is.apart

rows_are_in_order : Lawful (heap [] ((slot 1, two 1 1) ∷ (slot 0, two 2 2) ∷ [])) → ⊥
rows_are_in_order is = is.rising

no_two_rows_have_one_key : Lawful (heap [] ((slot 1, two 1 1) ∷ (slot 1, two 2 2) ∷ [])) → ⊥
no_two_rows_have_one_key is = is.rising

-- ---- rows
abbrev with_row : Relation → Key → Row → Relation
with_row x at row = record x { rows = (at, row) ∷ [] }

its_row : (x : Relation) (at : Key) (row : Row) → Lawful (with_row x at row) → IsRowOf (with_row x at row) at row
its_row x at row is = All-head (λ found. IsRowOf (with_row x at row) found.0 found.1) (at, row) [] is.rows

rows_have_all_columns : Lawful (with_row (heap [] []) (slot 0) (one 1)) → ⊥
rows_have_all_columns is = some_is_not_none 1 ((its_row (heap [] []) (slot 0) (one 1) is).stored.fits)

abbrev texts : List Attached → Relation
texts attachments = relation 1 (text_column a 200 ∷ []) [] attachments []

rows_are_within_their_columns : Lawful (with_row (texts []) (slot 0) (letters 201 ∷ [])) → ⊥
rows_are_within_their_columns is = unfalse ((its_row (texts []) (slot 0) (letters 201 ∷ []) is).stored.short)

codes_of_rows_are_within_limits : Lawful (with_row (texts (named i index ∷ [])) (slot 0) (letters 199 ∷ [])) → ⊥
codes_of_rows_are_within_limits is = unfalse ((its_row (texts (named i index ∷ [])) (slot 0) (letters 199 ∷ []) is).short)

record_keys_have_200_bytes : Lawful (with_row (heap [] []) (replicate 201 7) (two 1 1)) → ⊥
record_keys_have_200_bytes is = untrue ((its_row (heap [] []) (replicate 201 7) (two 1 1) is).keyed)

keys_of_a_tree_are_codes : Lawful (with_row (tree [] []) (key 2) (two 1 1)) → ⊥
keys_of_a_tree_are_codes is = let wrong : key 2 ≡ key 1 = (its_row (tree [] []) (key 2) (two 1 1) is).coded refl in cc

-- ---- databases
relations_are_in_order : IsLawful none ((t, heap [] []) ∷ (r, heap [] []) ∷ []) → ⊥
relations_are_in_order is = is.rising

each_relation_is_lawful : IsLawful none ((t, relation 1 numbers (a ∷ []) [] []) ∷ []) → ⊥
each_relation_is_lawful is =
    let its = All-head (λ e. IsLawfulRelation none ((t, relation 1 numbers (a ∷ []) [] []) ∷ []) e.0 e.1) (t, relation 1 numbers (a ∷ []) [] []) [] is.relations in
    untrue its.created.fits

-- ---- which rules are tested late
abbrev refers_late : Bool → Rule
refers_late deferred = Refers Main (a ∷ []) r (a ∷ []) Restrict deferred

checks_and_references_may_be_deferred :
    map is_deferred
    (Check Always true
    ∷ refers_late true
    ∷ Refers Mirror (a ∷ []) r (a ∷ []) Restrict true
    ∷ Check Always false
    ∷ refers_late false
    ∷ Trigger event.Insert Always (action.Delete t []) true
    ∷ index
    ∷ Foreign 1000 []
    ∷ [])
    ≡ true ∷ true ∷ true ∷ false ∷ false ∷ false ∷ false ∷ false ∷ []
checks_and_references_may_be_deferred = refl

-- ---- sound: r has no row, and t a row of 5, or two
abbrev with_two : Rule → Relation
with_two rule = heap (named i rule ∷ []) ((slot 0, two 1 5) ∷ (slot 1, two 2 5) ∷ [])

abbrev ruled : Rule → Db
ruled rule = (r, heap [] []) ∷ (t, with_two rule) ∷ []

abbrev Each : (Rule → Bool) → Db → Name × Relation → Type 0
Each is_meant db e = All (λ x. is_meant x.rule ≡ true → holds (box_of none x.rule) db e.0 x.rule ≡ true) e.1.attachments

abbrev below_3 : Bool → Rule
below_3 deferred = Check (Compare Lt (New b) (Const (int 3))) deferred

its_rule_holds : (is_meant : Rule → Bool) (rule : Rule) → AllHold none is_meant (ruled rule) → is_meant rule ≡ true → holds (box_of none rule) (ruled rule) t rule ≡ true
its_rule_holds is_meant rule all meant =
    All-head (λ x. is_meant x.rule ≡ true → holds (box_of none x.rule) (ruled rule) t x.rule ≡ true) (named i rule) []
    (All-head (Each is_meant (ruled rule)) (t, with_two rule) [] (All-tail (Each is_meant (ruled rule)) (r, heap [] []) ((t, with_two rule) ∷ []) all)) meant

-- that the rule isn't meant, or that it holds, is enough
all_hold : (is_meant : Rule → Bool) (rule : Rule) → (is_meant rule ≡ true → holds (box_of none rule) (ruled rule) t rule ≡ true) → AllHold none is_meant (ruled rule)
all_hold is_meant rule it =
    All-cons (Each is_meant (ruled rule)) (r, heap [] []) ((t, with_two rule) ∷ []) (All-nil _)
    (All-cons (Each is_meant (ruled rule)) (t, with_two rule) [] (All-cons (λ x. is_meant x.rule ≡ true → holds (box_of none x.rule) (ruled rule) t x.rule ≡ true) (named i rule) [] it (All-nil _)) (All-nil _))

abbrev is_ours : Rule → Bool
is_ours rule = not (is_foreign rule)

abbrev is_now : Rule → Bool
is_now rule = not (is_foreign rule) && not (is_deferred rule)

-- what is tested at once is to hold at once
a_check_that_fails : IsSoundNow none (ruled (below_3 false)) → ⊥
a_check_that_fails is = untrue (its_rule_holds is_now (below_3 false) is refl)

a_reference_that_fails : IsSoundNow none (ruled (refers_late false)) → ⊥
a_reference_that_fails is = untrue (its_rule_holds is_now (refers_late false) is refl)

two_rows_that_agree : IsSoundNow none (ruled (TreeIndex (b ∷ []) true)) → ⊥
two_rows_that_agree is = untrue (its_rule_holds is_now (TreeIndex (b ∷ []) true) is refl)

-- what is deferred may fail inside a transaction
a_check_that_fails_late : IsSoundNow none (ruled (below_3 true))
a_check_that_fails_late = all_hold is_now (below_3 true) (λ meant. absurd (cc))

a_reference_that_fails_late : IsSoundNow none (ruled (refers_late true))
a_reference_that_fails_late = all_hold is_now (refers_late true) (λ meant. absurd (cc))

-- and not in a commit
a_check_is_to_hold_in_the_end : IsSound none (ruled (below_3 true)) → ⊥
a_check_is_to_hold_in_the_end is = untrue (its_rule_holds is_ours (below_3 true) is refl)

a_reference_is_to_hold_in_the_end : IsSound none (ruled (refers_late true)) → ⊥
a_reference_is_to_hold_in_the_end is = untrue (its_rule_holds is_ours (refers_late true) is refl)

-- a rule of another's code isn't asked
a_rule_of_another_is_not_asked : IsSound none (ruled (Foreign 1000 []))
a_rule_of_another_is_not_asked = all_hold is_ours (Foreign 1000 []) (λ meant. absurd (cc))

-- ---- states
abbrev failing : Db
failing = ruled (below_3 true)

each_commit_is_sound : IsLawfulState none (over failing) → ⊥
each_commit_is_sound is = a_check_is_to_hold_in_the_end (All-head (IsSound none) failing [] is.sound)

abbrev open_over : Db → List Db → State
open_over db points = record (over []) {
  transaction = Some (record { db = db; queue = no_queue; points = map (λ p. record { name = i; db = p; queue = no_queue; gone = none_gone }) points; gone = none_gone; spent = 0 });
}

an_open_database_is_sound_now : IsLawfulState none (open_over (ruled (below_3 false)) []) → ⊥
an_open_database_is_sound_now is = a_check_that_fails is.open_one.sound

so_is_that_of_each_point : IsLawfulState none (open_over [] (ruled (below_3 false) ∷ [])) → ⊥
so_is_that_of_each_point is =
    a_check_that_fails (All-head (IsLawfulPoint none) (record { name = i; db = ruled (below_3 false); queue = no_queue; gone = none_gone }) [] is.open_one.points).sound
