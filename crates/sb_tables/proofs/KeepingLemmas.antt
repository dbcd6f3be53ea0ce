-- What is so of the entries of a catalogue that keeps a database.
use Rattle.std.proofs.Common.{◌≡◌, ℕ, zero, suc, ◌+◌, ◌<◌, ◌≤◌, get_or, drop, Result, Ok, Err, IfErr, OnOk, Bool, true, false, not, cond, bytes_eq, List, [], ◌∷◌, ◌++◌, append_assoc, length, length-append, map, Option, Some, None, All, refl, sym, ap, ◌∙◌, subst, arith}
use Rattle.std.specs.Prelude.{filter}
use Rattle.std.specs.List.{flat_map}
use Rattle.std.proofs.lemmas.List.Elements.{All-append, All-filter, All-from_recursion, All-nil}
use Rattle.std.proofs.lemmas.List.Sums.{count_by-le-length, length-filter}
use Rattle.sb_node.specs.Page.{Node}
use Rattle.sb_forms.specs.Tree as tree
use Rattle.sb_forms.specs.Tree.{AreChildren, Child, IsChild, IsLeaf, IsTree, Nodes, children_of, entries_of, items, level_of, nodes, over}
use Rattle.sb_standing.proofs.Reading.{read_root}
use Rattle.sb_forms.proofs.Maps.{map_tree}
use Rattle.sb_relation.specs.Db.{Name}
use Rattle.sb_drive.specs.declared.space.SpaceFault.{SpaceFault}
use Rattle.sb_drive.specs.declared.space.SpaceFault.TheVariants.{Damaged, NoMemory}
use Rattle.sb_drive.specs.Slots.{Slots, owned}
use Rattle.sb_registry.specs.Boxes.{Meanings}
use Rattle.sb_registry.specs.Runs.{IsSound}
use Rattle.sb_catalog.specs.declared.descriptor.Attached.{Attached}
use Rattle.sb_catalog.specs.declared.descriptor.Descriptor.{Descriptor}
use Rattle.sb_catalog.specs.Descriptors.{IsStorableAttached, IsStorableDescriptor, attached_spelling, attachments_spelling, columns_spelling, descriptor_spelling, instance_spelling, method_instance}
use Rattle.sb_rule.specs.Spelling.{names_spelling}
use Rattle.sb_engine.specs.Changes.{IsSmall}
use Rattle.sb_engine.specs.MapRefusals.{IsUndamaged}
use Rattle.sb_standing.specs.Tables.{Kept, Tables, entry_of, kept_at}
use Rattle.sb_standing.specs.Standing.{without_described}
use Rattle.sb_standing.proofs.FrameLemmas.{All-unmap}
use Rattle.sb_standing.proofs.KeptLemmas.{kept_at-all, kept_at-name}
use Rattle.sb_engine.specs.Opened.{IsDurable, IsOwnFault}
use Rattle.sb_engine.specs.Refusals.{HasRefusalCause, refusal_of}
use Rattle.sb_tables.specs.Keeping.{HasMore}

-- ---- entries of a tree are small
leaf_small : (o : Option Node) → IsLeaf o → All tree.IsSmall (entries_of o)
leaf_small None leaf = absurd leaf
leaf_small (Some n) leaf = All-from_recursion tree.IsSmall n.entries leaf.2

items_small : (l : ℕ) (N : Nodes) (p : ℕ) → IsTree l N p → All tree.IsSmall (items l N p)
items_small zero N p is = leaf_small (N p) is
items_small (suc l) N p is = of_children (λ c child. items_small l N c child) None (children_of (N p)) is.2
  where
    of_children : ((c : ℕ) → IsTree l N c → All tree.IsSmall (items l N c)) → (high : Option (List ℕ)) (ks : List Child) → AreChildren (λ c. IsChild l N c) (items l N) high ks
        → All tree.IsSmall (over (items l N) ks)
    of_children each high [] are = All-nil _
    of_children each high (k ∷ ks) are = All-append tree.IsSmall (items l N k.1) (over (items l N) ks) (each k.1 are.0.0) (of_children each high ks are.3)

pub small-kept : (m : Meanings) (root : ℕ) (s : Slots) (kept : List Kept) (name : Name) (k : Kept) → Tables m IsDurable root s kept → kept_at kept name ≡ Some k → IsSmall name (descriptor_spelling k.descriptor)
small-kept m root s kept name k tables at =
    let read = read_root (owned s 2) root (map entry_of kept) (map_tree root (owned s 2) (map entry_of kept) tables.catalogue) in
    let all : All tree.IsSmall (map entry_of kept) = subst (All tree.IsSmall) (sym read.1) (items_small (level_of (nodes (owned s 2) root)) (nodes (owned s 2)) root read.0.tree) in
    let one = kept_at-all (λ (x : Kept). tree.IsSmall (entry_of x)) kept name k (All-unmap tree.IsSmall entry_of kept all) at in
    subst (λ (n : Name). IsSmall n (descriptor_spelling k.descriptor)) (kept_at-name kept name k at) (record { short = one.0; both = one.1 })

-- ---- fewer attachments
fewer : (test : Attached → Bool) (ds : List Attached) → length (flat_map attached_spelling (filter test ds)) ≤ length (flat_map attached_spelling ds)
fewer test [] = omega arith
fewer test (d ∷ ds) = of_test (test d) (fewer test ds)
  where
    of_test : (b : Bool) → length (flat_map attached_spelling (filter test ds)) ≤ length (flat_map attached_spelling ds)
        → length (flat_map attached_spelling (cond b (d ∷ filter test ds) (filter test ds))) ≤ length (attached_spelling d ++ flat_map attached_spelling ds)
    of_test true rest =
        omega (arith, rest, length-append (attached_spelling d) (flat_map attached_spelling (filter test ds)), length-append (attached_spelling d) (flat_map attached_spelling ds))
    of_test false rest = omega (arith, rest, length-append (attached_spelling d) (flat_map attached_spelling ds))

-- they have a shorter descriptor
shorter : (d : Descriptor) (label : Name) → length (descriptor_spelling (record d { attachments = without_described label d.attachments })) ≤ length (descriptor_spelling d)
shorter d label =
    behind (instance_spelling (method_instance d)) (columns_spelling d.schema) (names_spelling d.key) (attachments_spelling (without_described label d.attachments)) (attachments_spelling d.attachments)
    (less (flat_map attached_spelling (without_described label d.attachments)) (flat_map attached_spelling d.attachments) (length (without_described label d.attachments)) (length d.attachments)
    (fewer _ d.attachments))
  where
    less : (xs ys : List ℕ) (x y : ℕ) → length xs ≤ length ys → length (x ∷ xs) ≤ length (y ∷ ys)
    less xs ys x y le = omega arith

    behind : (a b c x y : List ℕ) → length x ≤ length y → length (a ++ (b ++ (c ++ x))) ≤ length (a ++ (b ++ (c ++ y)))
    behind a b c x y le =
        omega (arith, length-append a (b ++ (c ++ x)), length-append b (c ++ x), length-append c x, length-append a (b ++ (c ++ y)), length-append b (c ++ y), length-append c y)

pub small-without : (name label : Name) (d : Descriptor) → IsSmall name (descriptor_spelling d) → IsSmall name (descriptor_spelling (record d { attachments = without_described label d.attachments }))
small-without name label d small = record { short = small.short; both = omega (arith, small.both, shorter d label) }

pub storable-without : (label : Name) (d : Descriptor) → IsStorableDescriptor d → IsStorableDescriptor (record d { attachments = without_described label d.attachments })
storable-without label d storable =
    let test : Attached → Bool = λ x. not (bytes_eq x.name label) in
    let less : length (filter test d.attachments) ≤ 255 = omega (arith, storable.attachments.0, length-filter test d.attachments, count_by-le-length test d.attachments) in
    record { instance = storable.instance; columns = storable.columns; key = storable.key; attachments = (less, All-filter test IsStorableAttached d.attachments storable.attachments.1) }

-- ---- refusals
pub own_cause : {S : Type 0} (Fails : SpaceFault → S → S → Type 0) (e : SpaceFault) (now : S) → IsOwnFault e → IsSound e → HasRefusalCause Fails (refusal_of e) now
own_cause Fails (Damaged page) now own sound = absurd sound
own_cause Fails NoMemory now own sound = tt
own_cause Fails e now own sound = absurd own

pub sound_undamaged : (e : SpaceFault) → IsUndamaged e → IsSound e
sound_undamaged (Damaged page) is = is
sound_undamaged e is = tt

-- ---- what is so of a result
pub on_ok : {T E A B : Type 0} (r : Result T E) → (A → B) → OnOk r A → OnOk r B
on_ok (Ok x) then a = then a
on_ok (Err e) then a = tt

pub on_ok_both : {T E A B C : Type 0} (r : Result T E) → (A → B → C) → OnOk r A → OnOk r B → OnOk r C
on_ok_both (Ok x) then a b = then a b
on_ok_both (Err e) then a b = tt

pub if_err : {T E : Type 0} (P Q : E → Type 0) (r : Result T E) → ((e : E) → P e → Q e) → IfErr r P → IfErr r Q
if_err P Q (Ok x) then a = tt
if_err P Q (Err e) then a = then e a

pub if_err_both : {T E : Type 0} (O P Q : E → Type 0) (r : Result T E) → ((e : E) → O e → P e → Q e) → IfErr r O → IfErr r P → IfErr r Q
if_err_both O P Q (Ok x) then a b = tt
if_err_both O P Q (Err e) then a b = then e a b

pub if_err_all : {T E : Type 0} (N O P Q : E → Type 0) (r : Result T E) → ((e : E) → N e → O e → P e → Q e) → IfErr r N → IfErr r O → IfErr r P → IfErr r Q
if_err_all N O P Q (Ok x) then a b c = tt
if_err_all N O P Q (Err e) then a b c = then e a b c

-- ---- one item of a list
pub drop_item : {A : Type 0} (xs : List A) (i : ℕ) (x : A) → i < length xs → x ≡ get_or xs i x → drop i xs ≡ x ∷ drop (i + 1) xs
drop_item [] i x lt is = absurd (omega arith)
drop_item (y ∷ xs) zero x lt is = ap (λ y. y ∷ xs) (sym is)
drop_item {A} (y ∷ xs) (suc i) x lt is = drop_item xs i x (omega arith) is ∙ ap (λ (n : ℕ). x ∷ drop n (y ∷ xs)) next
  where
    next : suc (i + 1) ≡ suc i + 1
    next = omega arith

pub drop_all : {A : Type 0} (xs : List A) (i : ℕ) → length xs ≤ i → drop i xs ≡ []
drop_all [] zero le = refl
drop_all [] (suc i) le = refl
drop_all (x ∷ xs) zero le = absurd (omega arith)
drop_all (x ∷ xs) (suc i) le = drop_all xs i (omega arith)

pub drop_number : (xs : List ℕ) (i : ℕ) → i < length xs → drop i xs ≡ get_or xs i 0 ∷ drop (i + 1) xs
drop_number [] i lt = absurd (omega arith)
drop_number (y ∷ xs) zero lt = refl
drop_number (y ∷ xs) (suc i) lt = drop_number xs i (omega arith) ∙ ap (λ (n : ℕ). get_or xs i 0 ∷ drop n (y ∷ xs)) next
  where
    next : suc (i + 1) ≡ suc i + 1
    next = omega arith

-- ---- owners that are to go
pub more_then : (a b c : List ℕ) → HasMore a b → HasMore b c → HasMore a c
more_then a b c first later = (first.0 ++ later.0, later.1 ∙ ap (λ (l : List ℕ). l ++ later.0) first.1 ∙ append_assoc a first.0 later.0)
