-- A copy of a page out of which an entry or a child is cut, and what is stored of it.
use Rattle.std.proofs.Common.{◌≡◌, ℕ, ◌+◌, ◌-◌, ◌<◌, Bool, true, false, cond, List, [], length, Some, None, IsSome, is_some, refl, ap, sym, ◌∙◌, subst, inl, inr, ◌⊎◌, arith}
use Rattle.std.specs.Prelude.{nat_eq, Result, Ok, Err, IfSome}
use Rattle.std.specs.FinMap.Entries.{find}
use Rattle.std.proofs.lemmas.List.{nil_from_length}
use Rattle.sb_bytes.specs.Bytes.{splice}
use Rattle.sb_ctx.specs.View.{View, page_of, with_page, dropped}
use Rattle.sb_ctx.proofs.ViewLaws.{room_of-page, dropped-with_page}
use Rattle.sb_node.specs.declared.head.Head.{Head}
use Rattle.sb_node.specs.Entries.{Entry, key_cmp, lesser, place_of, without}
use Rattle.sb_node.specs.Page.{Node, Becomes, has_form, node_in, node_of, with_entries, with_head}
use Rattle.sb_node.proofs.Edited.{node_of-form}
use Rattle.sb_node.proofs.Placed.{scanned}
use Rattle.sb_node.proofs.Runs.{form_size}
use Rattle.sb_node.proofs.Sizes.{head_counts, T_from}
use Rattle.sb_btree.specs.Broken.{held_node}
use Rattle.sb_btree.specs.Held.{nth_child}
use Rattle.sb_btree.specs.Removes.{CutsEntry, TakesEntry, Wrote, entries_without, first_without, without_child, taker}
use Rattle.sb_btree.specs.declared.removal.Taken.{Taken}
use Rattle.sb_btree.specs.declared.removal.Taken.TheVariants.{Lacks, Done, Empty, Single, Split}
use Rattle.sb_btree.specs.declared.walk.Stop.{Stop}
use Rattle.sb_btree.specs.declared.walk.Stop.TheVariants as stop
use Rattle.sb_btree.proofs.Descending.{positive}
use Rattle.sb_btree.proofs.Edits.{edited}
use Rattle.sb_btree.proofs.Placing.{page_count, passed-ok, nth_first}
use Rattle.sb_btree.proofs.Without.{cut_is}

-- a page that is written whole has this node
pub wrote : (old new : View) (page : ℕ) (bytes left : List ℕ) (n : Node) → page_of old page ≡ Some bytes → has_form bytes ≡ true → has_form left ≡ true → node_in left ≡ n → IfSome (page_of old page) (λ was. new ≡ with_page page (splice 0 left was) old) → Wrote old new page n
wrote old new page bytes left n at form form_left is changed = record {
  bytes = left;
  changed = edited old new page left (room_of-page old page bytes at ∙ form_size bytes form) (form_size left form_left) changed;
  node_is = node_of-form left form_left ∙ ap Some is;
}

-- the bytes of an entry page
node_size : (bytes : List ℕ) (n : Node) → node_of bytes ≡ Some n → length bytes ≡ 4096
node_size bytes n is = by (has_form bytes) refl is
  where
    by : (b : Bool) → has_form bytes ≡ b → cond b (Some (node_in bytes)) None ≡ Some n → length bytes ≡ 4096
    by true form e = form_size bytes form
    by false form e = cc

pub wrote_given : (old new : View) (page : ℕ) (n : Node) → Wrote old new page n → dropped new ≡ dropped old
wrote_given old new page n w = ap dropped w.changed ∙ dropped-with_page old page w.bytes

pub wrote_size : (old new : View) (page : ℕ) (n : Node) (w : Wrote old new page n) → length w.bytes ≡ 4096
wrote_size old new page n w = node_size w.bytes n w.node_is

-- ---- an entry
pub found_there : (key : List ℕ) (es : List Entry) (i : ℕ) → place_of key es ≡ Ok i → IsSome (find key_cmp key es)
found_there key es i is = by (is_some (find key_cmp key es)) is
  where
    by : (b : Bool) → cond b (Ok (lesser key es)) (Err (lesser key es)) ≡ Ok i → b ≡ true
    by true e = refl
    by false e = absurd (cc)

pub cut_entries : (bytes key : List ℕ) (i : ℕ) → has_form bytes ≡ true → place_of key (node_in bytes).entries ≡ Ok i → without i (node_in bytes).entries ≡ entries_without key (node_in bytes).entries
cut_entries bytes key i form is =
    let s : i ≡ 0 + i = omega arith in
    cut_is key 0 (node_in bytes).entries i (T_from _ (head_counts bytes form).rising) (scanned bytes key form ∙ is ∙ ap Ok s)

pub entry_within : (bytes same key : List ℕ) (i : ℕ) → same ≡ bytes → has_form bytes ≡ true → place_of key (node_in bytes).entries ≡ Ok i → i < (node_in same).head.count
entry_within bytes same key i is form at = subst (λ b. i < (node_in b).head.count) (sym is) (omega (arith, (passed-ok bytes key i form at).1))

pub entry_taken : (old new : View) (page i : ℕ) (bytes key : List ℕ) (outcome : Result Taken Stop) → page_of old page ≡ Some bytes → has_form bytes ≡ true → place_of key (node_in bytes).entries ≡ Ok i
    → CutsEntry old new page (node_in bytes) i outcome → TakesEntry old new page (held_node (page_of old page)) key outcome
entry_taken old new page i bytes key outcome at form place cuts =
    subst (λ o. TakesEntry old new page o key outcome) (sym (ap held_node at ∙ node_of-form bytes form)) (by outcome cuts)
  where
    has : IsSome (find key_cmp key (node_in bytes).entries)
    has = found_there key (node_in bytes).entries i place

    left : without i (node_in bytes).entries ≡ entries_without key (node_in bytes).entries
    left = cut_entries bytes key i form place

    by : (outcome : Result Taken Stop) → CutsEntry old new page (node_in bytes) i outcome → TakesEntry old new page (Some (node_in bytes)) key outcome
    by (Ok Lacks) h = absurd h
    by (Ok Done) h = (has, subst (λ es. 0 < length es) left h.0, subst (λ es. Wrote old new page (with_entries es (node_in bytes))) left h.1)
    by (Ok Empty) h = (has, sym left ∙ h.0, h.1)
    by (Ok (Single g)) h = absurd h
    by (Ok (Split bound next)) h = absurd h
    by (Err (stop.Need x)) h = absurd h
    by (Err stop.Fresh) h = absurd h
    by (Err (stop.Broken x)) h = absurd h
    by (Err stop.NoMemory) h = tt

-- ---- a child
pub count_of : (bytes : List ℕ) (head : Head) → head ≡ (node_in bytes).head → head.count ≡ length (node_in bytes).entries
count_of bytes head is = ap (λ (h : Head). h.count) is ∙ page_count bytes

pub count_none : (bytes : List ℕ) (head : Head) → head ≡ (node_in bytes).head → head.count ≡ 0 → (node_in bytes).entries ≡ []
count_none bytes head is none = nil_from_length (node_in bytes).entries (sym (count_of bytes head is) ∙ none)

-- the child that is the leftmost one then
first_is : (i k : ℕ) (n : Node) → ((i ≡ 0) × (k ≡ 1)) ⊎ ((i ≡ 0 → ⊥) × (k ≡ 0)) → nth_child n.head.a n.entries k ≡ first_without i n
first_is i k n (inl e) = ap (nth_child n.head.a n.entries) e.1 ∙ sym (ap (λ j. cond (nat_eq j 0) (nth_child n.head.a n.entries 1) n.head.a) e.0)
first_is i k n (inr e) = ap (nth_child n.head.a n.entries) e.1 ∙ nth_first n.head.a n.entries ∙ sym (ap (λ b. cond b (nth_child n.head.a n.entries 1) n.head.a) (positive i (omega (arith, e.0))))

pub first_left : (bytes : List ℕ) (head : Head) (i k first : ℕ) → head ≡ (node_in bytes).head → first ≡ nth_child head.a (node_in bytes).entries k → ((i ≡ 0) × (k ≡ 1)) ⊎ ((i ≡ 0 → ⊥) × (k ≡ 0)) → first ≡ first_without i (node_in bytes)
first_left bytes head i k first is at which = at ∙ ap (λ (h : Head). nth_child h.a (node_in bytes).entries k) is ∙ first_is i k (node_in bytes) which

pub child_cut : (old new : View) (page i j first : ℕ) (bytes mid left : List ℕ) (head : Head) → page_of old page ≡ Some bytes → has_form bytes ≡ true → head ≡ (node_in bytes).head → first ≡ first_without i (node_in bytes) → j ≡ i - 1
    → Becomes bytes mid (with_entries (without j (node_in bytes).entries) (node_in bytes)) → Becomes mid left (with_head (record head { a = first }) (node_in mid)) → IfSome (page_of old page) (λ was. new ≡ with_page page (splice 0 left was) old)
    → Wrote old new page (without_child i (node_in bytes))
child_cut old new page i j first bytes mid left head at form is first_is before cut set changed =
    wrote old new page bytes left (without_child i (node_in bytes)) at form set.form
    (set.node_is ∙ (λ t. with_head (record (is t) { a = first_is t }) (cut.node_is t)) ∙ ap (λ k. with_head (record (node_in bytes).head { a = first_without i (node_in bytes) }) (with_entries (without k (node_in bytes).entries) (node_in bytes))) before)
    changed

-- the leftmost child alone is another one
pub first_set : (old new : View) (page child : ℕ) (bytes left : List ℕ) (head : Head) → page_of old page ≡ Some bytes → has_form bytes ≡ true → head ≡ (node_in bytes).head
    → Becomes bytes left (with_head (record head { a = child }) (node_in bytes)) → IfSome (page_of old page) (λ was. new ≡ with_page page (splice 0 left was) old) → Wrote old new page (taker true child (node_in bytes))
first_set old new page child bytes left head at form is set changed =
    wrote old new page bytes left (taker true child (node_in bytes)) at form set.form (set.node_is ∙ ap (λ (h : Head). with_head (record h { a = child }) (node_in bytes)) is) changed
