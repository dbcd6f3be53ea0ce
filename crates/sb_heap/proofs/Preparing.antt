-- What the box answers when an instance is made, and what reading calls answer that have no end yet.
use Rattle.std.proofs.Common.{◌≡◌, ◌≢◌, ℕ, ◌+◌, ◌<◌, ◌==◌, zero, suc, Bool, true, false, true≢false, cond, not, ◌&&◌, List, [], ◌∷◌, length, Some, None, IsSome, is_some, refl, ap, sym, ◌∙◌, subst, arith, inl, inr, eq-eqb, ne_eqb}
use Rattle.std.specs.Prelude.{nat_eq, nat_lt, ◌||◌, Result, Ok, Err}
use Rattle.std.specs.List.{list_all}
use Rattle.std.proofs.lemmas.Bool.{and_from, eqb-true, or_right}
use Rattle.std.proofs.lemmas.List.{length-replicate}
use Rattle.sb_value.specs.declared.schema.Column.{Column}
use Rattle.sb_node.specs.Page.{has_form, node_in, node_of}
use Rattle.sb_node.proofs.Runs.{form_size}
use Rattle.sb_forms.specs.Pages.{Pages, new_pages, zeros}
use Rattle.sb_forms.specs.Tree.{Nodes, nodes, entries_of, level_of}
use Rattle.sb_forms.specs.Read.{has}
use Rattle.sb_forms.specs.HeapPages.{after_of, before_of, first_of, is_heap_page, is_record}
use Rattle.sb_ctx.specs.declared.instance.Instance.{Instance}
use Rattle.sb_ctx.specs.declared.calls.MethodCall.TheVariants as call
use Rattle.sb_ctx.specs.declared.moves.Move.TheVariants as move
use Rattle.sb_ctx.specs.View.{View, page_of, dropped, edits_of, HoldsPart, stored}
use Rattle.sb_ctx.specs.MethodAnswers.{Changes}
use Rattle.sb_ctx.proofs.ViewLaws.{given-page, stored-clean}
use Rattle.sb_heap.specs.Broken.{breaks, has_bytes, is_amiss, is_linked, is_named}
use Rattle.sb_heap.specs.Heap.{heap_method}
use Rattle.sb_heap.specs.Links.{put_node}
use Rattle.sb_heap.specs.Prepared.{IsPrepared, Prepares, new_root}
use Rattle.sb_heap.specs.Answered.{prepare_move}
use Rattle.sb_heap.specs.declared.stop.Stop.{Stop}
use Rattle.sb_heap.specs.declared.stop.Stop.TheVariants as stop
use Rattle.sb_heap.proofs.Lists.{linked_from, has_here}
use Rattle.sb_heap.proofs.Standing.{Heap, kind_of, room_at, by_page, put_same}
use Rattle.sb_heap.proofs.Rows.{rows_in, rows_frame}
use Rattle.sb_heap.proofs.Formed.{bare_node, rows_from}
use Rattle.sb_heap.proofs.Outcomes.{broken_given, edits_before}

long_zeros : length zeros ≡ 4096
unfolding zeros
long_zeros = length-replicate {A = ℕ} 4096 0

-- nodes of which the root alone is there
abbrev only_root : ℕ → Nodes
only_root root = put_node root (Some (new_root root)) (λ n. None)

root_heap : (root : ℕ) (schema : List Column) → (root ≢ 0) × (root < 65536) → Heap root schema (only_root root) (root ∷ [])
root_heap root schema low =
    let N = only_root root in
    let here : N root ≡ Some (new_root root) = put_same root root (Some (new_root root)) (λ n. None) refl in
    record {
      stands = record {
        root_some = ap is_some here;
        low = by_page (λ n o. IsSome o → (n ≢ 0) × (n < 65536)) root (Some (new_root root)) (λ n. None) (λ is. low) (λ n other is. absurd (true≢false (sym is)));
        kind = by_page (λ n o. IsSome o → kind_of o ≡ 1) root (Some (new_root root)) (λ n. None) (λ is. refl) (λ n other is. absurd (true≢false (sym is)));
        records = by_page (λ n o. list_all (is_record schema) (entries_of o) ≡ true) root (Some (new_root root)) (λ n. None) refl (λ n other. refl);
        some = by_page (λ n o. IsSome o → n ≢ root → entries_of o ≢ []) root (Some (new_root root)) (λ n. None) (λ is other. absurd (other refl)) (λ n apart is. absurd (true≢false (sym is)));
      };
      listed = record {
        first = ap first_of here;
        linked = linked_from N 0 root [] (ap before_of here) (ap after_of here) refl;
        apart = refl;
        level = by_page (λ n o. IsSome o → level_of o ≡ cond (has n (root ∷ [])) 1 0) root (Some (new_root root)) (λ n. None) (λ is. ap (λ b. cond b 1 0) (sym (has_here root []))) (λ n other is. absurd (true≢false (sym is)));
        within = λ n had. let e = one n had in (subst (λ m. IsSome (N m)) (sym e) (ap is_some here), λ z. low.0 (sym e ∙ z));
      };
      rooms = by_page (λ n o. IsSome o → room_at o ≡ has n (root ∷ [])) root (Some (new_root root)) (λ n. None) (λ is. sym (has_here root [])) (λ n other is. absurd (true≢false (sym is)));
    }
  where
    one : (n : ℕ) → has n (root ∷ []) ≡ true → n ≡ root
    one n had = by (nat_eq n root) refl had
      where
        by : (b : Bool) → nat_eq n root ≡ b → (b || false) ≡ true → n ≡ root
        by true same e = eqb-true n root same
        by false other e = absurd (true≢false (sym e))

no_rows : (low len : ℕ) → rows_in (λ n. None) low len ≡ []
no_rows low zero = refl
no_rows low (suc len) = no_rows (low + 1) len

Changes-made : (inst : Instance) (old new : View) → dropped old ≡ old → IsPrepared old new inst.root → Changes heap_method inst call.Prepare old new move.Done
Changes-made inst old new clean is = record {
  given = is.made.given ∙ clean;
  asks = tt;
  broken = tt;
  ends = tt;
  answers = λ P part fresh.
      let there = made_nodes P part fresh in
      rows_from inst.root inst.schema (stored new P) (inst.root ∷ []) (subst (λ (N : Nodes). Heap inst.root inst.schema N (inst.root ∷ [])) (sym there) (root_heap inst.root inst.schema is.low))
      (λ n none. bare P part fresh n none)
      ∙ ap (λ (N : Nodes). Some (rows_in N 0 65536)) there ∙ ap Some (rows_frame (λ n. None) (only_root inst.root) 0 65536 (λ n from to. by_page (λ n o. entries_of o ≡ []) inst.root (Some (new_root inst.root)) (λ n. None) refl (λ n other. refl) n) ∙ no_rows 0 65536);
  spends = λ ctx P part rows before. record { path = tt; room = tt; gets = tt; edits = omega (arith, is.made.edits, edits_before old new P (is.made.given ∙ clean) clean ctx part) };
}
  where
    other_none : (P : Pages) → ((n : ℕ) → P n ≡ new_pages inst.root n) → (n : ℕ) → inst.root ≢ n → P n ≡ []
    other_none P fresh n other = fresh n ∙ ap (λ b. cond b zeros []) (ne_eqb n inst.root (λ e. other (sym e)))

    made_nodes : (P : Pages) → HoldsPart old P → ((n : ℕ) → P n ≡ new_pages inst.root n) → nodes (stored new P) ≡ only_root inst.root
    made_nodes P part fresh = is.made.makes P ∙ ap (λ (Q : Pages). put_node inst.root (Some (new_root inst.root)) (nodes Q)) (stored-clean old P clean part) ∙ (λ i n. by n (inst.root == n) refl i)
      where
        by : (n : ℕ) (b : Bool) → (inst.root == n) ≡ b → cond b (Some (new_root inst.root)) (nodes P n) ≡ cond b (Some (new_root inst.root)) None
        by n true same = refl
        by n false differs = bare_node (P n) (other_none P fresh n (λ e. true≢false (sym (eq-eqb inst.root n e) ∙ differs)))

    bare : (P : Pages) → HoldsPart old P → ((n : ℕ) → P n ≡ new_pages inst.root n) → (n : ℕ) → nodes (stored new P) n ≡ None → stored new P n ≡ []
    bare P part fresh n none = elim (is.made.bare P n none) [
      | inl empty ↦ empty
      | inr kept ↦ kept ∙ ap (λ (Q : Pages). Q n) (stored-clean old P clean part) ∙ other_none P fresh n (λ e. some_root (sym (ap is_some (ap (λ (N : Nodes). N n) (made_nodes P part fresh))) ∙ ap is_some none) e)
    ]
      where
        some_root : is_some (only_root inst.root n) ≡ false → inst.root ≡ n → ⊥
        some_root none same = true≢false (sym (ap is_some (put_same inst.root n (Some (new_root inst.root)) (λ n. None) same)) ∙ none)

pub Changes-prepared : (inst : Instance) (old new : View) (outcome : Result (Unit {0}) Stop) → dropped old ≡ old → Prepares old new inst.root outcome → Changes heap_method inst call.Prepare old new (prepare_move outcome)
Changes-prepared inst old new (Ok done) clean is = Changes-made inst old new clean is
Changes-prepared inst old new (Err stop.NoMemory) clean is = record {
  given = is.given ∙ clean;
  asks = tt;
  broken = tt;
  ends = tt;
  answers = λ P part. tt;
  spends = λ ctx P part rows before. record { path = tt; room = tt; gets = tt; edits = omega (arith, is.edits, edits_before old new P (is.given ∙ clean) clean ctx part) };
}
Changes-prepared inst old new (Err stop.Fresh) clean is = absurd is
Changes-prepared inst old new (Err (stop.After low)) clean is = absurd is
Changes-prepared inst old new (Err (stop.Need n)) clean is = record {
  given = ap dropped is.0 ∙ clean;
  asks = ap (λ (v : View). page_of v n) is.0 ∙ ap (page_of old) is.1 ∙ is.3;
  broken = tt;
  ends = tt;
  answers = λ P part. tt;
  spends = λ ctx P part rows before. record {
    path = and_from (not (nat_eq n 0)) (has n (inst.root ∷ [])) (ap not (ne_eqb n 0 (λ z. is.2 (sym is.1 ∙ z)))) (ap (λ m. has m (inst.root ∷ [])) is.1 ∙ has_here inst.root []);
    room = tt;
    gets = tt;
    edits = omega (arith, ap edits_of is.0, edits_before old new P (ap dropped is.0 ∙ clean) clean ctx part);
  };
}
Changes-prepared inst old new (Err (stop.Broken n)) clean is = record {
  given = ap dropped is.0 ∙ clean;
  asks = subst (λ (v : View). IsSome (page_of v n)) (sym is.0) (subst (λ m. IsSome (page_of old m)) (sym is.1) (ap is_some is.4));
  broken = broken_given inst old n clean (ap (breaks inst.schema inst.root (page_of old)) is.1 ∙ root_breaks);
  ends = tt;
  answers = λ P part fresh. is.5 (ap length (sym (given-page old P inst.root is.3 clean part is.4)) ∙ ap length (fresh inst.root ∙ ap (λ b. cond b zeros []) (eq-eqb inst.root inst.root refl)) ∙ long_zeros);
  spends = λ ctx P part rows before. record { path = tt; room = tt; gets = tt; edits = omega (arith, ap edits_of is.0, edits_before old new P (ap dropped is.0 ∙ clean) clean ctx part) };
}
  where
    formless : (bytes : List ℕ) → length bytes ≢ 4096 → is_heap_page inst.schema (node_of bytes) ≡ false
    formless bytes other = by (has_form bytes) refl
      where
        by : (b : Bool) → has_form bytes ≡ b → is_heap_page inst.schema (cond b (Some (node_in bytes)) None) ≡ false
        by true form = absurd (other (form_size bytes form))
        by false form = refl

    amiss : is_amiss inst.schema (page_of old inst.root) ≡ true
    amiss = ap (is_amiss inst.schema) is.4 ∙ ap not (formless is.3 is.5)

    root_breaks : breaks inst.schema inst.root (page_of old) inst.root ≡ true
    root_breaks =
        and_from (not (nat_eq inst.root 0) && is_amiss inst.schema (page_of old inst.root)) (has_bytes (page_of old inst.root) && nat_lt inst.root 65536 || is_linked inst.root (page_of old) inst.root)
        (and_from (not (nat_eq inst.root 0)) (is_amiss inst.schema (page_of old inst.root)) (ap not (ne_eqb inst.root 0 is.2)) amiss)
        (or_right (has_bytes (page_of old inst.root) && nat_lt inst.root 65536) (is_linked inst.root (page_of old) inst.root) (ap (λ b. b || is_named inst.root (page_of old) inst.root) (eq-eqb inst.root inst.root refl)))
