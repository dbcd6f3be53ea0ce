-- A page whose entries were changed: the head fits them, and its other fields are as they were.
use Rattle.std.proofs.Common.{◌≡◌, ℕ, ◌+◌, ◌<◌, ◌≤◌, true, List, length, take, drop, get_or, Some, None, cond, refl, ap, sym, ◌∙◌, arith, length-take, length-drop}
use Rattle.std.proofs.lemmas.List.{ext_get_or, get_or-take, get_or-drop}
use Rattle.sb_bytes.specs.Field.{number_at}
use Rattle.sb_node.specs.Entries.{Entry, sizes}
use Rattle.sb_node.specs.Page.{entries_at, is_filled, has_form, head_in, spare, node_in, node_of, with_entries, Becomes}
use Rattle.sb_node.proofs.Numbers.{number_at-same}
use Rattle.sb_node.proofs.Runs.{formed}
use Rattle.sb_node.proofs.Sizes.{count_is, used_is}

-- the node of a page that has the form
pub node_of-form : (b : List ℕ) → has_form b ≡ true → node_of b ≡ Some (node_in b)
node_of-form b form = ap (λ t. cond t (Some (node_in b)) None) form

-- the bytes of the head, but those of count and used, are as before
pub record SameHead (b c : List ℕ) : Type 0 where
  pub kind : get_or c 0 0 ≡ get_or b 0 0
  pub level : get_or c 1 0 ≡ get_or b 1 0
  pub rest : (j : ℕ) → 6 ≤ j → j < 24 → get_or c j 0 ≡ get_or b j 0

same_slice : (b c : List ℕ) (at n : ℕ) → length c ≡ length b → ((j : ℕ) → at ≤ j → j < at + n → get_or c j 0 ≡ get_or b j 0) → take n (drop at c) ≡ take n (drop at b)
same_slice b c at n long same =
    let lc : length (take n (drop at c)) ≡ length (take n (drop at b)) = simp (length-take, length-drop) (rw long refl) in
    ext_get_or 0 (take n (drop at c)) (take n (drop at b)) lc (λ i lt. each i (omega (arith, lt, length-take n (drop at c))))
  where
    each : (i : ℕ) → i < n → get_or (take n (drop at c)) i 0 ≡ get_or (take n (drop at b)) i 0
    each i lt =
        get_or-take n (drop at c) i 0 lt ∙ get_or-drop at c i 0 ∙ same (at + i) (omega arith) (omega arith) ∙ sym (get_or-take n (drop at b) i 0 lt ∙ get_or-drop at b i 0)

pub same_spare : (b c : List ℕ) → length c ≡ length b → ((j : ℕ) → 18 ≤ j → j < 24 → get_or c j 0 ≡ get_or b j 0) → spare c ≡ spare b
unfolding spare
same_spare b c long same = same_slice b c 18 6 long same

-- a page of this length whose entries fill the bytes in use
pub becomes : (b c : List ℕ) (es : List Entry) → length c ≡ length b → length c ≡ 4096 → number_at 2 c 4 ≤ 4072
    → is_filled c (24 + number_at 2 c 4) None (number_at 2 c 2) 24 ≡ true → entries_at c (number_at 2 c 2) 24 ≡ es → SameHead b c → Becomes b c (with_entries es (node_in b))
unfolding head_in
becomes b c es long size room filled are head =
    let form : has_form c ≡ true = sym (formed c size room) ∙ filled in
    let count : number_at 2 c 2 ≡ length es = sym (count_is c) ∙ ap length are in
    let used : number_at 2 c 4 ≡ sizes es = used_is c form ∙ ap sizes are in
    let pa = number_at-same 4 6 6 b c (λ k lt. head.rest (6 + k) (omega arith) (omega arith)) in
    let pb = number_at-same 4 10 10 b c (λ k lt. head.rest (10 + k) (omega arith) (omega arith)) in
    let pc = number_at-same 4 14 14 b c (λ k lt. head.rest (14 + k) (omega arith) (omega arith)) in
    record {
      form = form;
      node_is = (λ t. record { head = record { kind = head.kind t; level = head.level t; count = count t; used = used t; a = pa t; b = pb t; c = pc t }; entries = are t });
      spare_kept = same_spare b c long (λ j l h. head.rest j (omega arith) h);
    }
