-- The box of a rule without pages keeps the law of attachments, and takes no pages.
use Rattle.std.proofs.Common.{suc, ◌≡◌, ℕ, ◌≤◌, ◌==◌, Bool, true, false, cond, not, ◌&&◌, List, [], ◌∷◌, length, map, filter, slice_get, Option, Some, None, option_map, refl, sym, ap, subst, ◌∙◌, arith, eq-eqb, eqb-true, true≢false}
use Rattle.std.specs.List.{range_with_len, find as first}
use Rattle.std.proofs.lemmas.Bool.{and_parts, cond-true}
use Rattle.std.proofs.lemmas.List.{length-map}
use Rattle.std.proofs.lemmas.Option.{same_Some}
use Rattle.sb_value.specs.Equal.{bytes_same}
use Rattle.sb_rule.specs.declared.change.Change.{Change}
use Rattle.sb_rule.specs.declared.rule.Rule.{Rule}
use Rattle.sb_relation.specs.Content.{Content, no_content}
use Rattle.sb_relation.specs.Db.{Key, Row, Db}
use Rattle.sb_relation.specs.Fits.{is_empty}
use Rattle.sb_relation.specs.Images.{Entry}
use Rattle.sb_forms.specs.Pages.{Pages, page_numbers, page_count, new_pages}
use Rattle.sb_ctx.specs.declared.instance.Instance.{Instance}
use Rattle.sb_ctx.specs.declared.calls.AttachCall.{AttachCall}
use Rattle.sb_ctx.specs.declared.calls.AttachCall.TheVariants as call
use Rattle.sb_ctx.specs.declared.moves.Move.{Move}
use Rattle.sb_ctx.specs.declared.moves.Move.TheVariants.{Done, Need, Fresh, Broken, End, Sums as Summed, NoMemory}
use Rattle.sb_ctx.specs.View.{HeldPage, View, held_at, is_edited, is_freed, edited_pages, fresh_pages, freed_pages, edits_of, IsClean, HoldsPart}
use Rattle.sb_ctx.specs.Held.{Entries}
use Rattle.sb_ctx.proofs.HeldLaws.{page_in-place}
use Rattle.sb_ctx.proofs.ViewLaws.{given-page, stored-clean}
use Rattle.sb_ctx.specs.Attachment.{IsOwned, StandsOn, keeps_pages}
use Rattle.sb_ctx.specs.Sized.{IsCtx}
use Rattle.sb_ctx.specs.MethodAnswers.{HasRoom}
use Rattle.sb_ctx.specs.AttachAnswers.{AsksFor, IsBroken, MayEnd, Answers, IsOnPath, Costs, most_pages, Spends, Reads, NextIs, is_entry_above, Changes, Looks, first_content}
use Rattle.sb_ctx.specs.Laws.{HoldContent, IsAttachment}
use Rattle.sb_ctx.proofs.BoundLaws.{count_below}
use Rattle.sb_rules.specs.Pageless.{pageless}

-- ---- the law
none_kept : (p : ℕ → Bool) → ((n : ℕ) → p n ≡ false) → (ns : List ℕ) → filter p ns ≡ []
none_kept p none [] = refl
none_kept p none (n ∷ ns) = ap (λ b. cond b (n ∷ filter p ns) (filter p ns)) (none n) ∙ none_kept p none ns

no_count : (P : Pages) → ((n : ℕ) → P n ≡ []) → page_count P ≡ 0
unfolding page_numbers
no_count P none = ap (λ (ns : List ℕ). length ns) (none_kept (λ n. not (is_empty (P n))) (λ n. ap (λ (bytes : List ℕ). not (is_empty bytes)) (none n)) (range_with_len 0 65536))

both : (a b : Bool) → a ≡ true → b ≡ true → (a && b) ≡ true
both a b e f = ap (λ c. c && b) e ∙ f

pub formed : (code : ℕ) (inst : Instance) (P : Pages) → inst.owner ≡ 0 → ((n : ℕ) → P n ≡ []) → (pageless code).content inst P ≡ Some no_content
formed code inst P owner none =
    cond-true (inst.owner == 0 && page_count P == 0) (Some no_content) None
    (both (inst.owner == 0) (page_count P == 0) (eq-eqb inst.owner 0 owner) (eq-eqb (page_count P) 0 (no_count P none)))

holds : (code : ℕ) (inst : Instance) (P : Pages) (content : Content) → (pageless code).content inst P ≡ Some content → HoldContent (pageless code) inst P content
holds code inst P content is = by (inst.owner == 0 && page_count P == 0) refl is
  where
    by : (b : Bool) → (inst.owner == 0 && page_count P == 0) ≡ b → cond b (Some no_content) None ≡ Some content → HoldContent (pageless code) inst P content
    by false fails is = cc
    by true passes is =
        let parts = and_parts (inst.owner == 0) (page_count P == 0) passes in
        let none : page_count P ≡ 0 = eqb-true (page_count P) 0 parts.1 in
        subst (HoldContent (pageless code) inst P) (same_Some no_content content is) (record {
          rising = refl;
          root = λ owned. absurd (owned (eqb-true inst.owner 0 parts.0));
          bound = λ pages. omega (arith, none);
          whole = λ held n some. refl;
        })

no_content-only : (code : ℕ) (inst : Instance) (P : Pages) (content : Content) → (pageless code).content inst P ≡ Some content → no_content ≡ content
no_content-only code inst P content is = by (inst.owner == 0 && page_count P == 0) is
  where
    by : (b : Bool) → cond b (Some no_content) None ≡ Some content → no_content ≡ content
    by true is = same_Some no_content content is
    by false is = cc

pub IsAttachment-pageless : (code : ℕ) → keeps_pages code ≡ false → IsAttachment (pageless code)
IsAttachment-pageless code none = record { pageless = λ none_kept inst P owner none. formed code inst P owner none; searches = λ content query. refl; idle = λ none_kept c before after. refl; standard = λ ours content. omega arith; charged = λ keeps. absurd (true≢false (sym keeps ∙ none)); inserts = λ key row before after. omega arith; formed = holds code }

-- ---- nothing is made of the pages
and_false : (b : Bool) → (b && false) ≡ false
and_false true = refl
and_false false = refl

not_edited : (h : HeldPage) → h.now ≡ h.given → is_edited h ≡ true → ⊥
not_edited h same edited =
    true≢false (sym edited ∙ ap (λ b. not (is_empty h.now) && not b) ((bytes_same h.now h.given).1 same) ∙ and_false (not (is_empty h.now)))

not_freed : (h : HeldPage) → h.now ≡ h.given → is_freed h ≡ true → ⊥
not_freed h same freed = by h.now (ap (λ (bytes : List ℕ). is_empty h.now && not (is_empty bytes)) same ∙ freed)
  where
    by : (bytes : List ℕ) → (is_empty bytes && not (is_empty bytes)) ≡ true → ⊥
    by [] e = cc
    by (b ∷ bytes) e = cc

abbrev taken_of : Entries → List (ℕ × Bool)
taken_of held = map (λ (e : ℕ × HeldPage). (e.0, not (is_empty e.1.now))) (filter (λ (e : ℕ × HeldPage). e.1.fresh) held)

none_taken : (held : Entries) → ((i : ℕ) (e : ℕ × HeldPage) → slice_get held i ≡ Some e → e.1.fresh ≡ true → e.1.now ≡ []) → length (filter (λ (e : ℕ × Bool). e.1) (taken_of held)) ≡ 0
none_taken [] all = refl
none_taken (x ∷ held) all =
    let rest = none_taken held (λ i e is fresh. all (suc i) e is fresh) in
    elim x.1.fresh as (λ b. x.1.fresh ≡ b → length (filter (λ (e : ℕ × Bool). e.1) (map (λ (e : ℕ × HeldPage). (e.0, not (is_empty e.1.now)))
    (cond b (x ∷ filter (λ (e : ℕ × HeldPage). e.1.fresh) held) (filter (λ (e : ℕ × HeldPage). e.1.fresh) held)))) ≡ 0) [
      | true ↦ λ fresh.
          ap (λ (bytes : List ℕ). length (cond (not (is_empty bytes)) ((x.0, not (is_empty bytes)) ∷ filter (λ (e : ℕ × Bool). e.1) (taken_of held)) (filter (λ (e : ℕ × Bool). e.1) (taken_of held))))
          (all 0 x refl fresh) ∙ rest
      | false ↦ λ old. rest
    ] refl

no_edits : (c : View) (P : Pages) → IsCtx c → IsClean c → HoldsPart c P → edits_of c ≤ 0
no_edits c P ctx clean part = omega (arith, edited, freed, taken)
  where
    as_it_was : (n : ℕ) (h : HeldPage) → held_at c n ≡ Some h → h.now ≡ h.given
    as_it_was n h there = sym (given-page c P n h.now clean.unchanged part (ap (option_map (λ (h : HeldPage). h.now)) there)) ∙ part.pages n h there

    edited : length (edited_pages c) ≤ 0
    edited =
        subst (λ n. n ≤ 0) (sym (length-map (filter (λ e. is_edited e.1) c.held) (λ e. e.0)))
        (count_below is_edited c.held 0 ctx.sound.rises (λ n h there is. absurd (not_edited h (as_it_was n h there) is)))

    freed : length (freed_pages c) ≤ 0
    freed =
        subst (λ n. n ≤ 0) (sym (length-map (filter (λ e. is_freed e.1) c.held) (λ e. e.0)))
        (count_below is_freed c.held 0 ctx.sound.rises (λ n h there is. absurd (not_freed h (as_it_was n h there) is)))

    taken : length (filter (λ (e : ℕ × Bool). e.1) (fresh_pages c)) ≡ 0
    taken = none_taken c.held (λ i e is fresh.
        let there = page_in-place c.held i e ctx.sound.rises is in
        as_it_was e.0 e.1 there ∙ ctx.sound.fresh e.0 e.1 there fresh)

-- ---- calls that ask for no page
abbrev pub AsksNoPage : Move → Type 0
AsksNoPage (Need n) = ⊥
AsksNoPage Fresh = ⊥
AsksNoPage (Broken n) = ⊥
AsksNoPage move = Unit {0}

on_path : (code : ℕ) (inst : Instance) (c : AttachCall) (P : Pages) (move : Move) → AsksNoPage move → IsOnPath (pageless code) inst c P move
on_path code inst c P (Need n) none = absurd none
on_path code inst c P move none = tt

has_room : (most : ℕ) (P : Pages) (c : View) (move : Move) → AsksNoPage move → HasRoom most P c move
has_room most P c Fresh none = absurd none
has_room most P c move none = tt

not_broken : (code : ℕ) (inst : Instance) (c : View) (move : Move) → AsksNoPage move → IsBroken (pageless code) inst c move
not_broken code inst c (Broken n) none = absurd none
not_broken code inst c move none = tt

spends : (code : ℕ) (inst : Instance) (c : AttachCall) (old : View) (P : Pages) (move : Move) → AsksNoPage move → IsClean old → IsCtx old → HoldsPart old P → Spends (pageless code) inst c old P old move
spends code inst c old P move none clean ctx part = by c
  where
    costs : (c : AttachCall) (before after : Content) → Costs (pageless code) inst c P before after old move
    costs c before after = record { path = on_path code inst c P move none; room = has_room (most_pages (pageless code) c before after) P old move none; edits = no_edits old P ctx clean part }

    by : (c : AttachCall) → Spends (pageless code) inst c old P old move
    by call.Prepare = λ at rule db stands. costs call.Prepare _ _
    by (call.Build key row) = λ rule db stands built buckets before. costs (call.Build key row) _ _
    by (call.Changed change) = λ rule db stands buckets before. costs (call.Changed change) _ _
    by (call.Late entry) = λ rule db stands buckets before. on_path code inst (call.Late entry) P move none
    by (call.NextEntry low above) = λ formed. on_path code inst (call.NextEntry low above) P move none
    by call.Sums = λ formed. on_path code inst call.Sums P move none
    by (call.Seek query) = λ formed. on_path code inst (call.Seek query) P move none

pub changes : (code : ℕ) (inst : Instance) (c : AttachCall) (old : View) (move : Move) → IsClean old → AsksNoPage move → AsksFor old move → MayEnd c move
    → ((P : Pages) → Answers (pageless code) inst c old P P move) → Changes (pageless code) inst c old old move
changes code inst c old move clean none asks ends answers = record {
  given = clean.unchanged;
  asks = asks;
  broken = not_broken code inst old move none;
  ends = ends;
  answers = λ P part. subst (λ after. Answers (pageless code) inst c old P after move) (sym (stored-clean old P clean.unchanged part)) (answers P);
  spends = λ ctx P part. spends code inst c old P move none clean ctx part;
}

pub looks : (code : ℕ) (inst : Instance) (entry : List ℕ) (old : View) (move : Move) → AsksNoPage move → Reads (call.Late entry) move → AsksFor old move → MayEnd (call.Late entry) move
    → ((P : Pages) → Answers (pageless code) inst (call.Late entry) old P P move) → Looks (pageless code) inst (call.Late entry) old old move
looks code inst entry old move none reads asks ends answers = record {
  same = refl;
  reads = reads;
  asks = asks;
  broken = not_broken code inst old move none;
  ends = ends;
  answers = λ P part. answers P;
  spends = λ P part rule db stands buckets before. on_path code inst (call.Late entry) P move none;
}

-- ---- the first call, and want of memory
pub Changes-prepared : (code : ℕ) (inst : Instance) (old : View) → keeps_pages code ≡ false → ((rule : Rule) (db : Db) → StandsOn (pageless code) inst rule db → first_content (pageless code) inst rule db ≡ no_content)
    → IsClean old → IsOwned (keeps_pages code) inst → Changes (pageless code) inst call.Prepare old old Done
Changes-prepared code inst old no_pages none clean owned = changes code inst call.Prepare old Done clean tt tt tt (λ P at rule db stands.
    formed code inst P (subst (λ b. IsOwned b inst) no_pages owned) (λ n. at n ∙ ap (λ b. cond b (new_pages inst.root n) []) no_pages) ∙ ap Some (sym (none rule db stands)))

pub Changes-memory-build : (code : ℕ) (inst : Instance) (key : Key) (row : Row) (old : View) → IsClean old → Changes (pageless code) inst (call.Build key row) old old NoMemory
Changes-memory-build code inst key row old clean = changes code inst (call.Build key row) old NoMemory clean tt tt tt (λ P. tt)

pub Changes-memory : (code : ℕ) (inst : Instance) (ch : Change) (old : View) → IsClean old → Changes (pageless code) inst (call.Changed ch) old old NoMemory
Changes-memory code inst ch old clean = changes code inst (call.Changed ch) old NoMemory clean tt tt tt (λ P. tt)

pub Looks-memory : (code : ℕ) (inst : Instance) (entry : List ℕ) (old : View) → Looks (pageless code) inst (call.Late entry) old old NoMemory
Looks-memory code inst entry old = looks code inst entry old NoMemory tt tt tt tt (λ P. tt)

-- ---- what is listed
pub Looks-end : (code : ℕ) (inst : Instance) (low : List ℕ) (above : Option Entry) (old : View) → Looks (pageless code) inst (call.NextEntry low above) old old End
Looks-end code inst low above old = record {
  same = refl;
  reads = tt;
  asks = tt;
  broken = tt;
  ends = tt;
  answers = λ P part content is. subst (λ (c : Content). NextIs (first (is_entry_above low above) c.entries) End) (no_content-only code inst P content is) refl;
  spends = λ P part formed. tt;
}

pub Looks-sums : (code : ℕ) (inst : Instance) (old : View) → Looks (pageless code) inst call.Sums old old (Summed [])
Looks-sums code inst old = record {
  same = refl;
  reads = tt;
  asks = tt;
  broken = tt;
  ends = tt;
  answers = λ P part content is. ap (λ (c : Content). Summed c.sums) (no_content-only code inst P content is);
  spends = λ P part formed. tt;
}
