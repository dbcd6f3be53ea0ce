-- What holds of each attachment here: verdicts, and pages whose content is always the same.
use Rattle.std.proofs.Common.{◌≡◌, ◌≢◌, ℕ, Bool, true, false, cond, List, [], Some, None, refl, sym, ap, ◌∙◌, arith, eq-eqb, ◌∷◌}
use Rattle.std.proofs.lemmas.Option.{same_Some}
use Rattle.sb_rule.specs.declared.change.Change.{Change}
use Rattle.sb_rule.specs.declared.change.Change.TheVariants as change
use Rattle.sb_rule.specs.Bound.{row_after}
use Rattle.sb_relation.specs.Changes.{of_new}
use Rattle.sb_relation.specs.Content.{Content, are_rising}
use Rattle.sb_relation.specs.Db.{Row}
use Rattle.sb_relation.specs.Fits.{is_empty}
use Rattle.sb_forms.specs.Pages.{Pages, zeros, new_pages}
use Rattle.sb_ctx.specs.declared.instance.Instance.{Instance}
use Rattle.sb_ctx.specs.Attachment.{plain_attachment}
use Rattle.sb_ctx.specs.Laws.{HoldContent}
use Rattle.sb_ctx.proofs.BoundLaws.{page_count-few}
use Rattle.sb_relation.specs.Foreign.{AttachRules}
use Rattle.sb_foreign.specs.Watched.{always}

-- ---- verdicts
pub of_row : (c : Change) (row : Row) (holds : Row → Bool) → row_after c ≡ Some row → of_new c (λ key new. holds new) ≡ holds row
of_row (change.Insert key new) row holds is = ap holds (same_Some new row is)
of_row (change.Delete key old) row holds is = cc
of_row (change.Update from old to new) row holds is = ap holds (same_Some new row is)

-- a change without a new row
pub of_none : (c : Change) (holds : Row → Bool) → row_after c ≡ None → of_new c (λ key new. holds new) ≡ true
of_none (change.Insert key new) holds is = cc
of_none (change.Delete key old) holds is = refl
of_none (change.Update from old to new) holds is = cc

-- ---- a new instance
pub root_of_new : (P : Pages) (root : ℕ) → P root ≡ new_pages root root → P root ≡ zeros
root_of_new P root new = new ∙ ap (λ t. cond t zeros []) (eq-eqb root root refl)

some_zeros : is_empty zeros ≡ false
unfolding zeros
some_zeros = refl

-- it has that content
pub Keeps-new : (content : Content) (inst : Instance) (P : Pages) → P inst.root ≡ new_pages inst.root inst.root → always content inst P ≡ Some content
Keeps-new content inst P new = ap (λ (page : List ℕ). cond (is_empty page) None (Some content)) (root_of_new P inst.root new) ∙ ap (λ t. cond t None (Some content)) some_zeros

-- ---- pages whose content is always the same
pub record IsAlways (always_is : Content) (inst : Instance) (P : Pages) (content : Content) : Type 0 where
  pub root : P inst.root ≢ []
  pub is : content ≡ always_is

pub IsAlways-held : (always_is : Content) (inst : Instance) (P : Pages) (content : Content) → always always_is inst P ≡ Some content → IsAlways always_is inst P content
IsAlways-held always_is inst P content holds = by (P inst.root) refl holds
  where
    by : (page : List ℕ) → P inst.root ≡ page → cond (is_empty page) None (Some always_is) ≡ Some content → IsAlways always_is inst P content
    by [] is kept = cc
    by (b ∷ page) is kept = record { root = λ none. some (sym is ∙ none); is = sym (same_Some always_is content kept) }
      where
        some : (b ∷ page ≡ []) → ⊥
        some e = cc

pub HoldContent-always : (rules : AttachRules) (always_is : Content) → are_rising always_is.entries ≡ true → (inst : Instance) (P : Pages) (content : Content) → always always_is inst P ≡ Some content
    → HoldContent (plain_attachment rules (always always_is)) inst P content
HoldContent-always rules always_is rising inst P content holds =
    let held = IsAlways-held always_is inst P content holds in
    record {
      rising = ap (λ (c : Content). are_rising c.entries) held.is ∙ rising;
      root = λ owned. held.root;
      bound = λ are. omega (arith, page_count-few P);
      whole = λ held n some. refl;
    }
