-- The nodes of the pages that a Ctx holds.
use Rattle.std.proofs.Common.{◌≡◌, ℕ, false, cond, List, [], length, Option, Some, None, option_map, refl, ap, sym, ◌∙◌}
use Rattle.std.specs.Prelude.{nat_lt}
use Rattle.sb_node.specs.declared.head.Head.{Head}
use Rattle.sb_node.specs.Page.{Node, has_form, node_in, node_of}
use Rattle.sb_node.proofs.Sizes.{head_counts}
use Rattle.sb_forms.specs.Read.{is_full}
use Rattle.sb_forms.specs.Tree.{entries_of}
use Rattle.sb_ctx.specs.View.{HeldPage, View, held_at, page_of}
use Rattle.sb_method_tests.specs.Checker.{IsNodeAt, held_nodes}

none_in : (o : Option HeldPage) → option_map (λ (h : HeldPage). h.now) o ≡ None → elim o as (λ x. List ℕ) [ None ↦ [] | Some h ↦ h.now ] ≡ []
none_in None e = refl
none_in (Some h) e = absurd (cc)

no_form : has_form [] ≡ false
unfolding has_form
no_form = refl

pub node_unheld : (c : View) (n : ℕ) → page_of c n ≡ None → held_nodes c n ≡ None
node_unheld c n none = ap node_of (none_in (held_at c n) none) ∙ ap (λ b. cond b (Some (node_in [])) None) no_form

pub full_at : (c : View) (page : ℕ) (bytes : List ℕ) (head : Head) → IsNodeAt c page bytes head → nat_lt 0 head.count ≡ is_full (held_nodes c) page
full_at c page bytes head at =
    ap (λ (h : Head). nat_lt 0 h.count) at.head_is ∙ ap (λ k. nat_lt 0 k) (head_counts bytes at.form).count
    ∙ sym (ap (λ (o : Option Node). nat_lt 0 (length (entries_of o))) at.node_is)
