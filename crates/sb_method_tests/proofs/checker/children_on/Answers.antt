use Rattle.std.proofs.Common.{◌≡◌, ◌&&◌, ◌++◌, ap, arith, length, map, sym, true, ◌∙◌}
use Rattle.std.specs.Prelude.{nat_eq, nat_lt}
use Rattle.std.proofs.lemmas.List.{append-nil}
use Rattle.std.proofs.Math.ListN.{length-map}
use Rattle.sb_node.specs.declared.head.Head.{Head}
use Rattle.sb_node.specs.Page.{node_in}
use Rattle.sb_node.proofs.Runs.{count_short, head_count}
use Rattle.sb_node.proofs.Sizes.{head_counts}
use Rattle.sb_forms.specs.Read.{all_by, is_bound}
use Rattle.sb_forms.specs.Tree.{child_of}
use Rattle.sb_method_tests.specs.Checker.{child_read}
use Rattle.sb_method_tests.proofs.Spelled.{inner_is, not_inner}
use Rattle.sb_method_tests.proofs.checker.children_on.Goals as goal

pub returns-then-not-is_inner_head : goal.returns-then-not-is_inner_head
returns-then-not-is_inner_head c =
    not_inner c.args.level (node_in c.args.bytes.now) (head_counts c.args.bytes.now c.requires.form).count
    (ap (λ (h : Head). (nat_eq h.kind 3 && nat_eq h.level c.args.level) && nat_lt 0 h.count) (sym c.requires.head) ∙ sym c.is_inner_head.ensures ∙ c.if-not-is_inner_head.true)

pub returns : goal.returns
returns c =
    let page = c.args.bytes.now in
    let count = (head_counts page c.requires.form).count in
    let bounds : all_by is_bound (node_in page).entries ≡ true = sym c.loop-key.invariant.bounds ∙ ap (all_by is_bound) c.in-None.ensures.steps.0 in
    let parts = inner_is c.args.level (node_in page) count
    (ap (λ (h : Head). (nat_eq h.kind 3 && nat_eq h.level c.args.level) && nat_lt 0 h.count) (sym c.requires.head) ∙ sym c.is_inner_head.ensures ∙ c.if-not-is_inner_head.false) bounds in
    let are = sym (append-nil (map child_read c.loop-key.children.items)) ∙ ap (λ es. map child_read c.loop-key.children.items ++ map child_of es) (sym c.in-None.ensures.steps.0) ∙ c.loop-key.invariant.so_far in
    record {
      inner = parts.0;
      full = parts.1;
      are = are;
      few = omega (arith, ap length are, length-map (node_in page).entries child_of, count, count_short page c.requires.form, head_count page);
    }
