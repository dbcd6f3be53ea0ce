use Rattle.std.proofs.Common.{◌≡◌, sym, ◌∙◌, ap, subst, List, arith}
use Rattle.sb_relation.specs.Db.{Name}
use Rattle.std.proofs.Common.{take, ◌+◌, ◌++◌, ◌∷◌, []}
use Rattle.sb_rules.specs.Checks.{is_in, AreNames}
use Rattle.sb_rules.proofs.Columns.{AreFirst, AreFirst-none, AreFirst-known, AreFirst-new, AreNames-all}
use Rattle.sb_rules.proofs.keeping.names_of.Goals as goal
use Rattle.sb_rules.proofs.keeping.names_of.Goals.{then-not-is_known+in_ok-copy+in_ok-push, else-not-is_known}

pub loop-column-init : goal.loop-column-init
loop-column-init c = subst (AreFirst c.as_slice-column-items.result.now []) (sym c.new-names.ensures.items) (AreFirst-none c.as_slice-column-items.result.now)

pub loop-column-preserved : goal.loop-column-preserved
loop-column-preserved c =
    let schema = c.as_slice-column-items.result.now in
    let i = c.loop-column.column-index in
    let is = c.is_known.ensures ∙ ap (λ (names : List Name). is_in names c.column-item.result.name) c.deref.ensures.value in
    elim c.if-not-is_known.branch [
      | then-not-is_known+in_ok-copy+in_ok-push w ↦
          let names : c.if-not-is_known.names.items ≡ c.loop-column.names.items ++ c.column-item.result.name ∷ [] = grind (arith, w.names-is, w.in_ok-push.ensures.items, w.in_ok-copy.ensures) in
          subst (AreFirst schema (take (i + 1) schema)) (sym names)
          (AreFirst-new schema i c.column-item.result c.loop-column.names.items c.loop-column-test.true c.column-item.is (sym is ∙ w.if-not-is_known.true) c.loop-column.invariant)
      | else-not-is_known w ↦
          let names : c.if-not-is_known.names.items ≡ c.loop-column.names.items = grind (arith, w.names-is) in
          subst (AreFirst schema (take (i + 1) schema)) (sym names)
          (AreFirst-known schema i c.column-item.result c.loop-column.names.items c.loop-column-test.true c.column-item.is (sym is ∙ w.if-not-is_known.false) c.loop-column.invariant)
    ]

pub returns : goal.returns
returns c =
    let schema = c.as_slice-column-items.result.now in
    let all = AreNames-all schema c.loop-column.column-index c.loop-column.names.items c.loop-column-test.false c.loop-column.invariant in
    subst (AreNames c.args.schema.now) (sym c.from_vec.ensures) (subst (λ s. AreNames s c.loop-column.names.items) c.as_slice-column-items.ensures all)
