use Rattle.std.proofs.Common.{◌≡◌, Some, ap, sym, subst, ◌∙◌, rules}
use Rattle.sb_forms.specs.Read.{read_tree}
use Rattle.sb_forms.proofs.Maps.{map_tree}
use Rattle.sb_ctx.specs.View.{View, stored}
use Rattle.sb_btree.specs.Inserts.{Inserts, Replaces}
use Rattle.sb_btree.specs.declared.walk.Walk.TheVariants.{Ready}
use Rattle.sb_map.proofs.Changing.{Makes-inserted, Makes-replaced}
use Rattle.sb_map.proofs.Finding.{reads_still}
use Rattle.sb_map.proofs.changes.put_walk.Goals as goal

pub returns-in-Ready-false-clause-makes : goal.returns-in-Ready-false-clause-makes
returns-in-Ready-false-clause-makes c = λ P es part is.
    let root = c.args.root in
    let old = c.args.ctx.now in
    let key = c.args.key.now in
    let value = c.args.value.now in
    let still = reads_still root old P es c.requires.clean part (map_tree root P es is) in
    let kept = subst (Inserts old c.insert.new.ctx root key value P es) (c.in-Ready-false.is ∙ ap Ready c.in-Ready-false.field-0-test) (c.insert.ensures.inserts P es still) in
    let back = c.drop_edits.ensures ∙ c.insert.ensures.given ∙ c.requires.clean in
    let replaced = c.replace.ensures.replaces P es (subst (λ (v : View). read_tree root (stored v P) ≡ Some es) (sym back) still) in
    Makes-replaced old c.replace.new.ctx root key value P es c.replace.result c.requires.clean part is
    (subst (λ (v : View). Replaces v c.replace.new.ctx root key value P es c.replace.result) back replaced) kept.0

pub returns-in_default-clause-makes : goal.returns-in_default-clause-makes
returns-in_default-clause-makes c = λ P es part is.
    let root = c.args.root in
    let old = c.args.ctx.now in
    let still = reads_still root old P es c.requires.clean part (map_tree root P es is) in
    Makes-inserted old c.insert.new.ctx root c.args.key.now c.args.value.now P es _ c.requires.clean part is (c.in_default.ensures.inserts P es still) (search rules)
