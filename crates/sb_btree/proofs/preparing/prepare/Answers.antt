use Rattle.std.proofs.Common.{◌≡◌, arith, ℕ, Bool, true, false, cond, List, length, Some, None, nat_lt, refl, sym, ap, ◌∙◌}
use Rattle.sb_ctx.specs.View.{edits_of, page_of}
use Rattle.sb_ctx.proofs.ViewLaws.{room_of-page}
use Rattle.sb_node.specs.Page.{has_form, node_in}
use Rattle.sb_node.proofs.Runs.{form_size}
use Rattle.sb_btree.specs.Broken.{is_no_root}
use Rattle.sb_btree.specs.declared.walk.Stop.TheVariants as stop
use Rattle.sb_btree.proofs.Roots.{no_root_breaks}
use Rattle.sb_btree.proofs.Tops.{edit_given}
use Rattle.sb_btree.proofs.Edits.{edited}
use Rattle.sb_btree.proofs.Written.{edits-whole}
use Rattle.sb_btree.proofs.preparing.prepare.Goals as goal

-- bytes of another length are no page of a tree
no_page : (bytes : List ℕ) → (length bytes ≡ 4096 → ⊥) → is_no_root (Some bytes) ≡ true
no_page bytes other = by (has_form bytes) refl
  where
    by : (b : Bool) → has_form bytes ≡ b → is_no_root (Some bytes) ≡ true
    by true form = absurd (other (form_size bytes form))
    by false form = ap (λ (f : Bool). elim (cond f (Some (node_in bytes)) None) [ None ↦ true | Some n ↦ nat_lt 16 n.head.level ]) form

pub returns-then-page-ne-PAGE_LEN-clause-broken : goal.returns-then-page-ne-PAGE_LEN-clause-broken
returns-then-page-ne-PAGE_LEN-clause-broken c =
    let amiss = ap is_no_root (sym c.in-Some.ensures) ∙ no_page c.in-Some.page.now c.if-page-ne-PAGE_LEN.true in
    no_root_breaks (Unit {0}) (page_of c.args.ctx.now) c.args.root (stop.Broken c.args.root) (refl, amiss)

pub returns-in-Ok-clause-given : goal.returns-in-Ok-clause-given
returns-in-Ok-clause-given c =
    let room = room_of-page c.args.ctx.now c.args.root c.in-Some.page.now (sym c.in-Some.ensures) ∙ c.if-page-ne-PAGE_LEN.false in
    edit_given c.args.ctx.now c.edit.new.self c.args.root c.clear.new.page room (form_size c.clear.new.page c.clear.ensures.form) c.in-Ok.ensures.ok

pub returns-in-Ok-clause-edits : goal.returns-in-Ok-clause-edits
returns-in-Ok-clause-edits c =
    let room = room_of-page c.args.ctx.now c.args.root c.in-Some.page.now (sym c.in-Some.ensures) ∙ c.if-page-ne-PAGE_LEN.false in
    let long = form_size c.clear.new.page c.clear.ensures.form in
    omega (arith, ap edits_of (edited c.args.ctx.now c.edit.new.self c.args.root c.clear.new.page room long c.in-Ok.ensures.ok), edits-whole c.args.ctx.now c.args.root c.clear.new.page room long)
