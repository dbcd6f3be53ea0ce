use Rattle.std.proofs.Common.{rules, ◌≡◌, IfOk, Result, ℤ, sym, ap, subst, ◌∙◌}
use Rattle.std.specs.Prelude.{FitsSigned}
use Rattle.std.specs.Int.{w64}
use Rattle.std.proofs.lemmas.Int.{to_z-of_z}
use Rattle.std.specs.declared.alloc.AllocError.{AllocError}
use Rattle.std.proofs.lemmas.Result.{IfOk-weaker}
use Rattle.sb_cascade.specs.declared.wish.Wish as code_wish
use Rattle.sb_cascade.specs.Wishes.{wish_of}
use Rattle.sb_relation.specs.Db.{Relation}
use Rattle.sb_fold.specs.declared.refusal.Refusal.{Refusal}
use Rattle.sb_fold.specs.Wishes.{edit_of}
use Rattle.sb_wishes.specs.declared.settling.Edit as code
use Rattle.sb_wishes.specs.Edits.{GivesEdit, edit_raised}
use Rattle.sb_wishes.specs.Wished.{row_wished}
use Rattle.sb_wishes.proofs.CarriedLemmas.{gives_raised}
use Rattle.sb_wishes.proofs.wishing.edit_of.Goals as goal

pub returns-in-Some-old-2-clause-gives : goal.returns-in-Some-old-2-clause-gives
returns-in-Some-old-2-clause-gives c =
    let name = c.args.table.now.relation in
    let schema = c.args.table.now.schema in
    let fits : FitsSigned w64 c.in-Raise.by = search rules in
    IfOk-weaker {X = Result code.Edit Refusal} {Y = AllocError} c.raise.result
    (λ found. GivesEdit (edit_raised name schema c.in-Raise.key c.in-Raise.column c.in-Raise.by c.in-Some-old-2.old) found)
    (λ found. (r : Relation) → r.schema ≡ schema → c.args.old ≡ row_wished r.rows (wish_of c.args.wish.now) → GivesEdit (edit_of name r (wish_of c.args.wish.now)) found)
    (λ found gives r same there.
    subst (λ (w : code_wish.Wish). GivesEdit (edit_of name r (wish_of w)) found) (sym c.in-Raise.is)
    (gives_raised name r schema c.in-Raise.key c.in-Raise.column c.in-Raise.by c.in-Some-old-2.old found same
    (sym c.in-Some-old-2.is ∙ there ∙ ap (λ (w : code_wish.Wish). row_wished r.rows (wish_of w)) c.in-Raise.is) gives))
    (subst (λ (z : ℤ). IfOk c.raise.result (λ found. GivesEdit (edit_raised name schema c.in-Raise.key c.in-Raise.column z c.in-Some-old-2.old) found)) (to_z-of_z w64 c.in-Raise.by fits) c.raise.ensures.gives)
