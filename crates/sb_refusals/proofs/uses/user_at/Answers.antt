use Rattle.std.proofs.Common.{cond, None, bytes_eq, ◌≡◌, ◌==◌, ◌∙◌, ap, List, Option, option_map, option_copied}
use Rattle.std.specs.List.{find}
use Rattle.std.proofs.lemmas.Result.{IfOk-weaker}
use Rattle.sb_relation.specs.Db.{Relation}
use Rattle.sb_catalog.specs.declared.descriptor.Attached.{Attached}
use Rattle.sb_catalog.specs.Descriptors.{IsDescriptorOf}
use Rattle.sb_plain.specs.Refusing.{ties_to}
use Rattle.sb_refusals.specs.Uses.{user_at}
use Rattle.sb_refusals.proofs.Users.{tied, coded}
use Rattle.sb_refusals.proofs.uses.user_at.Goals as goal

pub returns-in-Drop : goal.returns-in-Drop
returns-in-Drop c =
    IfOk-weaker c.name_of.result (λ x. x ≡ option_map (λ a. a.name) (option_copied c.tied_elsewhere.result))
    (λ x. (r : Relation) → IsDescriptorOf r c.args.descriptor.now → x ≡ user_at c.args.command.now c.args.name.now r)
    (λ x e r of. tied c.args.command.now c.in-Drop.relation c.args.name.now c.args.descriptor.now r x (option_copied c.tied_elsewhere.result) c.in-Drop.is
    (c.tied_elsewhere.ensures
    ∙ ap (λ (xs : List Attached). cond {A = Option Attached} (bytes_eq c.args.name.now c.in-Drop.relation) None (find (λ a. ties_to c.in-Drop.relation a.rule) xs)) c.as_slice-attachments.ensures) e of)
    c.name_of.ensures

pub returns-else-method : goal.returns-else-method
returns-else-method c =
    IfOk-weaker c.name_of-else-method.result (λ x. x ≡ option_map (λ a. a.name) (option_copied c.coded_in.result))
    (λ x. (r : Relation) → IsDescriptorOf r c.args.descriptor.now → x ≡ user_at c.args.command.now c.args.name.now r)
    (λ x e r of. coded c.args.command.now c.in-Retire.method c.in-Retire.code c.args.name.now c.args.descriptor.now r x (option_copied c.coded_in.result) c.in-Retire.is c.if-method.false
    (c.coded_in.ensures ∙ ap (λ (xs : List Attached). find (λ a. a.code == c.in-Retire.code) xs) c.as_slice-attachments.ensures) e of) c.name_of-else-method.ensures
