use Rattle.std.proofs.Common.{List, ℕ, None, refl, subst}
use Rattle.sb_forms.specs.Stored.{IsRowFrom}
use Rattle.sb_btree.specs.Leaves.{entry_in}
use Rattle.sb_treemethod.proofs.Entries.{misspelled_entry}
use Rattle.sb_treemethod.proofs.walks.found.Goals as goal

pub returns-in-Ok-None : goal.returns-in-Ok-None
returns-in-Ok-None c =
    let schema = c.args.inst.now.schema in
    let none = rw c.in-Ok-None.field-0-is at c.in-Ok-None.ensures in
    (refl, misspelled_entry schema c.args.inst.now.key (entry_in c.args.entry) (subst (λ (bytes : List ℕ). IsRowFrom schema bytes None) c.as_slice.ensures none))
