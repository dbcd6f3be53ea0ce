-- An attachment of another author: no new row has a number above the one byte of the desc.
use Rattle.std.specs.Prelude.{ℕ, ◌==◌, nat_le, Bool, true, false, List, [], ◌∷◌, length, Option, pos, negsuc}
use Rattle.sb_value.specs.declared.value.Value.TheVariants.{Int}
use Rattle.sb_relation.specs.Changes.{of_new}
use Rattle.sb_relation.specs.Content.{Content, no_content}
use Rattle.sb_relation.specs.Db.{Row}
use Rattle.sb_relation.specs.Foreign.{AttachRules, plain_rules}
use Rattle.sb_forms.specs.Pages.{Pages}
use Rattle.sb_ctx.specs.declared.instance.Instance.{Instance}
use Rattle.sb_ctx.specs.Attachment.{Attachment, plain_attachment}
use Rattle.sb_foreign.specs.Watched.{always}

-- the number isn't above the one byte of the desc
abbrev pub is_within : List ℕ → Row → Bool
is_within (most ∷ []) (Int (pos number) ∷ []) = nat_le number most
is_within (most ∷ []) (Int (negsuc number) ∷ []) = true
is_within _ _ = false

-- an instance whose root has bytes, and which keeps nothing in it
abbrev pub nothing_kept : Instance → Pages → Option Content
nothing_kept = always no_content

abbrev pub limit_rules : AttachRules
limit_rules = record (plain_rules 1000) { fits = λ schema desc. length desc == 1; admits = λ desc db name c. of_new c (λ key new. is_within desc new) }

abbrev pub limit : Attachment
limit = plain_attachment limit_rules nothing_kept
