-- What the box of a rule without pages means, and how it answers.
use Rattle.std.specs.Prelude.{◌≡◌, ◌⊎◌, ℕ, ◌==◌, false, cond, ◌&&◌, Some, None}
use Rattle.sb_relation.specs.Content.{no_content}
use Rattle.sb_relation.specs.Foreign.{plain_rules}
use Rattle.sb_forms.specs.Pages.{page_count}
use Rattle.sb_ctx.specs.Attachment.{Attachment, plain_attachment}
use Rattle.sb_ctx.specs.declared.moves.Move.{Move}
use Rattle.sb_ctx.specs.declared.moves.Move.TheVariants.{NoMemory}

-- It has no owner, no pages and no content. It takes no page, edits none and asks for none. What it admits, the rule says; all but the code is for codes of others.
abbrev pub pageless : ℕ → Attachment
pageless code = record (plain_attachment (plain_rules code) (λ inst P. cond (inst.owner == 0 && page_count P == 0) (Some no_content) None)) {
  bound = λ content. 0;
  cost = λ c before after. 0;
  path = λ inst P c n. false;
}

-- this one, or want of memory
abbrev pub IsOrMemory : Move → Move → Type 0
IsOrMemory wanted move = (move ≡ wanted) ⊎ (move ≡ NoMemory)
