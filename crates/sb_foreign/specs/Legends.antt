-- An attachment of another author: its entries are the same over any rows, and no page keeps them.
use Rattle.std.specs.Prelude.{ℕ, ◌==◌, [], ◌∷◌, length, map}
use Rattle.sb_relation.specs.declared.image.Image.{Image}
use Rattle.sb_relation.specs.Content.{content_of}
use Rattle.sb_relation.specs.Foreign.{AttachRules, plain_rules}
use Rattle.sb_relation.specs.Images.{Entry, entries_only}
use Rattle.sb_ctx.specs.Attachment.{Attachment, plain_attachment}
use Rattle.sb_foreign.specs.declared.legend.TheConstants.{SIGNS}
use Rattle.sb_foreign.specs.Watched.{always}

-- the entry of a sign: the sign alone, and no bytes
abbrev pub entry_of : ℕ → Entry
entry_of sign = (sign ∷ [], [])

-- an entry for each sign, and no sums
abbrev pub legend_image : Image
legend_image = entries_only (map entry_of SIGNS)

abbrev pub legend_rules : AttachRules
legend_rules = record (plain_rules 1003) { fits = λ schema desc. length desc == 0; image = λ desc schema rows. legend_image }

abbrev pub legend : Attachment
legend = plain_attachment legend_rules (always (content_of legend_image [] 0))
