use Rattle.std.proofs.Common.{refl}
use Rattle.std.proofs.lemmas.Str.{IsUtf8-string_bytes}
use Rattle.sb_codec.proofs.code.text_of.Goals as goal

pub returns-in-Ok-clause-found : goal.returns-in-Ok-clause-found
returns-in-Ok-clause-found c = (λ _. rw (← c.in-Ok.ensures.ok) (IsUtf8-string_bytes c.in-Ok.text), λ _. refl)
