use Rattle.std.proofs.Common.{◌≡◌, ℕ, ◌<◌, [], ◌∷◌, length, sym, subst, IfSome}
use Rattle.sb_bytes.specs.Bytes.{splice}
use Rattle.sb_ctx.specs.View.{page_of, with_page}
use Rattle.sb_ctx.proofs.BoundLaws.{Changes-memory, Changes-need}
use Rattle.sb_foreign.specs.Strips.{strip, strip_of}
use Rattle.sb_foreign.proofs.StripLaws.{boundless_strip, Changes-inserted, Changes-unwritten, room-strip}
use Rattle.sb_foreign.proofs.strip.StripStorageMethod.insert.Goals as goal

pub edit-requires-clause-room : goal.edit-requires-clause-room
edit-requires-clause-room c =
    room-strip c.args.ctx.now c.args.inst.now.root c.from.result c.in-Some-page.page.now (sym c.in-Some-page.ensures)
    (subst (λ (n : ℕ). n < length (strip_of c.in-Some-page.page.now)) (sym c.from.ensures) c.in-Some-find_free.ensures.within)

pub returns-in-Ok-edit : goal.returns-in-Ok-edit
returns-in-Ok-edit c =
    Changes-inserted c.args.inst.now c.args.tuple.now c.args.ctx.now c.edit.new.self c.in-Some-page.page.now c.in-Ok.key c.in-Some-find_free.place c.in-Some.byte
    c.requires.clean.unchanged (sym c.in-Some-page.ensures) c.in-Some-find_free.ensures.place c.in-Some-find_free.ensures.within c.in-Ok.ensures c.in-Some.ensures.some c.in-Some.ensures.small c.in-Some.ensures.row
    (subst (λ (n : ℕ). IfSome (page_of c.args.ctx.now c.args.inst.now.root) (λ page. c.edit.new.self ≡ with_page c.args.inst.now.root (splice n (c.in-Some.byte ∷ []) page) c.args.ctx.now)) c.from.ensures c.in-Ok-edit.ensures.ok)

pub returns-in_default : goal.returns-in_default
returns-in_default c = Changes-memory strip _ _ _ boundless_strip c.requires.clean.unchanged

pub returns-in_default-page : goal.returns-in_default-page
returns-in_default-page c = Changes-need strip _ _ _ c.args.inst.now.root boundless_strip c.requires.clean.unchanged (sym c.in_default-page.ensures)

pub returns-in_default-find_free : goal.returns-in_default-find_free
returns-in_default-find_free c = Changes-memory strip _ _ _ boundless_strip c.requires.clean.unchanged

pub returns-in_default-key_of : goal.returns-in_default-key_of
returns-in_default-key_of c = Changes-memory strip _ _ _ boundless_strip c.requires.clean.unchanged

pub returns-in-Err : goal.returns-in-Err
returns-in-Err c = Changes-unwritten _ _ _ _ c.requires.clean.unchanged c.in-Err.ensures.err
