use Rattle.std.proofs.Common.{inl, inr, ◌<◌, length, refl, sym, ◌∙◌, arith}
use Rattle.sb_recover.specs.Frames.{texts, frame_at}
use Rattle.sb_recover.proofs.FrameLemmas.{length-texts, frame_at-empty, frame_at-some, HoldsFirst-put}
use Rattle.sb_recover.proofs.RestoredLemmas.{some_has}
use Rattle.sb_recover.proofs.restored.hold_page.Goals as goal

pub index-requires : goal.index-requires
index-requires g c =
    let count = c.requires.frames.count_is in let l = length-texts c.args.frames.now.items in let ok = c.args.frames.now.ok.0 in let below = c.requires.page in
    omega (arith, count, l, ok, below)

pub index_mut-requires : goal.index_mut-requires
index_mut-requires g c =
    let count = c.requires.frames.count_is in let l = length-texts c.args.frames.now.items in let ok = c.args.frames.now.ok.0 in let below = c.requires.page in
    omega (arith, count, l, ok, below)

pub returns-in_ok-frames-clause-held : goal.returns-in_ok-frames-clause-held
returns-in_ok-frames-clause-held g c =
    let count = c.requires.frames.count_is in let l = length-texts c.args.frames.now.items in let below = c.requires.page in
    let within : c.args.page < length c.args.frames.now.items = omega (arith, count, l, below) in
    let none = frame_at-empty c.args.frames.now.items c.args.page c.index.result.now within c.index.ensures c.is_empty.result c.is_empty.ensures c.if-is_empty.true in
    inr (record {
      bytes = c.in_ok-frames.field-0.items;
      long = c.in_ok-frames.ensures.long;
      is_page = c.in_ok-frames.ensures.page;
      none = none;
      holds = HoldsFirst-put c.args.frames.now.items c.args.page c.in_ok-frames.field-0 c.in_ok-frames.field-0.items within none refl;
    })

pub returns-else-is_empty-clause-held : goal.returns-else-is_empty-clause-held
returns-else-is_empty-clause-held g c =
    let count = c.requires.frames.count_is in let l = length-texts c.args.frames.now.items in let below = c.requires.page in
    let within : c.args.page < length c.args.frames.now.items = omega (arith, count, l, below) in
    let some = frame_at-some c.args.frames.now.items c.args.page c.index.result.now within c.index.ensures c.is_empty.result c.is_empty.ensures c.if-is_empty.false in
    inl (some_has (frame_at (texts c.args.frames.now.items) c.args.page) (λ none. some.1 (sym some.0 ∙ none)), refl)
