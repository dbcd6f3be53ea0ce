use Rattle.std.proofs.Common.{rules, ◌≡◌, ◌<◌, Option, List, length, map, get_or, set, sym, ◌∙◌, ap, arith}
use Rattle.std.proofs.lemmas.List.{map-set, length-map, get_or-map}
use Rattle.std.proofs.lemmas.List.Edits.{map_over_more}
use Rattle.std.proofs.lemmas.List.Elements.{All-set}
use Rattle.sb_pool.specs.Frames.{IsFrame, held_of}
use Rattle.sb_pool.specs.State.{Held, cleaned}
use Rattle.sb_pool.proofs.flushing.mark_all_clean.Goals as goal

pub loop-frame-preserved : goal.loop-frame-preserved
loop-frame-preserved c =
    let frames = c.loop-frame.frames in
    let i = c.loop-frame.frame-index in
    let f = c.frame-item.result in
    let new = c.mark_clean.new.self in
    let first : List (Option Held) = map held_of c.args.frames.now in
    let below : i < length first = omega (arith, length-map c.args.frames.now held_of) in
    let old = get_or frames i f in
    let is : held_of old ≡ get_or (map held_of frames) i (held_of old) = sym (get_or-map held_of frames i f (held_of old) (search rules)) in
    record {
      clean = map-set held_of frames i new ∙ ap (λ (h : Option Held). set (map held_of frames) i h) c.mark_clean.ensures.clean
          ∙ map_over_more cleaned first (map held_of frames) i (held_of old) below c.loop-frame.invariant.clean is;
      long = All-set IsFrame frames i new (search rules) c.loop-frame.invariant.long;
    }
