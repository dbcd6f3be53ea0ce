use Rattle.std.proofs.Common.{[], map, sym, ◌∙◌, ap}
use Rattle.std.proofs.lemmas.List.{map-append}
use Rattle.sb_registry.specs.Codes.{first_repeat}
use Rattle.sb_registry.proofs.CodesLemmas.{in_one, in_two}
use Rattle.sb_registry.proofs.coded.first_repeated.Goals as goal

pub returns-in-Some : goal.returns-in-Some
returns-in-Some g c =
    in_one (map g.B.Coded.code_of c.args.live.now) (map g.B.Coded.code_of c.args.spare.now) c.in-Some.code (sym c.first_repeated_behind.ensures ∙ c.in-Some.is)
    ∙ ap (first_repeat []) (sym (map-append g.B.Coded.code_of c.args.live.now c.args.spare.now))

pub returns-in-None : goal.returns-in-None
returns-in-None g c =
    in_two (map g.B.Coded.code_of c.args.live.now) (map g.B.Coded.code_of c.args.spare.now) _ (sym c.first_repeated_behind.ensures ∙ c.in-None.is) c.first_repeated_behind-in-None.ensures
    ∙ ap (first_repeat []) (sym (map-append g.B.Coded.code_of c.args.live.now c.args.spare.now))
